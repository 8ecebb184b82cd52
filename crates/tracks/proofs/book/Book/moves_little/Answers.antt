use Rattle.std.proofs.Common.{◌≡◌, ◌≤◌, ℕ, List, length, get_or, ap, subst, below_more, arith}
use Rattle.std.proofs.lemmas.List.Elements.{All-from_get_or}
use Rattle.motion.specs.TickStates.{MovesLittle}
use Rattle.motion.specs.declared.leg.Leg.{Leg}
use Rattle.tracks.specs.Standing.{BookValue, legs_in}
use Rattle.tracks.proofs.Seen.{seen_moves}
use Rattle.tracks.proofs.book.Book.moves_little.Goals as goal

pub loop-at-preserved : goal.loop-at-preserved
loop-at-preserved c =
    let book : BookValue = c.args.self.now in
    below_more (λ (k : ℕ). MovesLittle book.numbers.gap (legs_in book (get_or book.held k 0))) c.loop-at.at c.loop-at.invariant
    (subst (λ (legs : List Leg). MovesLittle book.numbers.gap legs) c.legs_at.ensures.value c.legs_at.ensures.moves)

pub returns : goal.returns
returns c =
    let book : BookValue = c.args.self.now in
    let count : length c.self.inside.held.items ≡ length book.held = ap (λ (b : BookValue). length b.held) c.self.view_is in
    let all : length book.held ≤ c.loop-at.at = omega (arith, c.len-at-end.ensures) in
    seen_moves book (All-from_get_or (λ (m : ℕ). MovesLittle book.numbers.gap (legs_in book m)) book.held 0 (λ k lt. c.loop-at.invariant k (omega arith)))
