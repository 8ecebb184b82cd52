use Rattle.std.proofs.Common.{◌≡◌, ◌∙◌, ◌++◌, ◌<◌, ◌≤◌, ℕ, List, length, map, get_or, ap, sym, subst, arith}
use Rattle.std.specs.List.Sorted.{IsStrictlyIncreasing}
use Rattle.std.specs.Option.{option_to_list}
use Rattle.motion.specs.declared.leg.TickState.{TickState}
use Rattle.tracks.specs.Inner.Keeping.{IsBook}
use Rattle.tracks.specs.SeenVessels.{seen_vessel}
use Rattle.tracks.specs.Standing.{BookValue, legs_in}
use Rattle.tracks.proofs.Seen.{seen_all, seen_ascends, seen_in-is, seen_more}
use Rattle.tracks.proofs.book.Book.look.Goals as goal

pub loop-at-preserved : goal.loop-at-preserved
loop-at-preserved c =
    let book : BookValue = c.args.self.now in
    let count : length c.self.inside.held.items ≡ length book.held = ap (λ (b : BookValue). length b.held) c.self.view_is in
    let lt : c.loop-at.at < length book.held = omega (arith, c.len-at-end.ensures) in
    record {
      kept = c.in_ok-look_at.ensures.more
          ∙ ap (λ (vessels : List (ℕ × TickState)). vessels ++ option_to_list (seen_vessel c.args.time (legs_in book) (get_or book.held c.loop-at.at 0))) c.loop-at.invariant.kept
          ∙ sym (seen_more (seen_vessel c.args.time (legs_in book)) book.held c.loop-at.at lt);
      placed = c.in_ok-look_at.ensures.placed c.loop-at.invariant.placed;
      few = let more = c.look_at.ensures.few in let before = c.loop-at.invariant.few in omega arith;
      capacity = let more = c.look_at.ensures.capacity in let before = c.loop-at.invariant.capacity in omega arith;
    }

pub returns-clause-value : goal.returns-clause-value
returns-clause-value c = λ tracks numbers sent h.
    let book : BookValue = c.args.self.now in
    let count : length c.self.inside.held.items ≡ length book.held = ap (λ (b : BookValue). length b.held) c.self.view_is in
    let all : length book.held ≤ c.loop-at.at = omega (arith, c.len-at-end.ensures) in
    seen_all book c.args.time c.loop-at.at c.loop-at.seen.items all c.loop-at.invariant.kept ∙ seen_in-is book numbers sent c.args.time tracks h

pub returns-clause-kept : goal.returns-clause-kept
returns-clause-kept c =
    let book : BookValue = c.args.self.now in
    let count : length c.self.inside.held.items ≡ length book.held = ap (λ (b : BookValue). length b.held) c.self.view_is in
    let all : length book.held ≤ c.loop-at.at = omega (arith, c.len-at-end.ensures) in
    seen_all book c.args.time c.loop-at.at c.loop-at.seen.items all c.loop-at.invariant.kept

pub returns-clause-ascending : goal.returns-clause-ascending
returns-clause-ascending c =
    let book : BookValue = c.args.self.now in
    let is : IsBook book = subst IsBook c.self.view_is c.self.invariant in
    let count : length c.self.inside.held.items ≡ length book.held = ap (λ (b : BookValue). length b.held) c.self.view_is in
    let all : length book.held ≤ c.loop-at.at = omega (arith, c.len-at-end.ensures) in
    let kept = seen_all book c.args.time c.loop-at.at c.loop-at.seen.items all c.loop-at.invariant.kept in
    subst (λ (vessels : List (ℕ × TickState)). IsStrictlyIncreasing (map (λ (vessel : ℕ × TickState). vessel.0) vessels)) (sym kept)
    (seen_ascends book c.args.time is.ascends)
