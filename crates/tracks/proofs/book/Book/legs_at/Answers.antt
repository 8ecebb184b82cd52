use Rattle.std.proofs.Common.{◌≡◌, ◌∙◌, ℕ, ap, subst}
use Rattle.motion.specs.TickStates.{MovesLittle}
use Rattle.tracks.specs.declared.book.Book.TheInside.{Inside}
use Rattle.tracks.specs.Standing.{BookValue}
use Rattle.tracks.proofs.book.Book.legs_at.Goals as goal

pub returns-clause-moves : goal.returns-clause-moves
returns-clause-moves c =
    let gap : c.from.result ≡ c.args.self.now.numbers.gap =
    c.from.ensures ∙ ap (λ (i : Inside). i.numbers.gap) c.self-inside.view_is ∙ ap (λ (b : BookValue). b.numbers.gap) c.self.view_is in
    subst (λ (g : ℕ). MovesLittle g c.legs-legs.result.now) gap c.moves_little.ensures
