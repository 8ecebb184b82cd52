use Rattle.std.proofs.Common.{List, sym, subst}
use Rattle.planner.specs.Inner.Levels.{StandsAt}
use Rattle.planner.specs.declared.watched.Watched.{Watched}
use Rattle.planner.proofs.level.Level.ends_broken.Goals as goal

pub returns-clause-breaks : goal.returns-clause-breaks
returns-clause-breaks c = λ plan at le stands.
    c.ends_broken.ensures.breaks plan at le (subst (λ (xs : List Watched). StandsAt c.args.situation.now c.args.basis.now plan at xs) (sym c.deref.ensures.value) stands)
