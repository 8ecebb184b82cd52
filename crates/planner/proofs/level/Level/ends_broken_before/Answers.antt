use Rattle.std.proofs.Common.{List, sym, subst}
use Rattle.planner.specs.Inner.Levels.{StandsAt}
use Rattle.planner.specs.declared.watched.Watched.{Watched}
use Rattle.planner.proofs.level.Level.ends_broken_before.Goals as goal

pub returns-clause-on : goal.returns-clause-on
returns-clause-on c = λ leg on. record {
  places = record { path = on.places.path; beside = on.places.beside; targets = on.places.targets; fits = c.ends_broken.ensures.fits; room = c.ends_broken.ensures.room };
  path = on.path;
  bounds = on.bounds;
}

pub returns-clause-breaks : goal.returns-clause-breaks
returns-clause-breaks c = λ e plan at le stands.
    (c.ends_broken.ensures.breaks plan at le (subst (λ (xs : List Watched). StandsAt c.args.situation.now c.args.basis.now plan at xs) (sym c.deref.ensures.value) stands)).0 e
