use Rattle.std.proofs.Common.{◌+◌, List, sym, subst, ◌∙◌}
use Rattle.planner.specs.Inner.Legs.{IsPathIn}
use Rattle.planner.specs.Inner.Levels.{AreEarly, AreFollowed, HasTargets}
use Rattle.plan_situations.specs.Prefixes.{reached}
use Rattle.planner.specs.declared.watched.Watched.{Watched}
use Rattle.planner.proofs.Places.{written}
use Rattle.planner.proofs.level.Level.follow_leg.Goals as goal

pub follow_all-requires-clause-path : goal.follow_all-requires-clause-path
follow_all-requires-clause-path c = subst (IsPathIn c.args.situation.now c.args.leg.now) (sym c.deref.ensures.value) c.requires.on.path

pub returns-clause-on : goal.returns-clause-on
returns-clause-on c =
    let old = c.args.self.now.watched in
    let new = c.follow_all.new.watched in
    let places = c.requires.on.places in
    record {
      places = record {
        path = places.path;
        beside = places.beside;
        targets = subst (HasTargets c.args.situation.now c.args.basis.now) (sym (written new old.items old.len (c.follow_all.ensures.targets.count ∙ sym places.targets.count) old.ok.0)) c.follow_all.ensures.targets;
        fits = places.fits;
        room = places.room;
      };
      path = c.requires.on.path;
      bounds = c.requires.on.bounds;
    }

pub returns-clause-early : goal.returns-clause-early
returns-clause-early c = λ e.
    let old = c.args.self.now.watched in
    let new = c.follow_all.new.watched in
    subst (AreEarly (reached c.args.situation.now (c.args.leg.now.index + 1)))
    (sym (written new old.items old.len (c.follow_all.ensures.targets.count ∙ sym c.requires.on.places.targets.count) old.ok.0)) (c.follow_all.ensures.early e)

pub returns-clause-followed : goal.returns-clause-followed
returns-clause-followed c =
    let s = c.args.situation.now in
    let leg = c.args.leg.now in
    let old = c.args.self.now.watched in
    let new = c.follow_all.new.watched in
    subst (λ (xs : List Watched). AreFollowed s c.args.basis.now leg.plan (reached s leg.index) (reached s (leg.index + 1)) c.args.from.now.watched.items xs c.follow_all.result)
    (sym (written new old.items old.len (c.follow_all.ensures.targets.count ∙ sym c.requires.on.places.targets.count) old.ok.0))
    (subst (λ (xs : List Watched). AreFollowed s c.args.basis.now leg.plan (reached s leg.index) (reached s (leg.index + 1)) xs new c.follow_all.result)
    c.deref-2.ensures.value c.follow_all.ensures.followed)
