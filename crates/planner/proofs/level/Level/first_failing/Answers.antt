use Rattle.std.proofs.Common.{◌≡◌, ℕ, ◌+◌, ◌*◌, ◌/◌, ◌^◌, ◌<◌, take, sym, subst, ◌∙◌}
use Rattle.std.specs.Prelude.{MatchOption}
use Rattle.lattice.specs.Grids.{choices_of}
use Rattle.lattice.specs.PlanNumbers.{plan_of}
use Rattle.plan_situations.specs.FailingPlans.{FailsBy}
use Rattle.plan_situations.specs.Paths.{HasReached}
use Rattle.plan_situations.specs.Prefixes.{reached}
use Rattle.planner.specs.Inner.Legs.{legs_through}
use Rattle.planner.specs.Inner.Levels.{AreEarly, HasPlaces, HasTargets, StandsAt}
use Rattle.planner.specs.Walks.{IsFirstFailing}
use Rattle.planner.proofs.Extending.{first_here, level_before, level_through, none_found, out_before, out_of_all, out_through, shorter_number}
use Rattle.planner.proofs.Places.{beside_leg, written}
use Rattle.planner.proofs.level.Level.first_failing.Goals as goal

pub own_at_leg-own-requires-clause-number : goal.own_at_leg-own-requires-clause-number
own_at_leg-own-requires-clause-number c =
    let C = choices_of c.args.situation.now.lattice in
    subst (λ (n : ℕ). c.args.number / n < C ^ c.args.legs) (sym c.choices.ensures.value)
    (shorter_number C c.args.legs c.args.number c.requires.basis.is_situation.some_choice c.requires.number)

pub first_failing-requires-clause-stands : goal.first_failing-requires-clause-stands
first_failing-requires-clause-stands c =
    let s = c.args.situation.now in
    let leg = c.new-leg.result in
    subst (StandsAt s c.args.basis.now leg.plan (reached s leg.index)) (sym c.deref-2.ensures.value)
    (level_before s leg c.new-leg.ensures.leg c.args.basis.now c.args.from.now.watched.items (rw (c.new-leg.ensures.index, c.new-leg.ensures.number) c.requires.from.stands))

pub first_failing-requires-clause-outside : goal.first_failing-requires-clause-outside
first_failing-requires-clause-outside c =
    out_before c.args.situation.now c.new-leg.result c.new-leg.ensures.leg (rw (c.new-leg.ensures.index, c.new-leg.ensures.number) c.requires.from.outside)

pub returns-clause-keeps : goal.returns-clause-keeps
returns-clause-keeps c = λ e.
    let s = c.args.situation.now in
    let basis = c.args.basis.now in
    let leg = c.new-leg.result in
    let place : HasPlaces s basis leg.index c.args.self.now = rw c.new-leg.ensures.index c.requires.place in
    let on = c.fill_path.ensures basis place in
    let old = c.fill_path.new.self.watched in
    let new = c.first_failing.new.watched in
    let kept = sym (written new old.items old.len (c.first_failing.ensures.targets.count ∙ sym on.places.targets.count) old.ok.0) in
    let passes : ¬ FailsBy s (reached s (leg.index + 1)) leg.plan = none_found _ _ c.first_failing.result e c.first_failing.ensures.first in
    record {
      targets = subst (HasTargets s basis) kept c.first_failing.ensures.targets;
      early = subst (AreEarly (reached s (c.args.legs + 1))) kept (rw (← c.new-leg.ensures.index) (c.first_failing.ensures.early e));
      stands = subst (StandsAt s basis (plan_of (choices_of s.lattice) (c.args.legs + 1) c.args.number) (reached s (c.args.legs + 1))) kept
          (rw (← c.new-leg.ensures.index, ← c.new-leg.ensures.number) (level_through s leg c.new-leg.ensures.leg basis new (c.first_failing.ensures.stands e)));
      outside = rw (← c.new-leg.ensures.index, ← c.new-leg.ensures.number)
          (out_through s leg c.new-leg.ensures.leg (out_of_all s leg.plan (reached s (leg.index + 1)) passes));
    }

pub returns-clause-first : goal.returns-clause-first
returns-clause-first c = λ plan alike.
    let s = c.args.situation.now in
    let leg = c.new-leg.result in
    let through : take (leg.index + 1) plan ≡ legs_through s leg = rw (c.new-leg.ensures.index, c.new-leg.ensures.number) alike in
    subst (λ (n : ℕ). MatchOption c.first_failing.result (¬ FailsBy s (reached s (n + 1)) plan) (IsFirstFailing s plan (reached s (n + 1)))) c.new-leg.ensures.index
    (first_here s leg c.new-leg.ensures.leg plan through c.first_failing.result c.first_failing.ensures.first)

pub new-leg-requires : goal.new-leg-requires
new-leg-requires c = record {
  situation = c.requires.basis.is_situation;
  index = c.requires.legs;
  number = c.requires.number;
  own = (let s = c.args.situation.now in
      let C = choices_of s.lattice in
      subst (λ (n : ℕ). HasReached s (plan_of C c.args.legs (c.args.number / n)) (c.args.legs * s.lattice.leg_ticks) c.own_at_leg-own.result) c.choices.ensures.value c.own_at_leg-own.ensures);
}

pub fill_path-requires : goal.fill_path-requires
fill_path-requires c = record {
  situation = c.requires.basis.is_situation;
  leg = c.new-leg.ensures.leg;
  places = rw c.new-leg.ensures.index c.requires.place.path;
}

pub first_failing-requires-clause-path : goal.first_failing-requires-clause-path
first_failing-requires-clause-path c =
    let s = c.args.situation.now in
    let place : HasPlaces s c.args.basis.now c.new-leg.result.index c.args.self.now = rw c.new-leg.ensures.index c.requires.place in
    rw c.deref.ensures.value (c.fill_path.ensures c.args.basis.now place).path

pub first_failing-requires-clause-bounds : goal.first_failing-requires-clause-bounds
first_failing-requires-clause-bounds c =
    let s = c.args.situation.now in
    let place : HasPlaces s c.args.basis.now c.new-leg.result.index c.args.self.now = rw c.new-leg.ensures.index c.requires.place in
    rw c.deref.ensures.value (c.fill_path.ensures c.args.basis.now place).bounds

pub first_failing-requires-clause-beside : goal.first_failing-requires-clause-beside
first_failing-requires-clause-beside c =
    let s = c.args.situation.now in
    let place : HasPlaces s c.args.basis.now c.new-leg.result.index c.args.self.now = rw c.new-leg.ensures.index c.requires.place in
    rw (c.deref.ensures.value, c.deref-3.ensures.value) (beside_leg s c.new-leg.result c.args.basis.now c.fill_path.new.self c.new-leg.ensures.leg (c.fill_path.ensures c.args.basis.now place).places)

pub first_failing-requires-clause-from : goal.first_failing-requires-clause-from
first_failing-requires-clause-from c = rw c.deref-2.ensures.value c.requires.from.targets

pub first_failing-requires-clause-early : goal.first_failing-requires-clause-early
first_failing-requires-clause-early c = rw (c.deref-2.ensures.value, c.new-leg.ensures.index) c.requires.from.early

pub first_failing-requires-clause-targets : goal.first_failing-requires-clause-targets
first_failing-requires-clause-targets c =
    let s = c.args.situation.now in
    let place : HasPlaces s c.args.basis.now c.new-leg.result.index c.args.self.now = rw c.new-leg.ensures.index c.requires.place in
    rw c.deref_mut.ensures.value (c.fill_path.ensures c.args.basis.now place).places.targets

pub first_failing-requires-clause-fits : goal.first_failing-requires-clause-fits
first_failing-requires-clause-fits c =
    let s = c.args.situation.now in
    let place : HasPlaces s c.args.basis.now c.new-leg.result.index c.args.self.now = rw c.new-leg.ensures.index c.requires.place in
    (c.fill_path.ensures c.args.basis.now place).places.fits

pub first_failing-requires-clause-room : goal.first_failing-requires-clause-room
first_failing-requires-clause-room c =
    let s = c.args.situation.now in
    let place : HasPlaces s c.args.basis.now c.new-leg.result.index c.args.self.now = rw c.new-leg.ensures.index c.requires.place in
    (c.fill_path.ensures c.args.basis.now place).places.room

pub returns-clause-place : goal.returns-clause-place
returns-clause-place c =
    let s = c.args.situation.now in
    let basis = c.args.basis.now in
    let place : HasPlaces s basis c.new-leg.result.index c.args.self.now = rw c.new-leg.ensures.index c.requires.place in
    let on = c.fill_path.ensures basis place in
    let old = c.fill_path.new.self.watched in
    let new = c.first_failing.new.watched in
    let kept = sym (written new old.items old.len (c.first_failing.ensures.targets.count ∙ sym on.places.targets.count) old.ok.0) in
    record {
      path = rw (← c.new-leg.ensures.index) on.places.path;
      beside = rw (← c.new-leg.ensures.index) on.places.beside;
      targets = subst (HasTargets s basis) kept c.first_failing.ensures.targets;
      fits = c.first_failing.ensures.fits;
      room = c.first_failing.ensures.room;
    }
