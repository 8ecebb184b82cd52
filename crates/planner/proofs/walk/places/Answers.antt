use Rattle.std.proofs.Common.{◌≡◌, ℕ, ◌+◌, ◌∷◌, [], length, get_or, ap, sym, subst, ◌∙◌, arith, length-append}
use Rattle.plan_situations.specs.Prefixes.{steps_told}
use Rattle.planner.specs.Inner.Legs.{lasts}
use Rattle.planner.specs.Inner.Levels.{AreBeside, HasPlaces}
use Rattle.planner.specs.declared.level.Level.{Level}
use Rattle.plan_situations.proofs.Blocks.{told_within}
use Rattle.planner.proofs.AtNow.{push_at}
use Rattle.planner.proofs.Extending.{leg_begins, leg_ends}
use Rattle.planner.proofs.walk.places.Goals as goal

pub new-requires-clause-planned : goal.new-requires-clause-planned
new-requires-clause-planned c =
    let s = c.args.situation.now in
    let leg = c.loop-leg.leg in
    let inside = c.loop-leg-test.true in
    let end = c.loop-leg.auto.leg-end in
    let legs = c.legs-leg-end.ensures.value in
    let begins = c.leg_begins-begins.ensures in
    let value = c.leg_lasts-ticks.ensures.value in
    let ends = leg_ends s leg (omega arith) in
    let le = told_within s.lattice (leg + 1) in
    omega arith

pub loop-leg-preserved : goal.loop-leg-preserved
loop-leg-preserved c =
    let s = c.args.situation.now in
    let leg = c.loop-leg.leg in
    let inside = c.loop-leg-test.true in
    let end = c.loop-leg.auto.leg-end in
    let legs = c.legs-leg-end.ensures.value in
    let begins : c.leg_begins-begins.result ≡ steps_told s.lattice leg = c.leg_begins-begins.ensures ∙ sym (leg_begins s.lattice leg (omega arith)) in
    let count = c.loop-leg.invariant.count in
    let place : HasPlaces c.args.situation.now c.args.basis.now (length c.loop-leg.below.items) c.in_ok-new.field-0 =
    subst (λ (n : ℕ). HasPlaces c.args.situation.now c.args.basis.now n c.in_ok-new.field-0) (sym count) (record {
      path = c.in_ok-new.ensures.path ∙ ap (λ (n : ℕ). n + 1) c.leg_lasts-ticks.ensures.value;
      beside = subst (λ (n : ℕ). AreBeside s n (lasts s leg + 1) c.in_ok-new.field-0.beside.items) begins
          (subst (λ (n : ℕ). AreBeside s c.leg_begins-begins.result (n + 1) c.in_ok-new.field-0.beside.items) c.leg_lasts-ticks.ensures.value c.in_ok-new.ensures.beside);
      targets = c.in_ok-new.ensures.targets;
      fits = c.in_ok-new.ensures.fits;
      room = c.in_ok-new.ensures.room;
    }) in
    record {
      count = omega (arith, ap length c.in_ok-push.ensures.items, length-append c.loop-leg.below.items (c.in_ok-new.field-0 ∷ []));
      each = λ i x lt. push_at (λ (n : ℕ) (l : Level). HasPlaces c.args.situation.now c.args.basis.now n l) c.loop-leg.below.items c.push.new.self.items c.in_ok-new.field-0 c.in_ok-push.ensures.items
          c.loop-leg.invariant.each place i x (omega (arith, ap length c.in_ok-push.ensures.items, length-append c.loop-leg.below.items (c.in_ok-new.field-0 ∷ [])));
    }

pub returns : goal.returns
returns c =
    let count = c.loop-leg.invariant.count in
    let over = c.loop-leg-test.false in
    let end = c.loop-leg.auto.leg-end in
    let legs = c.legs-leg-end.ensures.value in
    record {
      count = omega arith;
      each = λ i x lt. let same : i ≡ 0 + i = omega arith in subst (λ (n : ℕ). HasPlaces c.args.situation.now c.args.basis.now n (get_or c.loop-leg.below.items i x)) same (c.loop-leg.invariant.each i x lt);
    }
