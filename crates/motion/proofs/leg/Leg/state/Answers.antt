use Rattle.std.proofs.Common.{◌-◌, ◌∙◌, ap₂, rules, ℤ}
use Rattle.std.specs.Int.{w64}
use Rattle.std.proofs.lemmas.Int.{to_z-of_z}
use Rattle.fixed_geometry.proofs.ForCallers.{read}
use Rattle.motion.specs.Between.{between}
use Rattle.motion.specs.TickStates.{state_on}
use Rattle.motion.proofs.leg.Leg.state.Goals as goal

pub returns-clause-value : goal.returns-clause-value
unfolding state_on
returns-clause-value c =
    let leg = c.args.self.now in
    let since = c.args.time - leg.t1 in
    let whole = leg.t2 - leg.t1 in
    let x = read w64 c.between.result _ (search rules) (c.between.ensures.value
    ∙ ap₂ (λ (a b : ℤ). between a b since whole) (to_z-of_z w64 leg.p1.x (search rules)) (to_z-of_z w64 leg.p2.x (search rules))) in
    let y = read w64 c.between-2.result _ (search rules) (c.between-2.ensures.value
    ∙ ap₂ (λ (a b : ℤ). between a b since whole) (to_z-of_z w64 leg.p1.y (search rules)) (to_z-of_z w64 leg.p2.y (search rules))) in
    ap₂ (λ (a b : ℤ). record { point = record { x = a; y = b }; direction = leg.direction; speed = leg.speed }) x y
