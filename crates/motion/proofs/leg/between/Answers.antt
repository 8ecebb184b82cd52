use Rattle.std.proofs.Common.{◌≡◌, ◌≤◌, ℤ, ◌+ℤ◌, ◌-ℤ◌, ◌*ℤ◌, pos, to_z, of_z, unsigned_abs, ap, ◌∙◌, arith, rules}
use Rattle.std.specs.Int.{w64}
use Rattle.std.proofs.lemmas.Int.{ints, to_z-of_z}
use Rattle.fixed_geometry.specs.Rounding.{rounded}
use Rattle.fixed_geometry.specs.declared.projection.TheConstants.{REGION_SIZE}
use Rattle.motion.specs.Between.{between}
use Rattle.motion.proofs.Parts.{between_small}
use Rattle.motion.proofs.leg.between.Goals as goal

place : (c : goal.After-round_quotient) → c.args.from +ℤ c.round_quotient.result ≡ between c.args.from c.args.to c.args.since c.args.whole
unfolding between
place c =
    let move : to_z w64 (of_z w64 (to_z w64 (of_z w64 c.args.to) -ℤ to_z w64 (of_z w64 c.args.from))) ≡ c.args.to -ℤ c.args.from = omega (arith, ints) in
    let scaled : to_z w64 (of_z w64 c.scale.result) ≡ (c.args.to -ℤ c.args.from) *ℤ pos c.args.since =
    to_z-of_z w64 c.scale.result (search rules) ∙ (c.scale.ensures.value ∙ ap (λ (z : ℤ). z *ℤ pos c.args.since) move) in
    ap (λ (z : ℤ). c.args.from +ℤ z) (c.round_quotient.ensures ∙ ap (λ (z : ℤ). rounded z c.args.whole) scaled)

small : (c : goal.After-round_quotient) → unsigned_abs (c.args.from +ℤ c.round_quotient.result) ≤ REGION_SIZE
small c =
    rw (place c) (between_small c.args.from c.args.to c.args.since c.args.whole REGION_SIZE c.requires.some c.requires.part c.requires.from_small c.requires.to_small)

pub overflow_add-result : goal.overflow_add-result
overflow_add-result c = let h = small c in omega (arith, ints)

pub returns-clause-value : goal.returns-clause-value
returns-clause-value c = let h = small c in let e : to_z w64 (of_z w64 (to_z w64 (of_z w64 c.args.from) +ℤ to_z w64 (of_z w64 c.round_quotient.result))) ≡ c.args.from +ℤ c.round_quotient.result = omega (arith, ints) in e ∙ place c

pub returns-clause-small : goal.returns-clause-small
returns-clause-small c = let h = small c in omega (arith, ints)
