use Rattle.std.proofs.Common.{◌≡◌, ℤ, pos, ◌-ℤ◌, ◌*ℤ◌, ap, ap₂, ◌∙◌, arith, rules}
use Rattle.std.specs.Int.{w64}
use Rattle.std.proofs.lemmas.Int.{ints, to_z-of_z}
use Rattle.fixed_geometry.specs.Rounding.{rounded}
use Rattle.fixed_geometry.specs.Circle.{shorter_arc}
use Rattle.fixed_geometry.specs.Compass.{cosine_of}
use Rattle.fixed_geometry.specs.Place.{Place}
use Rattle.fixed_geometry.specs.Projection.{tenths_of}
use Rattle.fixed_geometry.proofs.ForCallers.{read}
use Rattle.fixed_geometry.proofs.projection.east.Goals as goal

pub returns : goal.returns
returns c =
    let longitude0 = ap (λ (p : Place). p.longitude) c.reference.view_is in
    let latitude0 = ap (λ (p : Place). p.latitude) c.reference.view_is in
    let difference : c.difference.result ≡ c.args.lon -ℤ c.args.reference.longitude = omega (arith, ints) in
    let arc = read w64 c.round_the_circle-arc.result _ (search rules) (c.round_the_circle-arc.ensures.value ∙ ap (shorter_arc 108000000) (read w64 c.difference.result _ (search rules) difference)) in
    let length = read w64 c.length.result _ (search rules) (c.length.ensures.value ∙ ap (λ (z : ℤ). z *ℤ pos 1852) arc) in
    let cosine = read w64 c.reference.inside.cosine _ (search rules) (c.reference.invariant.1 ∙ ap (λ (z : ℤ). cosine_of (tenths_of z)) latitude0) in
    read w64 c.round_quotient.result _ (search rules) (c.round_quotient.ensures ∙ ap (λ (z : ℤ). rounded z 1000000)
    (read w64 c.scale.result _ (search rules) (c.scale.ensures.value ∙ ap₂ ◌*ℤ◌ length cosine)))

pub scale-requires-clause-millionths_small : goal.scale-requires-clause-millionths_small
scale-requires-clause-millionths_small c = rw (to_z-of_z w64 c.reference.inside.cosine (search rules)) c.reference.invariant.2
