use Rattle.std.proofs.Common.{◌*ℤ◌, sym, ap, ap₂, ◌∙◌, rules}
use Rattle.std.specs.Int.{w64, w128}
use Rattle.std.specs.Int.Signed.{le_z}
use Rattle.std.proofs.lemmas.Int.{to_z-of_z}
use Rattle.fixed_geometry.specs.declared.point.Point.{Point}
use Rattle.fixed_geometry.proofs.ForCallers.{read}
use Rattle.fixed_geometry.proofs.FirstQuarter.{unit_of-first}
use Rattle.fixed_geometry.proofs.bearings.has_turned.Goals as goal

pub returns : goal.returns
returns c =
    let first = c.quarter-x.ensures.value ∙ sym (unit_of-first c.args.k c.requires.k_below) in
    let sine = read w64 c.quarter-x.result.x _ (search rules) (ap (λ (p : Point). p.x) first) in
    let cosine = read w64 c.quarter-x.result.y _ (search rules) (ap (λ (p : Point). p.y) first) in
    ap₂ le_z
    (read w128 c.product.result _ (search rules) (c.product.ensures.value ∙ ap₂ ◌*ℤ◌ sine (to_z-of_z w64 c.args.n c.ranges.n)))
    (read w128 c.product-2.result _ (search rules) (c.product-2.ensures.value ∙ ap₂ ◌*ℤ◌ cosine (to_z-of_z w64 c.args.e c.ranges.e)))
