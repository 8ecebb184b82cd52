use Rattle.std.proofs.Common.{arith, rules, to_z, of_z, ◌∙◌, ap, pos, ◌-ℤ◌, ◌*ℤ◌}
use Rattle.std.specs.Int.{w32, w64}
use Rattle.std.proofs.lemmas.Int.{ints, to_z-of_z}
use Rattle.fixed_geometry.specs.Projection.{east_of}
use Rattle.fixed_geometry.proofs.ForCallers.{read}
use Rattle.fixed_geometry.proofs.Region.{inside, beyond_north, beyond_east}
use Rattle.fixed_geometry.proofs.projection.project.Goals as goal

pub returns-then-unsigned_abs-gt1200000-clause-value : goal.returns-then-unsigned_abs-gt1200000-clause-value
returns-then-unsigned_abs-gt1200000-clause-value c =
    beyond_north c.args.reference.latitude c.args.reference.longitude c.args.lat c.args.lon (omega (arith, ints))

pub returns-then-unsigned_abs-gt-REGION_SIZE-clause-value : goal.returns-then-unsigned_abs-gt-REGION_SIZE-clause-value
returns-then-unsigned_abs-gt-REGION_SIZE-clause-value c =
    let east = read w64 c.east-x.result _ (search rules)
    (c.east-x.ensures ∙ ap (east_of c.args.reference.latitude c.args.reference.longitude) (to_z-of_z w32 c.args.lon c.ranges.lon)) in
    beyond_east c.args.reference.latitude c.args.reference.longitude c.args.lat c.args.lon (to_z w64 (of_z w64 c.east-x.result)) east (omega arith)

pub returns-clause-value : goal.returns-clause-value
returns-clause-value c =
    let east = read w64 c.east-x.result _ (search rules)
    (c.east-x.ensures ∙ ap (east_of c.args.reference.latitude c.args.reference.longitude) (to_z-of_z w32 c.args.lon c.ranges.lon)) in
    let north = read w64 c.length.result ((c.args.lat -ℤ c.args.reference.latitude) *ℤ pos 1852) (search rules) (omega (arith, ints)) in
    inside c.args.reference.latitude c.args.reference.longitude c.args.lat c.args.lon (to_z w64 (of_z w64 c.east-x.result)) (to_z w64 (of_z w64 c.length.result))
    east north (omega (arith, ints)) (omega arith)
