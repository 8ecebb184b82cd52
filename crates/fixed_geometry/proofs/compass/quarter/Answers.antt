use Rattle.std.proofs.Common.{◌≡◌, pos, w64, to_z, of_z, rules, ◌∙◌}
use Rattle.std.proofs.lemmas.Int.{to_z-of_z}
use Rattle.fixed_geometry.proofs.Table.{quarter_is}
use Rattle.fixed_geometry.proofs.compass.quarter.Goals as goal

pub returns-clause-value : goal.returns-clause-value
returns-clause-value c =
    let sine : to_z w64 (of_z w64 c.from.result) ≡ pos c.sine_at.result = to_z-of_z w64 c.from.result (search rules) ∙ c.from.ensures in
    let cosine : to_z w64 (of_z w64 c.from-2.result) ≡ pos c.sine_at-2.result = to_z-of_z w64 c.from-2.result (search rules) ∙ c.from-2.ensures in
    rw (sine, cosine) (quarter_is c.args.k c.sine_at.result c.sine_at-2.result c.requires c.sine_at.ensures.value c.sine_at-2.ensures.value)
