use Rattle.std.proofs.Common.{ℕ, ◌≡◌, ◌+◌, ◌*◌, ◌<◌, ◌≤◌, arith, subst}
use Rattle.closest_approach.specs.Separation.{IsSeparated}
use Rattle.fixed_geometry.specs.Compass.{unit_of}
use Rattle.fixed_geometry.specs.Plane.{norm2_of}
use Rattle.hull_domains.specs.Inner.Ways.{way_to}
use Rattle.hull_domains.specs.Shapes.{vertex_of}
use Rattle.hull_domains.proofs.Circle.{out_of_the_circle}
use Rattle.hull_domains.proofs.LongUnits.{unit_long, wide_enough}
use Rattle.hull_domains.proofs.entering.radius_about.Goals as goal

pub returns-clause-outside : goal.returns-clause-outside
returns-clause-outside c = λ step apart direction lt.
    let metres : ℕ = c.longest_way.result + 1 in
    let few = c.longest_way.ensures.short in
    let same = c.from.ensures in
    let radius : 10000 * (c.from.result + 2) ≡ 10000 * (metres + 1) = omega arith in
    let reach : (k : ℕ) → k < 6 → way_to (vertex_of c.args.shape.now k) ≤ metres = λ k known. (let h = c.longest_way.ensures.each k known in omega arith) in
    out_of_the_circle step direction c.args.shape.now metres (10000 * (metres + 1)) lt (omega arith) reach
    (wide_enough metres (norm2_of (unit_of direction)) (omega arith) (unit_long direction))
    (subst (λ (r : ℕ). IsSeparated step r) radius apart)
