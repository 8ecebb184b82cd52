use Rattle.std.proofs.Common.{◌≡◌, ◌≤ℤ◌, w64, to_z, of_z, arith, rules}
use Rattle.std.proofs.lemmas.Int.{ints}
use Rattle.plan_situations.proofs.boxes.Bounds.with.Goals as goal

pub returns-clause-point : goal.returns-clause-point
returns-clause-point c =
    let west : to_z w64 (of_z w64 c.min.result) ≡ c.min.result = search rules in
    let east : to_z w64 (of_z w64 c.max.result) ≡ c.max.result = search rules in
    let south : to_z w64 (of_z w64 c.min-2.result) ≡ c.min-2.result = search rules in
    let north : to_z w64 (of_z w64 c.max-2.result) ≡ c.max-2.result = search rules in
    let a = c.min.ensures.other_bound in
    let b = c.max.ensures.other_bound in
    let d = c.min-2.ensures.other_bound in
    let e = c.max-2.ensures.other_bound in
    record { west = omega (arith, ints); east = omega (arith, ints); south = omega (arith, ints); north = omega (arith, ints) }

pub returns-clause-others : goal.returns-clause-others
returns-clause-others c = λ other is.
    let west : to_z w64 (of_z w64 c.min.result) ≡ c.min.result = search rules in
    let east : to_z w64 (of_z w64 c.max.result) ≡ c.max.result = search rules in
    let south : to_z w64 (of_z w64 c.min-2.result) ≡ c.min-2.result = search rules in
    let north : to_z w64 (of_z w64 c.max-2.result) ≡ c.max-2.result = search rules in
    let a = c.min.ensures.self_bound in
    let b = c.max.ensures.self_bound in
    let d = c.min-2.ensures.self_bound in
    let e = c.max-2.ensures.self_bound in
    let a' = is.west in
    let b' = is.east in
    let d' = is.south in
    let e' = is.north in
    record { west = omega (arith, ints); east = omega (arith, ints); south = omega (arith, ints); north = omega (arith, ints) }
