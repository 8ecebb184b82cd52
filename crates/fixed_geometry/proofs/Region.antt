-- Where a place has a point.
use Rattle.std.proofs.Common.{◌≡◌, ℤ, ◌-ℤ◌, ◌≤◌, ◌<◌, Some, None, unsigned_abs, arith}
use Rattle.std.proofs.lemmas.Bool.Decides.{nat_tests}
use Rattle.fixed_geometry.specs.Projection.{projection_of, east_of, north_of}
use Rattle.fixed_geometry.specs.declared.projection.TheConstants.{REGION_SIZE}

pub inside : (latitude0 longitude0 latitude longitude x y : ℤ) → x ≡ east_of latitude0 longitude0 longitude → y ≡ north_of latitude0 latitude
    → unsigned_abs (latitude -ℤ latitude0) ≤ 1200000 → unsigned_abs x ≤ REGION_SIZE
    → Some (record { x = x; y = y }) ≡ projection_of latitude0 longitude0 latitude longitude
unfolding projection_of
inside latitude0 longitude0 latitude longitude x y e f north east = grind (arith, nat_tests)

pub beyond_north : (latitude0 longitude0 latitude longitude : ℤ) → 1200000 < unsigned_abs (latitude -ℤ latitude0) → None ≡ projection_of latitude0 longitude0 latitude longitude
unfolding projection_of
beyond_north latitude0 longitude0 latitude longitude far = grind (arith, nat_tests)

pub beyond_east : (latitude0 longitude0 latitude longitude x : ℤ) → x ≡ east_of latitude0 longitude0 longitude → REGION_SIZE < unsigned_abs x → None ≡ projection_of latitude0 longitude0 latitude longitude
unfolding projection_of
beyond_east latitude0 longitude0 latitude longitude x e far = grind (arith, nat_tests)
