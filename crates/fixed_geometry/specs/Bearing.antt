-- Bearings, and the angles between two directions, in tenths of a degree.
use Rattle.std.specs.Prelude.{ℕ, zero, suc, ◌+◌, Bool, ◌&&◌, if◌then◌else◌, Option, Some, None, ℤ, pos, neg_ℤ, ◌-ℤ◌, ◌*ℤ◌, int_lt, int_le, nat_le, unsigned_abs}
use Rattle.std.specs.Int.{int_rem_euclid}
use Rattle.fixed_geometry.specs.Circle.{shorter_arc}
use Rattle.fixed_geometry.specs.Compass.{sine_of, cosine_of}
use Rattle.fixed_geometry.specs.declared.point.Point.{Point}

-- the greatest number below n that passes the test, or 0 if none does
unfoldable pub greatest_below : ℕ → (ℕ → Bool) → ℕ
greatest_below zero test = 0
greatest_below (suc n) test = if test n then n else greatest_below n test

-- whether a vector of n ahead and e to starboard has turned by k tenths of a degree or more: n sin k ≤ e cos k
abbrev pub has_turned : ℤ → ℤ → ℕ → Bool
has_turned n e k = int_le (sine_of k *ℤ n) (cosine_of k *ℤ e)

-- the angle that it has turned, less than a quarter of the circle
unfoldable pub quarter_angle : ℤ → ℤ → ℕ
quarter_angle n e = greatest_below 900 (has_turned n e)

-- The bearing of a vector is counted clockwise from north, by quarters of the circle. A vector of no length has none.
unfoldable pub bearing_of : Point → Option ℕ
bearing_of r =
    if int_lt (pos 0) r.y && int_le (pos 0) r.x then Some (quarter_angle r.y r.x)
    else (if int_lt (pos 0) r.x && int_le r.y (pos 0) then Some (900 + quarter_angle r.x (neg_ℤ r.y))
    else (if int_lt r.y (pos 0) && int_le r.x (pos 0) then Some (1800 + quarter_angle (neg_ℤ r.y) (neg_ℤ r.x))
    else (if int_lt r.x (pos 0) && int_le (pos 0) r.y then Some (2700 + quarter_angle (neg_ℤ r.x) r.y)
    else None)))

-- the bearing b relative to a vessel in direction d: (b - d) mod 3600
unfoldable pub relative_of : ℕ → ℕ → ℕ
relative_of b d = unsigned_abs (int_rem_euclid (pos b -ℤ pos d) (pos 3600))

-- whether the bearing b is to port of direction d, neither right ahead nor right astern
abbrev pub lies_to_port : ℕ → ℕ → Bool
lies_to_port d b = nat_le 1801 (relative_of b d) && nat_le (relative_of b d) 3599

-- the turn from direction d to direction e, from -1799 to 1800: positive to starboard
unfoldable pub swing_of : ℕ → ℕ → ℤ
swing_of d e = shorter_arc 1800 (pos e -ℤ pos d)
