-- The class of an encounter, after Rules 13 to 15 of the COLREGs 1972. Angles are tenths of a degree.
use Rattle.std.specs.Prelude.{ℕ, ◌+◌, ◌-◌, ◌%◌, Bool, ◌&&◌, ◌||◌, ◌==◌, nat_le, nat_lt, if◌then◌else◌, Option, Some, pos, neg_ℤ, int_lt, unsigned_abs}
use Rattle.fixed_geometry.specs.Bearing.{bearing_of, relative_of, swing_of}
use Rattle.fixed_geometry.specs.Plane.{dot_of}
use Rattle.fixed_geometry.specs.declared.point.Point.{Point}
use Rattle.motion.specs.Steps.{RelativeMove}
use Rattle.sectors.specs.declared.angles.Angles.{Angles}
use Rattle.sectors.specs.declared.class.Class.{Class}
use Rattle.sectors.specs.declared.class.Class.TheVariants.{Overtaking, Overtaken, HeadOn, CrossingGives, CrossingStands, Passing, Unclassified}

-- The relative positions of two vessels A and B: B at the bearing beta from A's head, A at the bearing alpha from B's,
-- A's direction `off` from the reverse of B's, and whether they close.
pub record Sight : Type 0 where
  pub closing : Bool
  pub beta : ℕ
  pub alpha : ℕ
  pub off : ℕ

-- ---- if a vessel is seen

-- more than 22.5 degrees abaft the beam, or in doubt of it
abbrev pub is_abaft : ℕ → ℕ → Bool
is_abaft doubt k = nat_lt (1125 - doubt) k && nat_lt k (2475 + doubt)

-- at most this far from right ahead
abbrev pub is_ahead : ℕ → ℕ → Bool
is_ahead most k = nat_le (unsigned_abs (swing_of 0 k)) most

-- from right ahead to 22.5 degrees abaft the starboard beam
abbrev pub is_in_starboard_sector : ℕ → Bool
is_in_starboard_sector k = nat_le k 1125

-- from 22.5 degrees abaft the port beam to right ahead
abbrev pub is_in_port_sector : ℕ → Bool
is_in_port_sector k = nat_le 2475 k || (k == 0)

-- ---- the table; the first row that applies counts

unfoldable pub class_seen : Angles → Sight → Class
class_seen angles s =
    if s.closing && is_abaft angles.doubt s.alpha then Overtaking
    else (if s.closing && is_abaft angles.doubt s.beta then Overtaken
    else (if is_ahead angles.ahead s.beta && is_ahead angles.ahead s.alpha && nat_le s.off angles.reciprocal then HeadOn
    else (if is_in_starboard_sector s.beta && is_in_port_sector s.alpha then CrossingGives
    else (if is_in_starboard_sector s.alpha && is_in_port_sector s.beta then CrossingStands
    else Passing))))

-- ---- the relative positions at a step

-- the displacement from B to A
abbrev pub opposite : Point → Point
opposite p = record { x = neg_ℤ p.x; y = neg_ℤ p.y }

abbrev pub reverse_of : ℕ → ℕ
reverse_of d = (d + 1800) % 3600

-- by the bearings of B from A and of A from B, which exist unless they are at the same point
abbrev pub class_by_bearings : RelativeMove → ℕ → ℕ → Angles → Option ℕ → Option ℕ → Class
class_by_bearings step a b angles (Some to_b) (Some to_a) = class_seen angles (record {
  closing = int_lt (dot_of step.p step.w) (pos 0);
  beta = relative_of to_b a;
  alpha = relative_of to_a b;
  off = unsigned_abs (swing_of a (reverse_of b));
})
class_by_bearings step a b angles _ _ = Unclassified

-- by the directions a of A and b of B
unfoldable pub class_between : RelativeMove → ℕ → ℕ → Angles → Class
class_between step a b angles = class_by_bearings step a b angles (bearing_of step.p) (bearing_of (opposite step.p))

-- if a direction may be absent
abbrev pub class_of : RelativeMove → Option ℕ → Option ℕ → Angles → Class
class_of step (Some a) (Some b) angles = class_between step a b angles
class_of step _ _ angles = Unclassified
