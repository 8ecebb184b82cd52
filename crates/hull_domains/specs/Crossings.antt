-- When in a step own ship is inside the edges of a shape. On which side of an edge she is changes evenly in the step, so each edge
-- bounds the time from below or from above, or holds all the time.
use Rattle.std.specs.Prelude.{ℕ, zero, suc, ◌+◌, Bool, List, if◌then◌else◌, ◌&&◌, ℤ, pos, neg_ℤ, ◌+ℤ◌, ◌-ℤ◌, ◌*ℤ◌, int_lt, unsigned_abs}
use Rattle.motion.specs.Steps.{RelativeMove}
use Rattle.closest_approach.specs.declared.nearest.Moment.{Moment}
use Rattle.hull_domains.specs.declared.sides.Fraction.{Fraction}
use Rattle.hull_domains.specs.declared.sides.Side.{Side}
use Rattle.hull_domains.specs.Shapes.{edge_of}
use Rattle.hull_domains.specs.Domains.{side_at}

-- on which side she is at the beginning, and by how much that changes to the end
unfoldable pub side_of : RelativeMove → ℕ → List (ℤ × ℤ) → ℕ → Side
side_of step direction shape k = record {
  start = side_at step direction (edge_of shape k) 0 1;
  change = side_at step direction (edge_of shape k) 1 1 -ℤ side_at step direction (edge_of shape k) 0 1;
}

-- Two fractions compare.
abbrev pub is_less : Fraction → Fraction → Bool
is_less x y = int_lt (x.over *ℤ pos y.under) (y.over *ℤ pos x.under)

-- where she crosses an edge inwards, and where outwards

abbrev pub lower : Side → Fraction
lower side = record { over = side.start; under = unsigned_abs side.change }

abbrev pub upper : Side → Fraction
upper side = record { over = neg_ℤ side.start; under = unsigned_abs side.change }

-- the greater of a bound from below and an edge's, and the lesser of one from above and an edge's; of equal ones the first

unfoldable pub later : Fraction → Side → Fraction
later from side = if int_lt side.change (pos 0) && is_less from (lower side) then lower side else from

unfoldable pub earlier : Fraction → Side → Fraction
earlier to side = if int_lt (pos 0) side.change && is_less (upper side) to then upper side else to

-- the greatest of 0 / 1 and the bounds from below of the first edges, and the least of 1 / 1 and those from above

unfoldable pub latest : (ℕ → Side) → ℕ → Fraction
latest side zero = record { over = pos 0; under = 1 }
latest side (suc k) = later (latest side k) (side k)

unfoldable pub earliest : (ℕ → Side) → ℕ → Fraction
earliest side zero = record { over = pos 1; under = 1 }
earliest side (suc k) = earlier (earliest side k) (side k)

-- between two fractions: the sum of the numerators over that of the denominators
unfoldable pub mediant : Fraction → Fraction → Moment
mediant from to = record { a = unsigned_abs (from.over +ℤ to.over); b = from.under + to.under }

-- the moment of an entry
abbrev pub entry_moment : RelativeMove → ℕ → List (ℤ × ℤ) → Moment
entry_moment step direction shape = mediant (latest (side_of step direction shape) 6) (earliest (side_of step direction shape) 6)
