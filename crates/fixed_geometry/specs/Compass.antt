-- The compass: the sine and the cosine of each whole number of tenths of a degree clockwise from north.
use Rattle.std.specs.Prelude.{ℕ, zero, suc, ◌-◌, ◌/◌, ◌%◌, ◌^◌, nat_le, if◌then◌else◌, ℤ, pos, ◌+ℤ◌, ◌-ℤ◌, ◌*ℤ◌, neg_ℤ}
use Rattle.fixed_geometry.specs.Rounding.{rounded}
use Rattle.fixed_geometry.specs.declared.point.Point.{Point}

-- in units of 10^-15
pub record Direction : Type 0 where
  pub sine : ℤ
  pub cosine : ℤ

-- one tenth of a degree further, by the sums of angles and the sine and the cosine of a tenth
abbrev pub tenth_further : Direction → Direction
tenth_further d = record {
  sine = rounded (d.sine *ℤ pos 999998476913288 +ℤ d.cosine *ℤ pos 1745328365898) (10 ^ 15);
  cosine = rounded (d.cosine *ℤ pos 999998476913288 -ℤ d.sine *ℤ pos 1745328365898) (10 ^ 15);
}

-- k tenths of a degree, for k to 450
unfoldable pub compass_direction : ℕ → Direction
compass_direction zero = record { sine = pos 0; cosine = pos (10 ^ 15) }
compass_direction (suc k) = tenth_further (compass_direction k)

-- the same in millionths: the sine to the east, the cosine to the north
unfoldable pub eighth_of : ℕ → Point
eighth_of k = record { x = rounded (compass_direction k).sine (10 ^ 9); y = rounded (compass_direction k).cosine (10 ^ 9) }

-- above 45 degrees the sine and the cosine are exchanged
abbrev pub mirrored : Point → Point
mirrored p = record { x = p.y; y = p.x }

-- k tenths of a degree, for k to 900
abbrev pub quarter_of : ℕ → Point
quarter_of k = if nat_le k 450 then eighth_of k else mirrored (eighth_of (900 - k))

-- a quarter of the circle further
abbrev pub quarter_further : Point → Point
quarter_further p = record { x = p.y; y = neg_ℤ p.x }

abbrev pub quarters_further : ℕ → Point → Point
quarters_further zero p = p
quarters_further (suc n) p = quarter_further (quarters_further n p)

-- the vector of length 1,000,000 at k tenths of a degree clockwise from north
unfoldable pub unit_of : ℕ → Point
unit_of k = quarters_further (k / 900) (quarter_of (k % 900))

abbrev pub sine_of : ℕ → ℤ
sine_of k = (unit_of k).x

abbrev pub cosine_of : ℕ → ℤ
cosine_of k = (unit_of k).y
