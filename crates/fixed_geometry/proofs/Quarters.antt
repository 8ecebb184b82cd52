-- The bearing in each quarter of the circle.
use Rattle.std.proofs.Common.{◌≡◌, ℕ, ◌+◌, ◌-◌, ◌%◌, ◌<◌, ◌≤◌, ℤ, pos, ◌-ℤ◌, neg_ℤ, ◌≤ℤ◌, ◌<ℤ◌, None, Some, refl, sym, ap, true, false, Bool, lit<, arith, inl, inr}
use Rattle.std.proofs.lemmas.Int.{ints, int_rem_euclid_is}
use Rattle.std.proofs.lemmas.Bool.{cases_lt, le-leb}
use Rattle.std.proofs.lemmas.Bool.Decides.{nat_tests}
use Rattle.std.specs.Prelude.{nat_le, unsigned_abs}
use Rattle.fixed_geometry.specs.Bearing.{bearing_of, has_turned, quarter_angle, relative_of}
use Rattle.fixed_geometry.specs.declared.point.Point.{Point}
use Rattle.fixed_geometry.proofs.FirstQuarter.{turned_at_zero, not_turned_later}
use Rattle.fixed_geometry.proofs.Greatest.{greatest_below-below, greatest_below-least, greatest_below-passes}

module _ (r : Point) (n e : ℤ) where
  pub first_quarter : pos 0 <ℤ r.y → pos 0 ≤ℤ r.x → n ≡ r.y → e ≡ r.x → bearing_of r ≡ Some (0 + quarter_angle n e)
  unfolding bearing_of
  first_quarter north east ahead starboard = rw (ahead, starboard) (grind (arith, ints))

  pub second_quarter : pos 0 <ℤ r.x → r.y ≤ℤ pos 0 → n ≡ r.x → e ≡ neg_ℤ r.y → bearing_of r ≡ Some (900 + quarter_angle n e)
  unfolding bearing_of
  second_quarter east south ahead starboard = rw (ahead, starboard) (grind (arith, ints))

  pub third_quarter : r.y <ℤ pos 0 → r.x ≤ℤ pos 0 → n ≡ neg_ℤ r.y → e ≡ neg_ℤ r.x → bearing_of r ≡ Some (1800 + quarter_angle n e)
  unfolding bearing_of
  third_quarter south west ahead starboard = rw (ahead, starboard) (grind (arith, ints))

  pub fourth_quarter : r.x <ℤ pos 0 → pos 0 ≤ℤ r.y → n ≡ neg_ℤ r.x → e ≡ r.y → bearing_of r ≡ Some (2700 + quarter_angle n e)
  unfolding bearing_of
  fourth_quarter west north ahead starboard = rw (ahead, starboard) (grind (arith, ints))

pub no_quarter : (r : Point) → r.x ≡ pos 0 → r.y ≡ pos 0 → bearing_of r ≡ None
unfolding bearing_of
no_quarter r x y = rw (x, y) refl

unless : (n e : ℤ) → pos 0 ≤ℤ n → pos 0 ≤ℤ e → (k j : ℕ) → j < 900 → has_turned n e j ≡ true → has_turned n e k ≡ false → j < k
unless n e ahead starboard k j lt passes fails =
    elim (cases_lt j k) [
      | inl below ↦ below
      | inr le ↦ absurd (let later : has_turned n e j ≡ false = not_turned_later n e ahead starboard k fails j le lt in cc)
    ]

angle_passes : (n e : ℤ) → pos 0 ≤ℤ n → pos 0 ≤ℤ e → has_turned n e (quarter_angle n e) ≡ true
unfolding quarter_angle
angle_passes n e ahead starboard = greatest_below-passes 900 (has_turned n e) (turned_at_zero n e ahead starboard)

angle_least : (n e : ℤ) (k : ℕ) → k < 900 → has_turned n e k ≡ true → k ≤ quarter_angle n e
unfolding quarter_angle
angle_least n e k lt passes = greatest_below-least 900 (has_turned n e) k lt passes

pub angle_below : (n e : ℤ) → quarter_angle n e < 900
unfolding quarter_angle
angle_below n e = let h = greatest_below-below 899 (has_turned n e) in omega arith

-- A vector has turned by k exactly if the angle that it has turned is k or more.
pub turned_by : (n e : ℤ) → pos 0 ≤ℤ n → pos 0 ≤ℤ e → (k : ℕ) → k < 900 → has_turned n e k ≡ nat_le k (quarter_angle n e)
turned_by n e ahead starboard k lt = go (has_turned n e k) refl (angle_passes n e ahead starboard) (angle_least n e k lt)
  where
    go : (b : Bool) → has_turned n e k ≡ b → has_turned n e (quarter_angle n e) ≡ true → (has_turned n e k ≡ true → k ≤ quarter_angle n e) → b ≡ nat_le k (quarter_angle n e)
    go true is passes least = sym (le-leb k (quarter_angle n e) (least is))
    go false is passes least = let h = unless n e ahead starboard k (quarter_angle n e) (angle_below n e) passes is in grind (arith, nat_tests, h)

pub relative_from : (b d : ℕ) → b < 3600 → d < 3600 → relative_of b d ≡ (b + 3600 - d) % 3600
unfolding relative_of
relative_from b d lt lt' = ap unsigned_abs (int_rem_euclid_is (pos b -ℤ pos d) (pos 3600) 3600 1 (b + 3600 - d) (lit< tt) refl (omega (arith, ints)))
