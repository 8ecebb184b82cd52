use Rattle.std.proofs.Common.{◌≡◌, ◌≤◌, ◌^◌, ℤ, pos, neg_ℤ, ◌-ℤ◌, unsigned_abs, int_lt, true, arith, to_z, of_z}
use Rattle.std.specs.Prelude.{int_le}
use Rattle.std.specs.Int.{w64}
use Rattle.std.proofs.lemmas.Int.{ints}
use Rattle.fixed_geometry.specs.Inner.Quarters.{IsInQuarter}
use Rattle.fixed_geometry.specs.Sizes.{IsWithin}
use Rattle.fixed_geometry.specs.declared.point.Point.{Point}
use Rattle.fixed_geometry.proofs.Quarters.{first_quarter, second_quarter, third_quarter, fourth_quarter, no_quarter}
use Rattle.fixed_geometry.proofs.bearings.by_quarter.Goals as goal

read : (z : ℤ) → unsigned_abs z ≤ 2 ^ 62 → to_z w64 (of_z w64 z) ≡ z
read z small = omega (arith, ints)

read_turned : (z : ℤ) → unsigned_abs z ≤ 2 ^ 62 → to_z w64 (of_z w64 (pos 0 -ℤ to_z w64 (of_z w64 z))) ≡ neg_ℤ z
read_turned z small = omega (arith, ints)

-- what the code tests, x and y, and what it keeps of it, n and e
module _ (r : Point) (x y n e : ℤ) (near : IsWithin (2 ^ 62) r) (x_is : x ≡ r.x) (y_is : y ≡ r.y) where
  in_first : int_lt (pos 0) y ≡ true → int_le (pos 0) x ≡ true → n ≡ r.y → e ≡ r.x → IsInQuarter r (record { start = 0; ahead = n; starboard = e })
  in_first north east ahead starboard = record {
    of_a_quarter = record { start = omega arith; ahead = omega (arith, ints); ahead_small = omega (arith, ints); starboard = omega (arith, ints); starboard_small = omega (arith, ints) };
    bearing = first_quarter r n e (omega (arith, ints)) (omega (arith, ints)) ahead starboard;
  }

  in_second : int_lt (pos 0) x ≡ true → int_le y (pos 0) ≡ true → n ≡ r.x → e ≡ neg_ℤ r.y → IsInQuarter r (record { start = 900; ahead = n; starboard = e })
  in_second east south ahead starboard = record {
    of_a_quarter = record { start = omega arith; ahead = omega (arith, ints); ahead_small = omega (arith, ints); starboard = omega (arith, ints); starboard_small = omega (arith, ints) };
    bearing = second_quarter r n e (omega (arith, ints)) (omega (arith, ints)) ahead starboard;
  }

  in_third : int_lt y (pos 0) ≡ true → int_le x (pos 0) ≡ true → n ≡ neg_ℤ r.y → e ≡ neg_ℤ r.x → IsInQuarter r (record { start = 1800; ahead = n; starboard = e })
  in_third south west ahead starboard = record {
    of_a_quarter = record { start = omega arith; ahead = omega (arith, ints); ahead_small = omega (arith, ints); starboard = omega (arith, ints); starboard_small = omega (arith, ints) };
    bearing = third_quarter r n e (omega (arith, ints)) (omega (arith, ints)) ahead starboard;
  }

  in_fourth : int_lt x (pos 0) ≡ true → int_le (pos 0) y ≡ true → n ≡ neg_ℤ r.x → e ≡ r.y → IsInQuarter r (record { start = 2700; ahead = n; starboard = e })
  in_fourth west north ahead starboard = record {
    of_a_quarter = record { start = omega arith; ahead = omega (arith, ints); ahead_small = omega (arith, ints); starboard = omega (arith, ints); starboard_small = omega (arith, ints) };
    bearing = fourth_quarter r n e (omega (arith, ints)) (omega (arith, ints)) ahead starboard;
  }

pub returns-then-r-ge0-clause-some : goal.returns-then-r-ge0-clause-some
returns-then-r-ge0-clause-some c =
    let x = read c.args.r.x c.requires.x in
    let y = read c.args.r.y c.requires.y in
    in_first c.args.r _ _ _ _ c.requires x y c.if-r-gt0.true c.if-r-ge0.true y x

pub returns-then-r-le0-clause-some : goal.returns-then-r-le0-clause-some
returns-then-r-le0-clause-some c =
    let x = read c.args.r.x c.requires.x in
    in_second c.args.r _ _ _ _ c.requires x (read c.args.r.y c.requires.y) c.if-r-gt0-2.true c.if-r-le0.true x (read_turned c.args.r.y c.requires.y)

pub returns-then-r-le0-2-clause-some : goal.returns-then-r-le0-2-clause-some
returns-then-r-le0-2-clause-some c =
    in_third c.args.r _ _ _ _ c.requires (read c.args.r.x c.requires.x) (read c.args.r.y c.requires.y) c.if-r-lt0.true c.if-r-le0-2.true (read_turned c.args.r.y c.requires.y) (read_turned c.args.r.x c.requires.x)

pub returns-then-r-ge0-2-clause-some : goal.returns-then-r-ge0-2-clause-some
returns-then-r-ge0-2-clause-some c =
    let y = read c.args.r.y c.requires.y in
    in_fourth c.args.r _ _ _ _ c.requires (read c.args.r.x c.requires.x) y c.if-r-lt0-2.true c.if-r-ge0-2.true (read_turned c.args.r.x c.requires.x) y

pub returns-else-r-lt0-2-clause-nowhere : goal.returns-else-r-lt0-2-clause-nowhere
returns-else-r-lt0-2-clause-nowhere c = λ h. no_quarter c.args.r (grind (arith, ints)) (grind (arith, ints))
