-- Lemmas on whole numbers for this crate and the crates above: signed numbers as they stand after a call, and equations of
-- polynomials over them. For these each variable is read as a difference of two naturals, sums and products of
-- differences are differences again, and `omega` multiplies the naturals out.
use Rattle.std.proofs.Common.{◌≡◌, ℕ, ◌+◌, ◌*◌, ℤ, pos, ◌+ℤ◌, ◌-ℤ◌, ◌*ℤ◌, neg_ℤ, arith, ap, to_z, of_z, FitsSigned, ◌∙◌}
use Rattle.std.proofs.lemmas.Int.{ints, to_z-of_z}
use Rattle.std.specs.Int.{Width}
use borrow.Author.Differences.{up, down}

-- a number that is read again is still what it was shown to be
pub read : (w : Width) (x m : ℤ) → FitsSigned w x → x ≡ m → to_z w (of_z w x) ≡ m
read w x m fits e = to_z-of_z w x fits ∙ e

-- u less d
pub diff : ℕ → ℕ → ℤ
diff u d = pos u -ℤ pos d

pub diff_of : (z : ℤ) → diff (up z) (down z) ≡ z
unfolding diff
diff_of z = omega (arith, ints)

pub diff_pos : (n : ℕ) → pos n ≡ diff n 0
unfolding diff
diff_pos n = omega (arith, ints)

pub diff_same : (u d v e : ℕ) → u + e ≡ v + d → diff u d ≡ diff v e
unfolding diff
diff_same u d v e h = omega (arith, ints)

pub diff_add : (u d v e : ℕ) → diff u d +ℤ diff v e ≡ diff (u + v) (d + e)
unfolding diff
diff_add u d v e = omega (arith, ints)

pub diff_sub : (u d v e : ℕ) → diff u d -ℤ diff v e ≡ diff (u + e) (d + v)
unfolding diff
diff_sub u d v e = omega (arith, ints)

-- a difference of naturals, as `omega` reads it
parts : (u d : ℕ) → up (diff u d) + d ≡ down (diff u d) + u
unfolding diff
parts u d = omega (arith, ints)

product : (a b : ℤ) (u d v e : ℕ) → up a + d ≡ down a + u → up b + e ≡ down b + v → a *ℤ b ≡ diff (u * v + d * e) (u * e + d * v)
unfolding diff
product a b u d v e h k =
    let left : v * (up a + d) ≡ v * (down a + u) = ap (λ n. v * n) h in
    let left' : e * (up a + d) ≡ e * (down a + u) = ap (λ n. e * n) h in
    let right : up a * (up b + e) ≡ up a * (down b + v) = ap (λ n. up a * n) k in
    let right' : down a * (up b + e) ≡ down a * (down b + v) = ap (λ n. down a * n) k in
    omega (arith, ints)

pub diff_mul : (u d v e : ℕ) → diff u d *ℤ diff v e ≡ diff (u * v + d * e) (u * e + d * v)
diff_mul u d v e = product (diff u d) (diff v e) u d v e (parts u d) (parts v e)

pub diff_neg : (u d : ℕ) → neg_ℤ (diff u d) ≡ diff d u
unfolding diff
diff_neg u d = omega (arith, ints)

pub neg_pos : (n : ℕ) → neg_ℤ (pos n) ≡ diff 0 n
unfolding diff
neg_pos n = omega (arith, ints)

-- every sum and product of differences, as one difference
pub ruleset polynomials = (diff_add, diff_sub, diff_mul, diff_neg, neg_pos, diff_pos)
