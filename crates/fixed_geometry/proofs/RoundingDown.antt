-- A quotient rounded down, from the one that is cut and the sign of its remainder.
use Rattle.std.proofs.Common.{◌≡◌, ◌≤◌, ◌<◌, ℕ, zero, suc, ◌+◌, ◌*◌, ◌/◌, ◌%◌, true, false, int_lt, ℤ, pos, negsuc, ◌-ℤ◌, neg_ℤ, unsigned_abs, arith, ap, refl}
use Rattle.std.specs.Int.{int_div_euclid}
use Rattle.std.specs.Int.Signed.{quot_z, rem_z}
use Rattle.std.proofs.lemmas.Int.{ints}
use Rattle.std.proofs.lemmas.Nat.{div-add-mod'}
use Rattle.std.proofs.Math.Nat.{div-eq_of_lt-le, div-le_self, mod-lt}

-- if a number is a multiple, that before it has the quotient before it
one_less : (a d q : ℕ) → 0 < d → q * d ≡ suc a → suc (a / d) ≡ q
one_less a d zero some e = absurd (omega (arith, e))
one_less a d (suc k) some e = ap suc (div-eq_of_lt-le {k = k} d {m = a} (omega (arith, e)) (omega (arith, e)))

-- and otherwise the same quotient
as_many : (a d q r : ℕ) → q * d + suc r ≡ suc a → suc r < d → a / d ≡ q
as_many a d q r e small = div-eq_of_lt-le {k = q} d {m = a} (omega (arith, e)) (omega (arith, e, small))

pub cut_is_small : (n : ℤ) (d : ℕ) → unsigned_abs (quot_z n (pos d)) ≤ unsigned_abs n
cut_is_small (pos a) d = div-le_self a d
cut_is_small (negsuc a) d = omega (arith, ints, div-le_self (suc a) d)

below : (a d q r : ℕ) → 0 < d → q * d + r ≡ suc a → r < d → int_lt (neg_ℤ (pos r)) (pos 0) ≡ true → neg_ℤ (pos q) -ℤ pos 1 ≡ negsuc (a / d)
below a d q zero some e small sign = absurd (grind arith)
below a d q (suc r) some e small sign = omega (arith, ints, as_many a d q r e small)

level : (a d q r : ℕ) → 0 < d → q * d + r ≡ suc a → r < d → int_lt (neg_ℤ (pos r)) (pos 0) ≡ false → neg_ℤ (pos q) ≡ negsuc (a / d)
level a d q zero some e small sign = omega (arith, ints, one_less a d q some (omega (arith, e)))
level a d q (suc r) some e small sign = absurd (grind arith)

pub down_from_below : (n : ℤ) (d : ℕ) → 0 < d → int_lt (rem_z n (pos d)) (pos 0) ≡ true → quot_z n (pos d) -ℤ pos 1 ≡ int_div_euclid n (pos d)
down_from_below (pos a) d some sign = absurd (grind arith)
down_from_below (negsuc a) d some sign = below a d (suc a / d) (suc a % d) some (div-add-mod' (suc a) d) (mod-lt (suc a) some) sign

pub down_from_above : (n : ℤ) (d : ℕ) → 0 < d → int_lt (rem_z n (pos d)) (pos 0) ≡ false → quot_z n (pos d) ≡ int_div_euclid n (pos d)
down_from_above (pos a) d some sign = refl
down_from_above (negsuc a) d some sign = level a d (suc a / d) (suc a % d) some (div-add-mod' (suc a) d) (mod-lt (suc a) some) sign
