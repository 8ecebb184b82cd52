-- Signed numbers, as they are read again after each step.
use Rattle.std.proofs.Common.{◌≡◌, ℕ, ◌≤◌, ℤ, ◌+ℤ◌, unsigned_abs, arith, rules, w32, w64, to_z, of_z, FitsSigned, ◌∙◌, subst, sym}
use Rattle.std.proofs.lemmas.Int.{ints, to_z-of_z}

abbrev read_sum : ℤ → ℤ → ℤ → ℤ
read_sum a b g = to_z w64 (of_z w64 (to_z w64 (of_z w64 (to_z w64 (of_z w64 a) +ℤ to_z w64 (of_z w64 b))) +ℤ to_z w64 (of_z w64 g)))

module _ (r s g a b : ℤ) (a_is : a ≡ to_z w32 (of_z w32 r)) (b_is : b ≡ to_z w32 (of_z w32 s)) (r_small : unsigned_abs r ≤ 108000000) (s_small : unsigned_abs s ≤ 20000) (g_small : unsigned_abs g ≤ 30000000) where
  whole : read_sum a b g ≡ r +ℤ s +ℤ g
  whole = omega (arith, ints)

  fits : FitsSigned w32 (r +ℤ s +ℤ g)
  fits = search rules

  pub sum_fits : FitsSigned w32 (read_sum a b g)
  sum_fits = subst (FitsSigned w32) (sym whole) fits

  pub sum_is : to_z w32 (of_z w32 (read_sum a b g)) ≡ r +ℤ s +ℤ g
  sum_is = to_z-of_z w32 (read_sum a b g) sum_fits ∙ whole

pub kept32 : (b : ℤ) (n : ℕ) → unsigned_abs b ≤ n → n ≤ 20000 → to_z w32 (of_z w32 b) ≡ b
kept32 b n small few = omega (arith, ints)

pub kept64 : (a b : ℤ) (n : ℕ) → a ≡ to_z w32 (of_z w32 b) → unsigned_abs b ≤ n → n ≤ 20000 → to_z w64 (of_z w64 a) ≡ b
kept64 a b n is small few = omega (arith, ints)

pub small64 : (a b : ℤ) (n most : ℕ) → a ≡ to_z w32 (of_z w32 b) → unsigned_abs b ≤ n → n ≤ 20000 → n ≤ most → unsigned_abs (to_z w64 (of_z w64 a)) ≤ most
small64 a b n most is small few within = omega (arith, ints)

pub small32 : (b : ℤ) (n : ℕ) → unsigned_abs b ≤ n → n ≤ 20000 → unsigned_abs (to_z w32 (of_z w32 b)) ≤ n
small32 b n small few = omega (arith, ints)
