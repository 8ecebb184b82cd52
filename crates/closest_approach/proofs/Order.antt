-- Order and products.
use Rattle.std.proofs.Common.{◌≡◌, ℕ, ℤ, pos, negsuc, ◌+ℤ◌, ◌*ℤ◌, ◌≤ℤ◌, ◌+◌, ◌-◌, ◌*◌, ◌<◌, arith, ◌∙◌, ap}
use Rattle.std.proofs.lemmas.Int.{ints, by_lt_z}
use borrow.Author.Differences.{up, down}
use Rattle.fixed_geometry.proofs.ForCallers.{polynomials, diff_of, diff_same}

times-add : (k n : ℕ) (x : ℤ) → pos k *ℤ (x +ℤ pos n) ≡ pos k *ℤ x +ℤ pos (k * n)
times-add k n x = rw (← diff_of x) (simp polynomials (diff_same _ _ _ _ (omega arith)))

times-le_from : (k n : ℕ) (x y : ℤ) → y ≡ x +ℤ pos n → (pos k *ℤ x) ≤ℤ (pos k *ℤ y)
times-le_from k n x y e =
    let f : pos k *ℤ y ≡ pos k *ℤ x +ℤ pos (k * n) = ap (λ z. pos k *ℤ z) e ∙ times-add k n x in
    omega (arith, ints)

pub times-le : (k : ℕ) (x y : ℤ) → x ≤ℤ y → (pos k *ℤ x) ≤ℤ (pos k *ℤ y)
times-le k x y h = times-le_from k ((up y + down x) - (up x + down y)) x y (omega (arith, ints))

pub square-nonneg : (x : ℤ) → pos 0 ≤ℤ (x *ℤ x)
square-nonneg (pos n) = omega (arith, ints)
square-nonneg (negsuc n) = omega (arith, ints)

-- a positive factor may be left out
pub times-le_cancel : (k : ℕ) (x y : ℤ) → 0 < k → (pos k *ℤ x) ≤ℤ (pos k *ℤ y) → x ≤ℤ y
times-le_cancel k x y some h =
    by_lt_z y x
    (λ over. absurd (let step : (pos k *ℤ (y +ℤ pos 1)) ≤ℤ (pos k *ℤ x) = times-le k (y +ℤ pos 1) x (omega (arith, ints)) in
    let e : pos k *ℤ (y +ℤ pos 1) ≡ pos k *ℤ y +ℤ pos (k * 1) = times-add k 1 y in
    omega (arith, ints)))
    (λ le. le)

pub times-eq_cancel : (k : ℕ) (x y : ℤ) → 0 < k → pos k *ℤ x ≡ pos k *ℤ y → x ≡ y
times-eq_cancel k x y some e =
    both x y (times-le_cancel k x y some (omega (arith, ints))) (times-le_cancel k y x some (omega (arith, ints)))
  where
    both : (x y : ℤ) → x ≤ℤ y → y ≤ℤ x → x ≡ y
    both x y h g = omega (arith, ints)

pub times-nonneg : (k : ℕ) (x : ℤ) → pos 0 ≤ℤ x → pos 0 ≤ℤ (pos k *ℤ x)
times-nonneg k x h =
    let e : pos k *ℤ pos 0 ≡ pos 0 = omega (arith, ints) in
    let step = times-le k (pos 0) x h in
    omega (arith, ints)

pub times-le_zero : (k : ℕ) (x : ℤ) → x ≤ℤ pos 0 → (pos k *ℤ x) ≤ℤ pos 0
times-le_zero k x h =
    let e : pos k *ℤ pos 0 ≡ pos 0 = omega (arith, ints) in
    let step = times-le k x (pos 0) h in
    omega (arith, ints)

pub once : (z : ℤ) → pos (1 * 1) *ℤ z ≡ z
once z = omega (arith, ints)
