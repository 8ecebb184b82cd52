-- The order of fractions with denominators above 0.
use Rattle.std.proofs.Common.{ℕ, ◌≡◌, ◌+◌, ◌<◌, ℤ, pos, ◌+ℤ◌, ◌*ℤ◌, ◌≤ℤ◌, ◌<ℤ◌, arith, refl, sym, subst₂}
use Rattle.std.proofs.lemmas.Int.{ints, by_lt_z}
use Rattle.fixed_geometry.proofs.ForCallers.{polynomials, diff_of, diff_same}
use Rattle.closest_approach.proofs.Order.{times-le}

times-one : (k : ℕ) (x : ℤ) → pos k *ℤ (x +ℤ pos 1) ≡ pos k *ℤ x +ℤ pos k
times-one k x = rw (← diff_of x) (simp polynomials (diff_same _ _ _ _ (omega arith)))

pub times-lt : (k : ℕ) (x y : ℤ) → 0 < k → x <ℤ y → (pos k *ℤ x) <ℤ (pos k *ℤ y)
times-lt k x y some h =
    let step : (pos k *ℤ (x +ℤ pos 1)) ≤ℤ (pos k *ℤ y) = times-le k (x +ℤ pos 1) y (omega (arith, ints)) in
    let e = times-one k x in
    omega (arith, ints)

pub times-lt_cancel : (k : ℕ) (x y : ℤ) → (pos k *ℤ x) <ℤ (pos k *ℤ y) → x <ℤ y
times-lt_cancel k x y h = by_lt_z x y (λ less. less) (λ le. absurd (let back = times-le k y x le in omega (arith, ints)))

-- both sides times a third denominator
turned : (x : ℤ) (k l : ℕ) → pos k *ℤ (x *ℤ pos l) ≡ pos l *ℤ (x *ℤ pos k)
turned x k l = rw (← diff_of x) (simp polynomials (diff_same _ _ _ _ (omega arith)))

le_then_lt : (u v w : ℤ) → u ≤ℤ v → v <ℤ w → u <ℤ w
le_then_lt u v w p q = omega (arith, ints)

lt_then_le : (u v w : ℤ) → u <ℤ v → v ≤ℤ w → u <ℤ w
lt_then_le u v w p q = omega (arith, ints)

-- x/k ≤ y/l and y/l < z/m
pub chain_le_lt : (x y z : ℤ) (k l m : ℕ) → 0 < k → (x *ℤ pos l) ≤ℤ (y *ℤ pos k) → (y *ℤ pos m) <ℤ (z *ℤ pos l) → (x *ℤ pos m) <ℤ (z *ℤ pos k)
chain_le_lt x y z k l m some first second =
    times-lt_cancel l (x *ℤ pos m) (z *ℤ pos k)
    (le_then_lt _ (pos m *ℤ (y *ℤ pos k)) _
    (subst₂ ◌≤ℤ◌ (turned x m l) refl (times-le m (x *ℤ pos l) (y *ℤ pos k) first))
    (subst₂ ◌<ℤ◌ (turned y k m) (turned z k l) (times-lt k (y *ℤ pos m) (z *ℤ pos l) some second)))

pub chain_lt_le : (x y z : ℤ) (k l m : ℕ) → 0 < m → (x *ℤ pos l) <ℤ (y *ℤ pos k) → (y *ℤ pos m) ≤ℤ (z *ℤ pos l) → (x *ℤ pos m) <ℤ (z *ℤ pos k)
chain_lt_le x y z k l m some first second =
    times-lt_cancel l (x *ℤ pos m) (z *ℤ pos k)
    (lt_then_le _ (pos m *ℤ (y *ℤ pos k)) _
    (subst₂ ◌<ℤ◌ (turned x m l) refl (times-lt m (x *ℤ pos l) (y *ℤ pos k) some first))
    (subst₂ ◌≤ℤ◌ (turned y k m) (turned z k l) (times-le k (y *ℤ pos m) (z *ℤ pos l) second)))

-- the sum of the numerators over that of the denominators lies mediant

spread : (x : ℤ) (k l : ℕ) → x *ℤ pos (k + l) ≡ x *ℤ pos k +ℤ x *ℤ pos l
spread x k l = rw (← diff_of x) (simp polynomials (diff_same _ _ _ _ (omega arith)))

gathered : (x y : ℤ) (k : ℕ) → (x +ℤ y) *ℤ pos k ≡ x *ℤ pos k +ℤ y *ℤ pos k
gathered x y k = rw (← diff_of x, ← diff_of y) (simp polynomials (diff_same _ _ _ _ (omega arith)))

pub above : (x y : ℤ) (k l : ℕ) → (x *ℤ pos l) <ℤ (y *ℤ pos k) → (x *ℤ pos (k + l)) <ℤ ((x +ℤ y) *ℤ pos k)
above x y k l h = subst₂ ◌<ℤ◌ (sym (spread x k l)) (sym (gathered x y k)) (more (x *ℤ pos k) (x *ℤ pos l) (y *ℤ pos k) h)
  where
    more : (u v w : ℤ) → v <ℤ w → (u +ℤ v) <ℤ (u +ℤ w)
    more u v w h = omega (arith, ints)

pub below : (x y : ℤ) (k l : ℕ) → (x *ℤ pos l) <ℤ (y *ℤ pos k) → ((x +ℤ y) *ℤ pos l) <ℤ (y *ℤ pos (k + l))
below x y k l h = subst₂ ◌<ℤ◌ (sym (gathered x y l)) (sym (spread y k l)) (more (x *ℤ pos l) (y *ℤ pos k) (y *ℤ pos l) h)
  where
    more : (u v w : ℤ) → u <ℤ v → (u +ℤ w) <ℤ (v +ℤ w)
    more u v w h = omega (arith, ints)
