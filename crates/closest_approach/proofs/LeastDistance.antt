-- Where the distance along a straight move is least, by its three cases.
use Rattle.std.proofs.Common.{◌≡◌, ℕ, ℤ, pos, ◌+ℤ◌, ◌-ℤ◌, ◌*ℤ◌, neg_ℤ, ◌≤ℤ◌, ◌-◌, ◌*◌, ◌≤◌, ◌<◌, arith, ◌∙◌, ap, sym, subst}
use Rattle.std.proofs.lemmas.Int.{ints}
use Rattle.closest_approach.proofs.Products.{dot_of, turn_of, norm2_of}
use Rattle.fixed_geometry.proofs.ForCallers.{polynomials, diff_of, diff_same}
use Rattle.closest_approach.proofs.Identity.{identity}
use Rattle.closest_approach.proofs.Order.{square-nonneg, times-eq_cancel, times-nonneg, times-le_zero}

sum_le : (g n x y z : ℤ) → n ≡ x +ℤ y +ℤ z → g ≤ℤ x → pos 0 ≤ℤ y → pos 0 ≤ℤ z → g ≤ℤ n
sum_le g n x y z e p q s = omega (arith, ints)

rest_le : (g n x y z : ℤ) → n ≡ x -ℤ y +ℤ z → g ≤ℤ x → y ≤ℤ pos 0 → pos 0 ≤ℤ z → g ≤ℤ n
rest_le g n x y z e p q s = omega (arith, ints)

same_le : (z : ℤ) → z ≤ℤ z
same_le z = omega (arith, ints)

pub norm2-nonneg : (x y : ℤ) → pos 0 ≤ℤ norm2_of x y
norm2-nonneg x y = sum_nonneg (x *ℤ x) (y *ℤ y) (square-nonneg x) (square-nonneg y)
  where
    sum_nonneg : (u v : ℤ) → pos 0 ≤ℤ u → pos 0 ≤ℤ v → pos 0 ≤ℤ (u +ℤ v)
    sum_nonneg u v p q = omega (arith, ints)

-- ---- the square of the distance at an instant

-- from the beginning of the move
from_start : (px py wx wy : ℤ) (a b : ℕ) → norm2_of (pos b *ℤ px +ℤ pos a *ℤ wx) (pos b *ℤ py +ℤ pos a *ℤ wy)
    ≡ pos (b * b) *ℤ norm2_of px py +ℤ pos (2 * (a * b)) *ℤ dot_of px py wx wy +ℤ pos (a * a) *ℤ norm2_of wx wy
from_start px py wx wy a b = rw (← diff_of px, ← diff_of py, ← diff_of wx, ← diff_of wy) (simp polynomials (diff_same _ _ _ _ (omega arith)))

-- from the instant n, if a and c make b n
from_end : (px py wx wy : ℤ) (n b c : ℕ)
    → norm2_of (pos b *ℤ px +ℤ (pos (b * n) -ℤ pos c) *ℤ wx) (pos b *ℤ py +ℤ (pos (b * n) -ℤ pos c) *ℤ wy)
    ≡ pos (b * b) *ℤ norm2_of (px +ℤ pos n *ℤ wx) (py +ℤ pos n *ℤ wy) -ℤ pos (2 * (b * c)) *ℤ (dot_of px py wx wy +ℤ pos n *ℤ norm2_of wx wy) +ℤ pos (c * c) *ℤ norm2_of wx wy
from_end px py wx wy n b c = rw (← diff_of px, ← diff_of py, ← diff_of wx, ← diff_of wy) (simp polynomials (diff_same _ _ _ _ (omega arith)))

module _ (px py wx wy : ℤ) where
  -- The vessels draw apart from the beginning on.
  pub least_at_start : pos 0 ≤ℤ dot_of px py wx wy → (a b : ℕ)
      → (pos (b * b) *ℤ norm2_of px py) ≤ℤ norm2_of (pos b *ℤ px +ℤ pos a *ℤ wx) (pos b *ℤ py +ℤ pos a *ℤ wy)
  least_at_start apart a b =
      sum_le _ _ _ _ _ (from_start px py wx wy a b)
      (same_le (pos (b * b) *ℤ norm2_of px py))
      (times-nonneg (2 * (a * b)) (dot_of px py wx wy) apart)
      (times-nonneg (a * a) (norm2_of wx wy) (norm2-nonneg wx wy))

  -- They come closer up to the instant n.
  pub least_at_end : (n : ℕ) → (dot_of px py wx wy +ℤ pos n *ℤ norm2_of wx wy) ≤ℤ pos 0 → (a b : ℕ) → a ≤ b * n
      → (pos (b * b) *ℤ norm2_of (px +ℤ pos n *ℤ wx) (py +ℤ pos n *ℤ wy)) ≤ℤ norm2_of (pos b *ℤ px +ℤ pos a *ℤ wx) (pos b *ℤ py +ℤ pos a *ℤ wy)
  least_at_end n closing a b le =
      let c : ℕ = b * n - a in
      subst (λ (z : ℤ). (pos (b * b) *ℤ norm2_of (px +ℤ pos n *ℤ wx) (py +ℤ pos n *ℤ wy)) ≤ℤ norm2_of (pos b *ℤ px +ℤ z *ℤ wx) (pos b *ℤ py +ℤ z *ℤ wy))
      (remaining (b * n) a le)
      (rest_le _ _ _ _ _ (from_end px py wx wy n b c)
      (same_le (pos (b * b) *ℤ norm2_of (px +ℤ pos n *ℤ wx) (py +ℤ pos n *ℤ wy)))
      (times-le_zero (2 * (b * c)) (dot_of px py wx wy +ℤ pos n *ℤ norm2_of wx wy) closing)
      (times-nonneg (c * c) (norm2_of wx wy) (norm2-nonneg wx wy)))
    where
      remaining : (m a : ℕ) → a ≤ m → pos m -ℤ pos (m - a) ≡ pos a
      remaining m a le = omega (arith, ints)

  -- They are nearest at the instant a / k: there only the turn is left.
  pub square_within : (a k : ℕ) → 0 < k → norm2_of wx wy ≡ pos k → dot_of px py wx wy ≡ neg_ℤ (pos a)
      → norm2_of (pos k *ℤ px +ℤ pos a *ℤ wx) (pos k *ℤ py +ℤ pos a *ℤ wy) ≡ pos k *ℤ (turn_of px py wx wy *ℤ turn_of px py wx wy)
  square_within a k some length back =
      let q : ℤ = norm2_of (pos k *ℤ px +ℤ pos a *ℤ wx) (pos k *ℤ py +ℤ pos a *ℤ wy) in
      let along : ℤ = pos k *ℤ dot_of px py wx wy +ℤ pos a *ℤ norm2_of wx wy in
      let t : ℤ = turn_of px py wx wy *ℤ turn_of px py wx wy in
      let none : along ≡ pos 0 = rw (length, back) (cancelled a k) in
      let e : pos k *ℤ q ≡ along *ℤ along +ℤ pos (k * k) *ℤ t = ap (λ z. z *ℤ q) (sym length) ∙ identity px py wx wy a k in
      let f : pos k *ℤ q ≡ pos k *ℤ (pos k *ℤ t) = e ∙ (ap (λ z. z *ℤ z +ℤ pos (k * k) *ℤ t) none ∙ (zero_plus (pos (k * k) *ℤ t) ∙ twice k t)) in
      times-eq_cancel k q (pos k *ℤ t) some f
    where
      cancelled : (a k : ℕ) → pos k *ℤ neg_ℤ (pos a) +ℤ pos a *ℤ pos k ≡ pos 0
      cancelled a k = simp polynomials (diff_same _ _ _ _ (omega arith))

      zero_plus : (z : ℤ) → pos 0 *ℤ pos 0 +ℤ z ≡ z
      zero_plus z = omega (arith, ints)

      twice : (k : ℕ) (t : ℤ) → pos (k * k) *ℤ t ≡ pos k *ℤ (pos k *ℤ t)
      twice k t = rw (← diff_of t) (simp polynomials (diff_same _ _ _ _ (omega arith)))

  -- At no instant is the square less than that of the turn over that of the change.
  pub least_within : (k : ℕ) → norm2_of wx wy ≡ pos k → (a b : ℕ)
      → (pos (b * b) *ℤ (turn_of px py wx wy *ℤ turn_of px py wx wy)) ≤ℤ (pos k *ℤ norm2_of (pos b *ℤ px +ℤ pos a *ℤ wx) (pos b *ℤ py +ℤ pos a *ℤ wy))
  least_within k length a b =
      let q : ℤ = norm2_of (pos b *ℤ px +ℤ pos a *ℤ wx) (pos b *ℤ py +ℤ pos a *ℤ wy) in
      let along : ℤ = pos b *ℤ dot_of px py wx wy +ℤ pos a *ℤ norm2_of wx wy in
      let t : ℤ = turn_of px py wx wy *ℤ turn_of px py wx wy in
      let e : pos k *ℤ q ≡ along *ℤ along +ℤ pos (b * b) *ℤ t = ap (λ z. z *ℤ q) (sym length) ∙ identity px py wx wy a b in
      above_by (pos k *ℤ q) (along *ℤ along) (pos (b * b) *ℤ t) e (square-nonneg along)
    where
      above_by : (n x y : ℤ) → n ≡ x +ℤ y → pos 0 ≤ℤ x → y ≤ℤ n
      above_by n x y e p = omega (arith, ints)
