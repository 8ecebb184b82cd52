-- A part of a whole, rounded, is no longer than the whole, and the whole is the whole.
use Rattle.std.proofs.Common.{◌≡◌, ℕ, suc, ◌+◌, ◌-◌, ◌*◌, ◌/◌, ◌<◌, ◌≤◌, ◌⊎◌, inl, inr, ℤ, pos, negsuc, ◌+ℤ◌, ◌-ℤ◌, ◌*ℤ◌, ◌≤ℤ◌, unsigned_abs, arith, ap, mul-le-mul_left, subst, ◌∙◌}
use Rattle.std.proofs.lemmas.Int.{ints}
use Rattle.std.proofs.lemmas.Nat.{div_below, div-mul-add}
use Rattle.std.specs.Int.{int_div_euclid}
use Rattle.fixed_geometry.specs.Rounding.{rounded}
use Rattle.motion.specs.Between.{between}

-- from 0 to the whole, or from the whole to 0
LiesOn : ℤ → ℤ → Type 0
LiesOn whole q = (pos 0 ≤ℤ q × q ≤ℤ whole) ⊎ (whole ≤ℤ q × q ≤ℤ pos 0)

up_quotient : (n s b : ℕ) → 0 < b → s ≤ b → (2 * (n * s) + b) / (2 * b) ≤ n
up_quotient n s b some part =
    let h : n * s ≤ n * b = mul-le-mul_left n part in
    let below : (2 * (n * s) + b) / (2 * b) < n + 1 = div_below (2 * (n * s) + b) (2 * b) (n + 1) (omega arith) (omega arith) in
    omega arith

down_quotient : (k s b : ℕ) → 0 < b → s ≤ b → b < 2 * (k * s) → (2 * (k * s) - b - 1) / (2 * b) < k
down_quotient k s b some part over =
    let h : k * s ≤ k * b = mul-le-mul_left k part in
    div_below (2 * (k * s) - b - 1) (2 * b) k (omega arith) (omega arith)

floor_up : (z : ℤ) (a d : ℕ) → z ≡ pos a → int_div_euclid z (pos d) ≡ pos (a / d)
floor_up z a d e = ap (λ (v : ℤ). int_div_euclid v (pos d)) e

floor_down : (z : ℤ) (a d : ℕ) → z ≡ negsuc a → int_div_euclid z (pos d) ≡ negsuc (a / d)
floor_down z a d e = ap (λ (v : ℤ). int_div_euclid v (pos d)) e

little : (a d : ℕ) → 0 < d → a < d → a / d < 1
little a d some h = div_below a d 1 some (omega arith)

rounded_part : (whole : ℤ) (s b : ℕ) → 0 < b → s ≤ b → LiesOn whole (rounded (whole *ℤ pos s) b)
unfolding LiesOn rounded
rounded_part (pos n) s b some part =
    let e = floor_up (pos 2 *ℤ (pos n *ℤ pos s) +ℤ pos b) (2 * (n * s) + b) (2 * b) (omega (arith, ints)) in
    let h = up_quotient n s b some part in
    inl (omega (arith, ints), omega (arith, ints))
rounded_part (negsuc m) s b some part =
    let k : ℕ = suc m in
    elim (split (2 * (k * s)) b) [
      | inl within ↦ (let e = floor_up (pos 2 *ℤ (negsuc m *ℤ pos s) +ℤ pos b) (b - 2 * (k * s)) (2 * b) (omega (arith, ints)) in
          let h = little (b - 2 * (k * s)) (2 * b) (omega arith) (omega arith) in
          inr (omega (arith, ints), omega (arith, ints)))
      | inr over ↦ (let e = floor_down (pos 2 *ℤ (negsuc m *ℤ pos s) +ℤ pos b) (2 * (k * s) - b - 1) (2 * b) (omega (arith, ints)) in
          let h = down_quotient k s b some part over in
          inr (omega (arith, ints), omega (arith, ints)))
    ]
  where
    split : (x y : ℕ) → (x ≤ y) ⊎ (y < x)
    split x y = grind arith

-- Between two ends that are small, all is small.
between_ends : (from to q : ℤ) (size : ℕ) → LiesOn (to -ℤ from) q → unsigned_abs from ≤ size → unsigned_abs to ≤ size → unsigned_abs (from +ℤ q) ≤ size
unfolding LiesOn
between_ends from to q size (inl (low, high)) f t = omega (arith, ints)
between_ends from to q size (inr (low, high)) f t = omega (arith, ints)

pub between_small : (from to : ℤ) (since whole size : ℕ) → 0 < whole → since ≤ whole → unsigned_abs from ≤ size → unsigned_abs to ≤ size
    → unsigned_abs (between from to since whole) ≤ size
unfolding between
between_small from to since whole size some part f t = between_ends from to _ size (rounded_part (to -ℤ from) since whole some part) f t

-- ---- the whole

up_whole : (n b : ℕ) → 0 < b → (2 * (n * b) + b) / (2 * b) ≡ n
up_whole n b some =
    let e : n * (2 * b) + b ≡ 2 * (n * b) + b = omega arith in
    subst (λ (a : ℕ). a / (2 * b) ≡ n) e (div-mul-add n (2 * b) b (omega arith))

down_whole : (m b : ℕ) → 0 < b → (2 * (suc m * b) - b - 1) / (2 * b) ≡ m
down_whole m b some =
    let e : m * (2 * b) + (b - 1) ≡ 2 * (suc m * b) - b - 1 = omega arith in
    subst (λ (a : ℕ). a / (2 * b) ≡ m) e (div-mul-add m (2 * b) (b - 1) (omega arith))

rounded_whole : (whole : ℤ) (b : ℕ) → 0 < b → rounded (whole *ℤ pos b) b ≡ whole
unfolding rounded
rounded_whole (pos n) b some =
    floor_up (pos 2 *ℤ (pos n *ℤ pos b) +ℤ pos b) (2 * (n * b) + b) (2 * b) (omega (arith, ints)) ∙ ap pos (up_whole n b some)
rounded_whole (negsuc m) b some =
    let k : ℕ = suc m in
    floor_down (pos 2 *ℤ (negsuc m *ℤ pos b) +ℤ pos b) (2 * (k * b) - b - 1) (2 * b) (omega (arith, ints)) ∙ ap negsuc (down_whole m b some)

pub between_whole : (from to : ℤ) (whole : ℕ) → 0 < whole → between from to whole whole ≡ to
unfolding between
between_whole from to whole some = ap (λ (q : ℤ). from +ℤ q) (rounded_whole (to -ℤ from) whole some) ∙ back from to
  where
    back : (from to : ℤ) → from +ℤ (to -ℤ from) ≡ to
    back from to = omega (arith, ints)
