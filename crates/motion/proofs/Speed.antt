-- How far a vessel moves in a time: no leg is faster than 102.2 knots, and 9 times the distance in t seconds is 4731860 t at
-- most.
use Rattle.std.proofs.Common.{◌≡◌, ℕ, zero, suc, ◌+◌, ◌-◌, ◌*◌, ◌<◌, ◌≤◌, ◌⊎◌, inl, inr, ℤ, pos, negsuc, ◌+ℤ◌, ◌-ℤ◌, ◌*ℤ◌, ◌≤ℤ◌, ◌<ℤ◌, unsigned_abs, arith, sym, subst, mul-le-mul_left}
use Rattle.std.proofs.Math.Nat.{mul-div-le, lt-mul-div-succ, le_of_mul-le-mul_left}
use Rattle.std.proofs.lemmas.Int.{ints, unsigned_abs-mul}
use Rattle.std.proofs.lemmas.Nat.{mul-lt}
use Rattle.std.specs.Int.{int_div_euclid}
use Rattle.fixed_geometry.specs.Rounding.{rounded}
use Rattle.motion.specs.Between.{between}
use Rattle.fixed_geometry.proofs.ForCallers.{polynomials, diff_of, diff_same}

-- ---- the speed of a leg

le_or_lt : (m n : ℕ) → (m ≤ n) ⊎ (n < m)
le_or_lt m n = grind arith

root_le : (a b : ℕ) → a * a ≤ b * b → a ≤ b
root_le a b h =
    elim (le_or_lt a b) [
      | inl le ↦ le
      | inr lt ↦ absurd (let over : b * b < a * a = mul-lt b b a a lt lt in omega arith)
    ]

square_size : (z : ℤ) → z *ℤ z ≡ pos (unsigned_abs z * unsigned_abs z)
square_size (pos n) = omega (arith, ints)
square_size (negsuc n) = omega (arith, ints)

pub one_component : (x y : ℤ) (most : ℕ) → (pos 81 *ℤ (x *ℤ x +ℤ y *ℤ y)) ≤ℤ pos (most * most) → 9 * unsigned_abs x ≤ most
one_component x y most h =
    let ex = square_size x in
    let ey = square_size y in
    let n : 81 * (unsigned_abs x * unsigned_abs x) ≤ most * most = omega (arith, ints) in
    root_le (9 * unsigned_abs x) most (omega arith)

-- ---- a part of a leg

-- q is nearest to s / b of the move
record IsNear (move q : ℤ) (s b : ℕ) : Type 0 where
  low : (pos (2 * b) *ℤ q) ≤ℤ (pos 2 *ℤ (move *ℤ pos s) +ℤ pos b)
  high : (pos 2 *ℤ (move *ℤ pos s) +ℤ pos b) <ℤ (pos (2 * b) *ℤ q +ℤ pos (2 * b))

floor_low : (z : ℤ) (d : ℕ) → 0 < d → (pos d *ℤ int_div_euclid z (pos d)) ≤ℤ z
floor_low (pos a) d some = let h = mul-div-le a d in omega (arith, ints)
floor_low (negsuc a) d some = let h = lt-mul-div-succ a some in omega (arith, ints)

floor_high : (z : ℤ) (d : ℕ) → 0 < d → z <ℤ (pos d *ℤ int_div_euclid z (pos d) +ℤ pos d)
floor_high (pos a) d some = let h = lt-mul-div-succ a some in omega (arith, ints)
floor_high (negsuc a) d some = let h = mul-div-le a d in omega (arith, ints)

rounded_near : (move : ℤ) (s b : ℕ) → 0 < b → IsNear move (rounded (move *ℤ pos s) b) s b
unfolding rounded
rounded_near move s b some = record {
  low = floor_low (pos 2 *ℤ (move *ℤ pos s) +ℤ pos b) (2 * b) (omega arith);
  high = floor_high (pos 2 *ℤ (move *ℤ pos s) +ℤ pos b) (2 * b) (omega arith);
}

nothing_near : (move : ℤ) (b : ℕ) → 0 < b → IsNear move (pos 0) 0 b
nothing_near move b some = record { low = omega (arith, ints); high = omega (arith, ints) }

all_near : (move : ℤ) (b : ℕ) → 0 < b → IsNear move move b b
all_near move b some =
    let e : pos (2 * b) *ℤ move ≡ pos 2 *ℤ (move *ℤ pos b) = rw (← diff_of move) (simp polynomials (diff_same _ _ _ _ (omega arith))) in
    record { low = omega (arith, ints); high = omega (arith, ints) }

apart : (b : ℕ) (p q : ℤ) → pos (2 * b) *ℤ q ≡ pos (2 * b) *ℤ p +ℤ pos 2 *ℤ (pos b *ℤ (q -ℤ p))
apart b p q = rw (← diff_of p, ← diff_of q) (simp polynomials (diff_same _ _ _ _ (omega arith)))

later : (move : ℤ) (s d : ℕ) → move *ℤ pos (s + d) ≡ move *ℤ pos s +ℤ move *ℤ pos d
later move s d = rw (← diff_of move) (simp polynomials (diff_same _ _ _ _ (omega arith)))

sizes : (a w : ℤ) (b most : ℕ) → 9 * unsigned_abs w ≤ most → a ≤ℤ (w +ℤ pos b) → (w -ℤ pos b) ≤ℤ a → 9 * unsigned_abs a ≤ most + 9 * b
sizes a w b most h up down = omega (arith, ints)

-- two places on one move
near_each_other : (move p q : ℤ) (s d b : ℕ) → 0 < b → 9 * unsigned_abs move ≤ 4731860 * b → IsNear move p s b → IsNear move q (s + d) b
    → 9 * unsigned_abs (q -ℤ p) ≤ 4731860 * d + 9
near_each_other move p q s d b some slow np nq =
    let a : ℤ = pos b *ℤ (q -ℤ p) in
    let e1 = apart b p q in
    let e2 = later move s d in
    let l1 = np.low in
    let h1 = np.high in
    let l2 = nq.low in
    let h2 = nq.high in
    let wide : unsigned_abs (move *ℤ pos d) ≡ unsigned_abs move * d = unsigned_abs-mul move (pos d) in
    let slower : d * (9 * unsigned_abs move) ≤ d * (4731860 * b) = mul-le-mul_left d slow in
    let size : 9 * unsigned_abs a ≤ 4731860 * b * d + 9 * b = sizes a (move *ℤ pos d) b (4731860 * b * d) (omega arith) (omega (arith, ints)) (omega (arith, ints)) in
    let part : unsigned_abs a ≡ b * unsigned_abs (q -ℤ p) = unsigned_abs-mul (pos b) (q -ℤ p) in
    let scaled : b * (9 * unsigned_abs (q -ℤ p)) ≤ b * (4731860 * d + 9) = omega arith in
    le_of_mul-le-mul_left scaled some

-- ---- places on one leg

same_difference : (from p q : ℤ) → (from +ℤ q) -ℤ (from +ℤ p) ≡ q -ℤ p
same_difference from p q = omega (arith, ints)

module _ (from to : ℤ) (whole : ℕ) (some : 0 < whole) (slow : 9 * unsigned_abs (to -ℤ from) ≤ 4731860 * whole) where
  pub on_leg : (s d : ℕ) → 9 * unsigned_abs (between from to (s + d) whole -ℤ between from to s whole) ≤ 4731860 * d + 9
  unfolding between
  on_leg s d =
      rw (same_difference from (rounded ((to -ℤ from) *ℤ pos s) whole) (rounded ((to -ℤ from) *ℤ pos (s + d)) whole))
      (near_each_other (to -ℤ from) _ _ s d whole some slow (rounded_near (to -ℤ from) s whole some) (rounded_near (to -ℤ from) (s + d) whole some))

  pub to_end : (s d : ℕ) → s + d ≡ whole → 9 * unsigned_abs (to -ℤ between from to s whole) ≤ 4731860 * d + 9
  unfolding between
  to_end s d e =
      rw (rest from to (rounded ((to -ℤ from) *ℤ pos s) whole))
      (near_each_other (to -ℤ from) _ (to -ℤ from) s d whole some slow (rounded_near (to -ℤ from) s whole some)
      (subst (λ (n : ℕ). IsNear (to -ℤ from) (to -ℤ from) n whole) (sym e) (all_near (to -ℤ from) whole some)))
    where
      rest : (from to q : ℤ) → to -ℤ (from +ℤ q) ≡ (to -ℤ from) -ℤ q
      rest from to q = omega (arith, ints)

  pub from_begin : (d : ℕ) → 9 * unsigned_abs (between from to d whole -ℤ from) ≤ 4731860 * d + 9
  unfolding between
  from_begin d =
      rw (first from (rounded ((to -ℤ from) *ℤ pos d) whole))
      (near_each_other (to -ℤ from) (pos 0) _ 0 d whole some slow (nothing_near (to -ℤ from) whole some)
      (subst (λ (n : ℕ). IsNear (to -ℤ from) (rounded ((to -ℤ from) *ℤ pos d) whole) n whole) (none d) (rounded_near (to -ℤ from) d whole some)))
    where
      first : (from q : ℤ) → (from +ℤ q) -ℤ from ≡ q -ℤ pos 0
      first from q = omega (arith, ints)

      none : (d : ℕ) → d ≡ 0 + d
      none d = omega arith

-- ---- legs that meet

-- the places and the times at which legs begin and end
pub record AreMeeting (from to : ℕ → ℤ) (begin end : ℕ → ℕ) (i j : ℕ) : Type 0 where
  pub place : (k : ℕ) → i ≤ k → k < j → to k ≡ from (k + 1)
  pub time : (k : ℕ) → i ≤ k → k < j → end k ≡ begin (k + 1)
  pub lasts : (k : ℕ) → k ≤ j → begin k < end k
  pub slow : (k : ℕ) → k ≤ j → 9 * unsigned_abs (to k -ℤ from k) ≤ 4731860 * (end k - begin k)

pub record IsReached (from to : ℕ → ℤ) (begin end : ℕ → ℕ) (i j : ℕ) : Type 0 where
  pub order : end i ≤ begin j
  pub slow : 9 * unsigned_abs (from j -ℤ to i) ≤ 4731860 * (begin j - end i)

next_reached : (a b c : ℤ) (m n : ℕ) → 9 * unsigned_abs (b -ℤ a) ≤ m → 9 * unsigned_abs (c -ℤ b) ≤ n → 9 * unsigned_abs (c -ℤ a) ≤ m + n
next_reached a b c m n h k = omega (arith, ints)

no_way : (a b : ℤ) (m : ℕ) → a ≡ b → 9 * unsigned_abs (b -ℤ a) ≤ m
no_way a b m e = omega (arith, ints)

pub reached : (from to : ℕ → ℤ) (begin end : ℕ → ℕ) (i n j : ℕ) → j ≡ i + n + 1 → AreMeeting from to begin end i j → IsReached from to begin end i j
reached from to begin end i zero j e h =
    let P : ℕ → Type 0 = λ j. AreMeeting from to begin end i j → IsReached from to begin end i j in
    let here : i + 1 ≡ j = omega arith in
    subst P here (λ g. let time : end i ≡ begin (i + 1) = g.time i (omega arith) (omega arith) in
    record { order = omega arith; slow = no_way (to i) (from (i + 1)) _ (g.place i (omega arith) (omega arith)) }) h
reached from to begin end i (suc n) j e h =
    let k : ℕ = i + n + 1 in
    let P : ℕ → Type 0 = λ j. AreMeeting from to begin end i j → IsReached from to begin end i j in
    let here : k + 1 ≡ j = omega arith in
    subst P here (λ g. let before : IsReached from to begin end i k = reached from to begin end i n k (omega arith) (record {
      place = λ m le lt. g.place m le (omega arith);
      time = λ m le lt. g.time m le (omega arith);
      lasts = λ m le. g.lasts m (omega arith);
      slow = λ m le. g.slow m (omega arith);
    }) in
    let order = before.order in
    let lasts : begin k < end k = g.lasts k (omega arith) in
    let time : end k ≡ begin (k + 1) = g.time k (omega arith) (omega arith) in
    let whole : 9 * unsigned_abs (to k -ℤ to i) ≤ 4731860 * (begin k - end i) + 4731860 * (end k - begin k) =
    next_reached (to i) (from k) (to k) _ _ before.slow (g.slow k (omega arith)) in
    record {
      order = omega arith;
      slow = subst (λ (z : ℤ). 9 * unsigned_abs (z -ℤ to i) ≤ 4731860 * (begin (k + 1) - end i)) (g.place k (omega arith) (omega arith)) (omega arith);
    }) h
