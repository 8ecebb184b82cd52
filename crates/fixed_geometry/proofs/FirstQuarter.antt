-- In the first quarter of the circle the sines rise and the cosines fall, and none is negative.
use Rattle.std.proofs.Common.{◌≡◌, ℕ, zero, suc, ◌-◌, ◌*◌, ◌/◌, ◌%◌, ◌<◌, ◌≤◌, inl, inr, ℤ, pos, ◌≤ℤ◌, List, [], ◌∷◌, length, get_or, refl, sym, ap, ◌∙◌, subst, lit<, mul-le-mul_right, arith}
use Rattle.std.proofs.lemmas.Bool.{and_parts, cases_lt, le-leb, leb-true}
use Rattle.std.proofs.lemmas.Int.{ints}
use Rattle.std.proofs.Math.Nat.{eq-or-lt_of_le}
use Rattle.fixed_geometry.specs.Bearing.{has_turned}
use Rattle.std.specs.Prelude.{leb, negsuc, slice_index, Bool, true, false, ◌&&◌, nat_le}
use Rattle.fixed_geometry.specs.Compass.{quarter_of, unit_of, sine_of, cosine_of}
use Rattle.fixed_geometry.specs.declared.point.Point.{Point}
use Rattle.fixed_geometry.specs.declared.compass.TheConstants.{SINES}
use Rattle.fixed_geometry.proofs.Table.{quarter_sine, quarter_cosine}

-- ---- the first quarter, from the table

pub unit_of-first : (k : ℕ) → k < 900 → unit_of k ≡ quarter_of k
unfolding unit_of
unit_of-first k h =
    let none : k / 900 ≡ 0 = omega arith in
    let same : k % 900 ≡ k = omega arith in
    rw (none, same)

sine_in_table : (k : ℕ) → k < 900 → sine_of k ≡ pos (slice_index SINES k)
sine_in_table k h = ap (λ (p : Point). p.x) (unit_of-first k h) ∙ sym (quarter_sine k (omega arith))

cosine_in_table : (k : ℕ) → k < 900 → cosine_of k ≡ pos (slice_index SINES (900 - k))
cosine_in_table k h = ap (λ (p : Point). p.y) (unit_of-first k h) ∙ sym (quarter_cosine k (omega arith))

-- ---- neighbours in the table, all compared

abbrev rises : List ℕ → Bool
rises [] = true
rises (x ∷ []) = true
rises (x ∷ y ∷ ys) = nat_le (suc x) y && rises (y ∷ ys)

sines_rise : rises SINES ≡ true
sines_rise = refl

rises_at : (xs : List ℕ) (k : ℕ) → rises xs ≡ true → suc k < length xs → get_or xs k 0 < get_or xs (suc k) 0
rises_at [] k h lt = absurd (omega arith)
rises_at (x ∷ []) k h lt = absurd (omega arith)
rises_at (x ∷ y ∷ ys) zero h lt = let le = leb-true (suc x) y (and_parts (nat_le (suc x) y) (rises (y ∷ ys)) h).0 in omega arith
rises_at (x ∷ y ∷ ys) (suc k) h lt = rises_at (y ∷ ys) k (and_parts (nat_le (suc x) y) (rises (y ∷ ys)) h).1 (omega arith)

-- The sine of the next tenth is greater, and its cosine less.
pub record Neighbours (k : ℕ) : Type 0 where
  pub s : ℕ
  pub s' : ℕ
  pub c : ℕ
  pub c' : ℕ
  pub sine : sine_of k ≡ pos s
  pub sine' : sine_of (suc k) ≡ pos s'
  pub cosine : cosine_of k ≡ pos c
  pub cosine' : cosine_of (suc k) ≡ pos c'
  pub rise : s < s'
  pub fall : c' < c

pub neighbours : (k : ℕ) → suc k < 900 → Neighbours k
neighbours k lt =
    let next : suc (900 - suc k) ≡ 900 - k = omega arith in
    record {
      s = slice_index SINES k;
      s' = slice_index SINES (suc k);
      c = slice_index SINES (900 - k);
      c' = slice_index SINES (900 - suc k);
      sine = sine_in_table k (omega arith);
      sine' = sine_in_table (suc k) lt;
      cosine = cosine_in_table k (omega arith);
      cosine' = cosine_in_table (suc k) lt;
      rise = rises_at SINES k sines_rise (omega arith);
      fall = subst (λ (i : ℕ). get_or SINES (900 - suc k) 0 < get_or SINES i 0) next (rises_at SINES (900 - suc k) sines_rise (omega arith));
    }

-- No sine is negative, and each cosine is greater than 0.
pub record Sizes (k : ℕ) : Type 0 where
  pub s : ℕ
  pub c : ℕ
  pub sine : sine_of k ≡ pos s
  pub cosine : cosine_of k ≡ pos c
  pub some : 0 < c

last_sizes : Sizes 899
last_sizes = record {
  s = slice_index SINES 899;
  c = slice_index SINES 1;
  sine = sine_in_table 899 (lit< tt);
  cosine = cosine_in_table 899 (lit< tt);
  some = lit< tt;
}

pub sizes : (k : ℕ) → k < 900 → Sizes k
sizes k lt =
    elim (cases_lt (suc k) 900) [
      | inl more ↦ (let n = neighbours k more in record { s = n.s; c = n.c; sine = n.sine; cosine = n.cosine; some = let fall = n.fall in omega arith })
      | inr last ↦ subst Sizes (omega arith) last_sizes
    ]

-- ---- A vector that has turned by an angle of the first quarter has turned by each lesser one.

earlier_by_sizes : (s s' c c' n e : ℕ) → s < s' → c' < c → leb (s' * n) (c' * e) ≡ true → leb (s * n) (c * e) ≡ true
earlier_by_sizes s s' c c' n e rise fall h =
    let less : s ≤ s' = omega arith in
    let more : c' ≤ c = omega arith in
    le-leb (s * n) (c * e) (omega (arith, mul-le-mul_right n less, mul-le-mul_right e more, leb-true (s' * n) (c' * e) h))

earlier : (n e k : ℕ) → suc k < 900 → has_turned (pos n) (pos e) (suc k) ≡ true → has_turned (pos n) (pos e) k ≡ true
earlier n e k lt h =
    let near = neighbours k lt in
    rw (near.sine, near.cosine) (earlier_by_sizes near.s near.s' near.c near.c' n e near.rise near.fall (rw (near.sine', near.cosine') at h))

all_earlier : (n e j k : ℕ) → j ≤ k → k < 900 → has_turned (pos n) (pos e) k ≡ true → has_turned (pos n) (pos e) j ≡ true
all_earlier n e j zero le lt h = subst (λ (i : ℕ). has_turned (pos n) (pos e) i ≡ true) (omega arith) h
all_earlier n e j (suc k) le lt h =
    elim (eq-or-lt_of_le le) [
      | inl same ↦ subst (λ (i : ℕ). has_turned (pos n) (pos e) i ≡ true) (sym same) h
      | inr below ↦ all_earlier n e j k (omega arith) (omega arith) (earlier n e k lt h)
    ]

none_later : (n e k j : ℕ) → k ≤ j → j < 900 → has_turned (pos n) (pos e) k ≡ false → has_turned (pos n) (pos e) j ≡ false
none_later n e k j le lt h = go (has_turned (pos n) (pos e) j) refl
  where
    go : (b : Bool) → has_turned (pos n) (pos e) j ≡ b → b ≡ false
    go false is = refl
    go true is = let early = all_earlier n e k j le lt is in cc

pub turned_at_zero : (n e : ℤ) → pos 0 ≤ℤ n → pos 0 ≤ℤ e → has_turned n e 0 ≡ true
turned_at_zero (pos n) (pos e) _ _ =
    let sine : sine_of 0 ≡ pos 0 = sine_in_table 0 (lit< tt) in
    let cosine : cosine_of 0 ≡ pos 1000000 = cosine_in_table 0 (lit< tt) in
    rw (sine, cosine) (le-leb (0 * n) (1000000 * e) (omega arith))
turned_at_zero (negsuc n) e h _ = absurd (omega (arith, ints))
turned_at_zero (pos n) (negsuc e) _ h = absurd (omega (arith, ints))

pub not_turned_later : (n e : ℤ) → pos 0 ≤ℤ n → pos 0 ≤ℤ e → (k : ℕ) → has_turned n e k ≡ false → (j : ℕ) → k ≤ j → j < 900 → has_turned n e j ≡ false
not_turned_later (pos n) (pos e) _ _ k h j le lt = none_later n e k j le lt h
not_turned_later (negsuc n) e h _ k _ j _ _ = absurd (omega (arith, ints))
not_turned_later (pos n) (negsuc e) _ h k _ j _ _ = absurd (omega (arith, ints))
