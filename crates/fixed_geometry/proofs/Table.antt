-- Each entry of the table is the value that the compass's recurrence gives: the checker computes all of them.
use Rattle.std.proofs.Common.{◌≡◌, ℕ, zero, suc, ◌+◌, ◌-◌, ◌^◌, ◌<◌, ◌≤◌, inl, inr, ℤ, pos, List, [], ◌∷◌, get_or, refl, sym, ap, ap₂, ◌∙◌, lit≤, arith}
use Rattle.std.proofs.lemmas.Bool.{and_parts, cases_lt, le-leb}
use Rattle.std.proofs.lemmas.Bool.Decides.{nat_tests}
use Rattle.std.specs.List.{list_all}
use Rattle.std.specs.Prelude.{slice_index, true, false, nat_le}
use Rattle.fixed_geometry.specs.Rounding.{rounded}
use Rattle.fixed_geometry.specs.Compass.{Direction, tenth_further, compass_direction, eighth_of, mirrored, quarter_of}
use Rattle.fixed_geometry.specs.declared.point.Point.{Point}
use Rattle.fixed_geometry.specs.declared.compass.TheConstants.{SINES}

-- the sines of n directions, from one on
abbrev sines_from : ℕ → Direction → List ℤ
sines_from zero d = []
sines_from (suc n) d = rounded d.sine (10 ^ 9) ∷ sines_from n (tenth_further d)

abbrev cosines_from : ℕ → Direction → List ℤ
cosines_from zero d = []
cosines_from (suc n) d = rounded d.cosine (10 ^ 9) ∷ cosines_from n (tenth_further d)

-- the entries of n directions, from j on
abbrev entries_from : ℕ → ℕ → List ℤ
entries_from zero j = []
entries_from (suc n) j = pos (slice_index SINES j) ∷ entries_from n (suc j)

-- the entries of what n directions leave of the quarter, from j on
abbrev entries_left : ℕ → ℕ → List ℤ
entries_left zero j = []
entries_left (suc n) j = pos (slice_index SINES (900 - j)) ∷ entries_left n (suc j)

all_sines : entries_from 451 0 ≡ sines_from 451 (record { sine = pos 0; cosine = pos (10 ^ 15) })
unfolding rounded
all_sines = refl

all_cosines : entries_left 451 0 ≡ cosines_from 451 (record { sine = pos 0; cosine = pos (10 ^ 15) })
unfolding rounded
all_cosines = refl

same_sine : (i j : ℕ) → i ≡ j → pos (slice_index SINES i) ≡ pos (slice_index SINES j)
same_sine i j e = ap (λ (k : ℕ). pos (slice_index SINES k)) e

from_in : (n j k : ℕ) → k < n → get_or (entries_from n j) k (pos 0) ≡ pos (slice_index SINES (j + k))
from_in zero j k h = absurd (omega arith)
from_in (suc n) j zero h = same_sine j (j + zero) (omega arith)
from_in (suc n) j (suc k) h = from_in n (suc j) k (omega arith) ∙ same_sine (suc j + k) (j + suc k) (omega arith)

left_in : (n j k : ℕ) → k < n → get_or (entries_left n j) k (pos 0) ≡ pos (slice_index SINES (900 - (j + k)))
left_in zero j k h = absurd (omega arith)
left_in (suc n) j zero h = same_sine (900 - j) (900 - (j + zero)) (omega arith)
left_in (suc n) j (suc k) h = left_in n (suc j) k (omega arith) ∙ same_sine (900 - (suc j + k)) (900 - (j + suc k)) (omega arith)

same_entry : (i j : ℕ) → i ≡ j → eighth_of i ≡ eighth_of j
same_entry i j e = ap eighth_of e

sine_in : (n j k : ℕ) → k < n → get_or (sines_from n (compass_direction j)) k (pos 0) ≡ (eighth_of (j + k)).x
unfolding compass_direction eighth_of
sine_in zero j k h = absurd (omega arith)
sine_in (suc n) j zero h = ap (λ (p : Point). p.x) (same_entry j (j + zero) (omega arith))
sine_in (suc n) j (suc k) h = sine_in n (suc j) k (omega arith) ∙ ap (λ (p : Point). p.x) (same_entry (suc j + k) (j + suc k) (omega arith))

cosine_in : (n j k : ℕ) → k < n → get_or (cosines_from n (compass_direction j)) k (pos 0) ≡ (eighth_of (j + k)).y
unfolding compass_direction eighth_of
cosine_in zero j k h = absurd (omega arith)
cosine_in (suc n) j zero h = ap (λ (p : Point). p.y) (same_entry j (j + zero) (omega arith))
cosine_in (suc n) j (suc k) h = cosine_in n (suc j) k (omega arith) ∙ ap (λ (p : Point). p.y) (same_entry (suc j + k) (j + suc k) (omega arith))

sine_entry : (k : ℕ) → k ≤ 450 → pos (slice_index SINES k) ≡ (eighth_of k).x
unfolding compass_direction
sine_entry k h =
    let entry : get_or (entries_from 451 0) k (pos 0) ≡ pos (slice_index SINES (0 + k)) = from_in 451 0 k (omega arith) in
    let value : get_or (sines_from 451 (compass_direction 0)) k (pos 0) ≡ (eighth_of (0 + k)).x = sine_in 451 0 k (omega arith) in
    same_sine k (0 + k) (omega arith) ∙ sym entry ∙ ap (λ (l : List ℤ). get_or l k (pos 0)) all_sines ∙ value ∙ ap (λ (p : Point). p.x) (same_entry (0 + k) k (omega arith))

cosine_entry : (k : ℕ) → k ≤ 450 → pos (slice_index SINES (900 - k)) ≡ (eighth_of k).y
unfolding compass_direction
cosine_entry k h =
    let entry : get_or (entries_left 451 0) k (pos 0) ≡ pos (slice_index SINES (900 - (0 + k))) = left_in 451 0 k (omega arith) in
    let value : get_or (cosines_from 451 (compass_direction 0)) k (pos 0) ≡ (eighth_of (0 + k)).y = cosine_in 451 0 k (omega arith) in
    same_sine (900 - k) (900 - (0 + k)) (omega arith) ∙ sym entry ∙ ap (λ (l : List ℤ). get_or l k (pos 0)) all_cosines ∙ value ∙ ap (λ (p : Point). p.y) (same_entry (0 + k) k (omega arith))

quarter_of-low : (k : ℕ) → k ≤ 450 → quarter_of k ≡ eighth_of k
quarter_of-low k h = let e : nat_le k 450 ≡ true = le-leb k 450 h in rw e

quarter_of-high : (k : ℕ) → 450 < k → quarter_of k ≡ mirrored (eighth_of (900 - k))
quarter_of-high k h = let e : nat_le k 450 ≡ false = grind (arith, nat_tests) in rw e

pub quarter_sine : (k : ℕ) → k ≤ 900 → pos (slice_index SINES k) ≡ (quarter_of k).x
quarter_sine k h =
    elim (cases_lt k 451) [
      | inl low ↦ sine_entry k (omega arith) ∙ sym (ap (λ (p : Point). p.x) (quarter_of-low k (omega arith)))
      | inr high ↦
          (let left = cosine_entry (900 - k) (omega arith) in
          same_sine k (900 - (900 - k)) (omega arith) ∙ left ∙ sym (ap (λ (p : Point). p.x) (quarter_of-high k (omega arith))))
    ]

pub quarter_cosine : (k : ℕ) → k ≤ 900 → pos (slice_index SINES (900 - k)) ≡ (quarter_of k).y
quarter_cosine k h =
    elim (cases_lt k 451) [
      | inl low ↦ cosine_entry k (omega arith) ∙ sym (ap (λ (p : Point). p.y) (quarter_of-low k (omega arith)))
      | inr high ↦ sine_entry (900 - k) (omega arith) ∙ sym (ap (λ (p : Point). p.y) (quarter_of-high k (omega arith)))
    ]

all_small : list_all (λ x. nat_le x 1000000) SINES ≡ true
all_small = refl

small_in : (xs : List ℕ) (k : ℕ) → list_all (λ x. nat_le x 1000000) xs ≡ true → get_or xs k 0 ≤ 1000000
small_in [] k h = lit≤ tt
small_in (x ∷ xs) zero h = let (here, more) = and_parts (nat_le x 1000000) (list_all (λ x. nat_le x 1000000) xs) h in grind (arith, nat_tests)
small_in (x ∷ xs) (suc k) h = let (here, more) = and_parts (nat_le x 1000000) (list_all (λ x. nat_le x 1000000) xs) h in small_in xs k more

pub sine_small : (k : ℕ) → slice_index SINES k ≤ 1000000
sine_small k = small_in SINES k all_small

pub quarter_is : (k x y : ℕ) → k ≤ 900 → x ≡ slice_index SINES k → y ≡ slice_index SINES (900 - k) → record { x = pos x; y = pos y } ≡ quarter_of k
quarter_is k x y h sine cosine =
    let point : ℤ → ℤ → Point = λ (x y : ℤ). record { x = x; y = y } in
    ap₂ point (ap pos sine ∙ quarter_sine k h) (ap pos cosine ∙ quarter_cosine k h)
