-- Which positions one more row decides.
use Rattle.std.proofs.Common.{◌≡◌, ◌≢◌, ℕ, zero, suc, ◌+◌, ◌<◌, ◌≤◌, refl, sym, ◌∙◌, arith, inl, inr, [], ◌∷◌, ◌++◌, length, length-append, take, take-take, drop}
use Rattle.std.specs.Prelude.{slice_get}
use Rattle.std.proofs.lemmas.Bool.{cases_lt}
use Rattle.std.proofs.lemmas.List.{take_all, take-append-le, take-append-drop, length_push, length-take-le}
use Rattle.mtl_formulas.specs.declared.atom.Atom.{Atom}
use Rattle.mtl_formulas.specs.declared.verdict.Verdict.{Verdict}
use Rattle.mtl_formulas.specs.declared.verdict.Verdict.TheVariants.{No, Open, Yes}
use Rattle.mtl_formulas.specs.FormulaTree.{FormulaTree}
use Rattle.mtl_formulas.proofs.PrefixLaw.{Stays-value, decided-Stays}
use Rattle.mtl_formulas.specs.FormulaMeasures.{reach_of}
use Rattle.mtl_formulas.proofs.Values.{value_of-past}
use Rattle.mtl_formulas.proofs.ReachLaw.{value_of-same, equal-AgreeAt}
use Rattle.mtl_formulas.specs.Traces.{Trace, value_in}
use Rattle.mtl_monitor.proofs.ForCallers.{within_rows}
use Rattle.mtl_early.specs.Decided.{IsDecided, IsDecidedNow}

-- what is Open over a trace was Open over each beginning of it
pub open_before : (rows : Trace) (t : FormulaTree) (i k : ℕ) → value_in rows t i ≡ Open → value_in (take k rows) t i ≡ Open
open_before rows t i k unknown = by_value (value_in (take k rows) t i) refl
  where
    stays : value_in (take k rows) t i ≢ Open → value_in rows t i ≡ value_in (take k rows) t i
    stays decided =
        rw (take-append-drop k rows) at (decided-Stays _ _ (Stays-value (λ row. row) (take k rows) (drop k rows) t i) decided)

    by_value : (v : Verdict) → value_in (take k rows) t i ≡ v → value_in (take k rows) t i ≡ Open
    by_value Open is = is
    by_value No is = absurd (let same = stays (λ o. cc) in cc)
    by_value Yes is = absurd (let same = stays (λ o. cc) in cc)

module _ (before : Trace) (row : Atom → Verdict) (t : FormulaTree) (i : ℕ) where
  rows : Trace
  rows = before ++ row ∷ []

  pub decided_now : value_in before t i ≡ Open → value_in (before ++ row ∷ []) t i ≢ Open → IsDecidedNow t (before ++ row ∷ []) i
  decided_now unknown decided =
      let one_more : length (before ++ row ∷ []) ≡ length before + 1 = length_push before row in record {
        inside = within_rows (before ++ row ∷ []) t i decided;
        among = omega arith;
        decided = rw (take_all (length (before ++ row ∷ [])) (before ++ row ∷ []) (omega arith)) decided;
        first = λ k below.
            rw (take-append-le k before (row ∷ []) (omega (arith, one_more, below)))
            (open_before before t i k unknown);
      }

  pub decided_before : value_in before t i ≢ Open → ¬ IsDecidedNow t (before ++ row ∷ []) i
  decided_before decided h =
      let one_more : length (before ++ row ∷ []) ≡ length before + 1 = length_push before row in
      let unknown = h.first (length before) (omega (arith, one_more)) in
      decided (rw (take-append-le (length before) before (row ∷ []) (omega arith), take_all (length before) before (omega arith)) at unknown)

pub open_still : (rows : Trace) (t : FormulaTree) (i : ℕ) → value_in rows t i ≡ Open → ¬ IsDecidedNow t rows i
open_still rows t i unknown h = h.decided (rw (take_all (length rows) rows (omega arith)) unknown)

-- ---- what is decided is decided once, and stays

module _ (rows : Trace) (t : FormulaTree) (i m : ℕ) (h : IsDecided t rows i m) where
  pub decided_still : (more : Trace) → IsDecided t (rows ++ more) i m
  decided_still more =
      let among = h.among in record {
        inside = h.inside;
        among = omega (arith, length-append rows more);
        decided = rw (take-append-le m rows more among) h.decided;
        first = λ k below. rw (take-append-le k rows more (omega (arith, among, below))) (h.first k below);
      }

  pub decided_value : value_in rows t i ≡ value_in (take m rows) t i
  decided_value = rw (take-append-drop m rows) at (decided-Stays _ _ (Stays-value (λ row. row) (take m rows) (drop m rows) t i) h.decided)

  -- Over that many rows or more it is not Open.
  pub decided_from : (n : ℕ) → m ≤ n → value_in (take n rows) t i ≢ Open
  decided_from n most unknown =
      h.decided (rw (take-take m n rows most) at (open_before (take n rows) t i m unknown))

pub decided_front : (rows more : Trace) (t : FormulaTree) (i m : ℕ) → IsDecided t (rows ++ more) i m → m ≤ length rows → IsDecided t rows i m
decided_front rows more t i m h among =
    record {
      inside = h.inside;
      among = among;
      decided = rw (take-append-le m rows more among) at h.decided;
      first = λ k below. rw (take-append-le k rows more (omega (arith, among, below))) at (h.first k below);
    }

pub one_number : (rows : Trace) (t : FormulaTree) (i m n : ℕ) → IsDecided t rows i m → IsDecided t rows i n → m ≡ n
one_number rows t i m n h k = elim (cases_lt m n) [
  | inl less ↦ absurd (h.decided (k.first m less))
  | inr no_less ↦ elim (cases_lt n m) [
    | inl more ↦ absurd (k.decided (h.first n more))
    | inr no_more ↦ omega (arith, no_less, no_more)
  ]
]

-- ---- each value of Yes or No is decided by some number of rows

module _ (rows : Trace) (t : FormulaTree) (i : ℕ) where
  decided_by : (n : ℕ) → n ≤ length rows → value_in (take n rows) t i ≢ Open → (m : ℕ) × IsDecided t rows i m
  decided_by zero within decided = absurd (decided (value_of-past (λ row. row) [] t i (omega arith)))
  decided_by (suc n) within decided = by_value (decided_by n (omega (arith, within))) (value_in (take n rows) t i) refl
    where
      inside_front : i < suc n
      inside_front = let inside = within_rows (take (suc n) rows) t i decided in omega (arith, inside, length-take-le (suc n) rows within)

      before : (k : ℕ) → k < suc n → value_in (take n rows) t i ≡ Open → value_in (take k rows) t i ≡ Open
      before k below unknown = rw (take-take k n rows (omega (arith, below))) at (open_before (take n rows) t i k unknown)

      by_value : (value_in (take n rows) t i ≢ Open → (m : ℕ) × IsDecided t rows i m) → (v : Verdict) → value_in (take n rows) t i ≡ v → (m : ℕ) × IsDecided t rows i m
      by_value earlier Open is = (suc n, record { inside = inside_front; among = within; decided = decided; first = λ k below. before k below is })
      by_value earlier No is = earlier (λ unknown. cc)
      by_value earlier Yes is = earlier (λ unknown. cc)

  pub some_number : value_in rows t i ≢ Open → (m : ℕ) × IsDecided t rows i m
  some_number decided = decided_by (length rows) (omega arith) (rw (take_all (length rows) rows (omega arith)) decided)

-- ---- rows beyond the formula's reach

slice_get-take : (n k : ℕ) (rows : Trace) → k < n → slice_get (take n rows) k ≡ slice_get rows k
slice_get-take zero k rows h = absurd (omega (arith, h))
slice_get-take (suc n) k [] h = refl
slice_get-take (suc n) zero (row ∷ rows) h = refl
slice_get-take (suc n) (suc k) (row ∷ rows) h = slice_get-take n k rows (omega (arith, h))

-- The rows that a formula reaches determine its value.
pub value_take : (rows : Trace) (t : FormulaTree) (i n : ℕ) → i + reach_of t < n → value_in (take n rows) t i ≡ value_in rows t i
value_take rows t i n far =
    value_of-same (λ row. row) (take n rows) (λ row. row) rows t i (λ k below. equal-AgreeAt (λ row. row) (take n rows) rows k (slice_get-take n k rows (omega (arith, far, below))))

-- A position that lies more than the reach before the last row is not decided by it.
pub decided_earlier : (before : Trace) (row : Atom → Verdict) (t : FormulaTree) (j : ℕ) → j + (reach_of t + 1) < length (before ++ row ∷ [])
    → ¬ IsDecidedNow t (before ++ row ∷ []) j
decided_earlier before row t j far = by_value (value_in before t j) refl
  where
    one_more : length (before ++ row ∷ []) ≡ length before + 1
    one_more = length_push before row

    same : value_in before t j ≡ value_in (before ++ row ∷ []) t j
    same =
        rw (take-append-le (length before) before (row ∷ []) (omega arith), take_all (length before) before (omega arith))
        at (value_take (before ++ row ∷ []) t j (length before) (omega (arith, far, one_more)))

    by_value : (v : Verdict) → value_in before t j ≡ v → ¬ IsDecidedNow t (before ++ row ∷ []) j
    by_value Open is = open_still (before ++ row ∷ []) t j (sym same ∙ is)
    by_value No is = decided_before before row t j (λ e. cc)
    by_value Yes is = decided_before before row t j (λ e. cc)
