-- What is known of the position at a place, by the rows before the last and by all.
use Rattle.std.proofs.Common.{◌≡◌, ◌≢◌, ℕ, zero, ◌+◌, ◌<◌, ◌≤◌, refl, sym, ◌∙◌, arith, Bool, true, false, inl, inr, [], ◌∷◌, ◌++◌, length, Option, Some, None}
use Rattle.std.specs.Prelude.{nat_le, ◌&&◌}
use Rattle.std.proofs.lemmas.Bool.Decides.{nat_tests}
use Rattle.std.proofs.lemmas.List.{length_push}
use Rattle.mtl_formulas.specs.declared.atom.Atom.{Atom}
use Rattle.mtl_formulas.specs.declared.verdict.Verdict.{Verdict}
use Rattle.mtl_formulas.specs.declared.verdict.Verdict.TheVariants.{No, Open, Yes}
use Rattle.mtl_formulas.specs.FormulaTree.{FormulaTree}
use Rattle.mtl_formulas.specs.FormulaMeasures.{reach_of}
use Rattle.mtl_formulas.proofs.Values.{value_of-past}
use Rattle.mtl_formulas.specs.Traces.{Trace, value_in}
use Rattle.mtl_monitor.specs.Following.{IsEnded}
use Rattle.early_monitor.specs.Inner.Known.{is_decided, is_known, position_at, is_answered}
use Rattle.early_monitor.specs.Inner.Passing.{IsDecidedAt, IsLooked}
use Rattle.mtl_early.proofs.ForCallers.{decided_now, decided_before, open_still}

not_decided : (v : Verdict) → is_decided v ≡ false → v ≡ Open
not_decided Open h = refl
not_decided No h = cc
not_decided Yes h = cc

is_not_open : (v : Verdict) → is_decided v ≡ true → v ≢ Open
is_not_open Open h e = cc
is_not_open No h e = cc
is_not_open Yes h e = cc

and_false : (b : Bool) → (b && false) ≡ false
and_false true = refl
and_false false = refl

fits : (m n : ℕ) → m ≤ n → nat_le m n ≡ true
fits m n h = grind (arith, nat_tests)

fits_not : (m n : ℕ) → n < m → nat_le m n ≡ false
fits_not m n h = grind (arith, nat_tests)

-- where there is a position at the place, what is known of it is whether its value is decided
at_position : (rows : Trace) (t : FormulaTree) (k j : ℕ) → j + (reach_of t + 1) ≡ k + length rows → is_known rows t k ≡ is_decided (value_in rows t j)
at_position rows t k j at =
    let there : nat_le (reach_of t + 1) (k + length rows) ≡ true = fits (reach_of t + 1) (k + length rows) (omega (arith, at)) in
    let position : position_at rows t k ≡ j = omega (arith, at) in
    rw (there, position)

pub none_known : (t : FormulaTree) (k : ℕ) → k ≤ reach_of t → is_known [] t k ≡ false
none_known t k within =
    let none : nat_le (reach_of t + 1) (k + zero) ≡ false = fits_not (reach_of t + 1) (k + zero) (omega (arith, within)) in
    rw none

pub known_by_answer : (answer : Option (ℕ × Verdict)) (rows : Trace) (t : FormulaTree) (k : ℕ) → k ≤ reach_of t → IsEnded answer t rows k → is_answered answer ≡ is_known rows t k
known_by_answer None rows t k within ended = elim ended [
  | inl early ↦
      let none : nat_le (reach_of t + 1) (k + length rows) ≡ false = fits_not (reach_of t + 1) (k + length rows) (omega (arith, early)) in
      rw none
  | inr late ↦ absurd (omega (arith, late, within))
]
known_by_answer (Some a) rows t k within ended =
    rw (at_position rows t k a.0 (omega (arith, ended.0)), ← ended.2)

-- the place that is the last row's own
pub last_known : (before : Trace) (t : FormulaTree) → is_known before t (reach_of t + 1) ≡ false
last_known before t =
    let position : position_at before t (reach_of t + 1) ≡ length before = omega arith in
    let unknown : value_in before t (length before) ≡ Open = value_of-past (λ row. row) before t (length before) (omega arith) in
    rw (position, unknown) (and_false (nat_le (reach_of t + 1) ((reach_of t + 1) + length before)))

module _ (before : Trace) (row : Atom → Verdict) (t : FormulaTree) (k : ℕ) where
  one_more : length (before ++ row ∷ []) ≡ length before + 1
  one_more = length_push before row

  pub looked_some : (a : ℕ × Verdict) → IsEnded (Some a) t (before ++ row ∷ []) k → is_known (before ++ row ∷ []) t k ≡ true → is_known before t (k + 1) ≡ false
      → IsDecidedAt a t (before ++ row ∷ []) k
  looked_some a ended is was =
      let at : a.0 + (reach_of t + 1) ≡ k + length (before ++ row ∷ []) = omega (arith, ended.0) in
      let old : is_known before t (k + 1) ≡ is_decided (value_in before t a.0) = at_position before t (k + 1) a.0 (omega (arith, at, one_more)) in
      let now : is_known (before ++ row ∷ []) t k ≡ is_decided (value_in (before ++ row ∷ []) t a.0) = at_position (before ++ row ∷ []) t k a.0 at in
      record {
        position = at;
        decided = decided_now before row t a.0 (not_decided _ (sym old ∙ was)) (is_not_open _ (sym now ∙ is));
        value = ended.2;
      }

  pub looked_unknown : is_known (before ++ row ∷ []) t k ≡ false → IsLooked None t (before ++ row ∷ []) k
  looked_unknown is = λ j at. open_still (before ++ row ∷ []) t j (not_decided _ (sym (at_position (before ++ row ∷ []) t k j at) ∙ is))

  pub looked_known : is_known before t (k + 1) ≡ true → IsLooked None t (before ++ row ∷ []) k
  looked_known was = λ j at. decided_before before row t j (is_not_open _ (sym (at_position before t (k + 1) j (omega (arith, at, one_more))) ∙ was))
