-- Where the lag of No is the whole reach, a No is decided by the last row that the formula reaches.
use Rattle.std.proofs.Common.{◌≡◌, ◌≢◌, ℕ, ◌+◌, ◌<◌, refl, sym, ◌∙◌, arith, length, take, drop}
use Rattle.std.proofs.lemmas.List.{take-append-drop, length-take}
use Rattle.mtl_formulas.specs.declared.verdict.Verdict.{Verdict}
use Rattle.mtl_formulas.specs.declared.verdict.Verdict.TheVariants.{No, Open, Yes}
use Rattle.mtl_formulas.specs.FormulaTree.{FormulaTree}
use Rattle.mtl_formulas.specs.FormulaMeasures.{HasValidParts, reach_of}
use Rattle.mtl_formulas.proofs.PrefixLaw.{Stays-value, decided-Stays}
use Rattle.mtl_formulas.specs.Traces.{Trace, value_in}
use Rattle.rule_program.specs.Lags.{lags_of}
use Rattle.rule_program.proofs.LagLaws.{value-HasLags}
use Rattle.mtl_early.specs.Decided.{IsDecided}
use Rattle.mtl_early.proofs.ForCallers.{value_take}

-- Where the lag of No is the whole reach, a No comes with the last row that the formula reaches.
pub no_last : (rows : Trace) (t : FormulaTree) (i : ℕ) → HasValidParts t → (lags_of t).no ≡ reach_of t → value_in rows t i ≡ No → IsDecided t rows i (i + reach_of t + 1)
no_last rows t i valid last fails =
    let inside : i + reach_of t < length rows = rw last at ((value-HasLags rows t valid).no i fails) in
    let now : value_in (take (i + reach_of t + 1) rows) t i ≡ No = value_take rows t i (i + reach_of t + 1) (omega arith) ∙ fails in
    record {
      inside = omega arith;
      among = omega (arith, inside);
      decided = rw now (λ e. cc);
      first = λ k below. before k below (value_in (take k rows) t i) refl;
    }
  where
    stays : (k : ℕ) → value_in (take k rows) t i ≢ Open → value_in (take k rows) t i ≡ No
    stays k decided =
        sym (rw (take-append-drop k rows) at (decided-Stays _ _ (Stays-value (λ row. row) (take k rows) (drop k rows) t i) decided)) ∙ fails

    before : (k : ℕ) → k < i + reach_of t + 1 → (v : Verdict) → value_in (take k rows) t i ≡ v → value_in (take k rows) t i ≡ Open
    before k below Open is = is
    before k below No is = absurd (let short = (value-HasLags (take k rows) t valid).no i is in omega (arith, rw last at short, length-take k rows, below))
    before k below Yes is = absurd (let same = stays k (λ e. cc) in cc)
