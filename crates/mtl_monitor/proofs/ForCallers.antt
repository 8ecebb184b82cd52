-- Which positions of a trace have a value.
use Rattle.std.proofs.Common.{◌≡◌, ◌≢◌, ℕ, ◌<◌, arith, true, inl, inr, length}
use Rattle.std.specs.Prelude.{nat_lt}
use Rattle.std.proofs.lemmas.Bool.Decides.{nat_tests}
use Rattle.std.proofs.lemmas.Bool.{cases_lt}
use Rattle.mtl_formulas.specs.declared.verdict.Verdict.{Verdict}
use Rattle.mtl_formulas.specs.declared.verdict.Verdict.TheVariants.{Open}
use Rattle.mtl_formulas.specs.FormulaTree.{FormulaTree}
use Rattle.mtl_formulas.specs.FormulaValue.{before_end}
use Rattle.mtl_formulas.specs.Traces.{Trace, value_in}
use Rattle.mtl_formulas.proofs.Values.{value_of-past}

pub within_end : (rows : Trace) (i : ℕ) (v : Verdict) → i < length rows → before_end (λ row. row) rows i v ≡ v
within_end rows i v inside = let test : nat_lt i (length rows) ≡ true = grind (arith, nat_tests) in rw test

-- A value other than Open is that of a position of the trace.
pub within_rows : (rows : Trace) (t : FormulaTree) (i : ℕ) → value_in rows t i ≢ Open → i < length rows
within_rows rows t i decided = elim (cases_lt i (length rows)) [
  | inl inside ↦ inside
  | inr past ↦ absurd (decided (value_of-past (λ row. row) rows t i past))
]
