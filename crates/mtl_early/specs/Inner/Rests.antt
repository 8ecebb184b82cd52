-- Values at the last row, and what a pass over the cells needs of them: no more than that those of the program's formulas are the same.
use Rattle.std.specs.Prelude.{◌≡◌, ℕ, ◌<◌, List, [], ◌∷◌, ◌++◌, length}
use Rattle.mtl_formulas.specs.declared.atom.Atom.{Atom}
use Rattle.mtl_formulas.specs.declared.verdict.Verdict.{Verdict}
use Rattle.mtl_formulas.specs.FormulaTree.{FormulaTree}
use Rattle.mtl_formulas.specs.FormulaMeasures.{reach_of}
use Rattle.mtl_monitor.specs.Following.{Follows, count_of, formula_at, last_value}
use Rattle.mtl_formulas.specs.Traces.{Trace, value_in}
use Rattle.mtl_monitor.specs.declared.program.Program.{Program}
use Rattle.mtl_monitor.specs.declared.trace_state.TraceState.{TraceState}

-- the value of a formula that looks no position ahead, at the last row that was fed
abbrev pub IsValueNow : Program → TraceState → ℕ → Verdict → Type 0
IsValueNow p s r v =
    (formulas : List FormulaTree) (rows : Trace) (row : Atom → Verdict) → Follows p s formulas (rows ++ row ∷ []) → reach_of (formula_at formulas r) ≡ 0
    → v ≡ value_in (rows ++ row ∷ []) (formula_at formulas r) (length rows)

-- Such values are those at the last of these rows, whatever rows were fed.
abbrev pub ReadsNow : Program → TraceState → List FormulaTree → Trace → (Atom → Verdict) → Type 0
ReadsNow p s formulas rows row =
    (r : ℕ) → r < count_of p → reach_of (formula_at formulas r) ≡ 0 → (v : Verdict) → IsValueNow p s r v → v ≡ value_in (rows ++ row ∷ []) (formula_at formulas r) (length rows)

-- The formulas' last values are those at the last of these rows.
abbrev pub AreLast : Program → TraceState → List FormulaTree → Trace → (Atom → Verdict) → Type 0
AreLast p s formulas rows row =
    (r : ℕ) → r < count_of p → reach_of (formula_at formulas r) ≡ 0 → last_value p s r ≡ value_in (rows ++ row ∷ []) (formula_at formulas r) (length rows)
