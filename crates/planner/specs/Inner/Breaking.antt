-- Positions that are newly broken, by how many rows have passed when a monitor gives their values.
use Rattle.std.specs.Prelude.{ℕ, ◌≡◌, ◌≢◌, ◌+◌, ◌*◌, ◌<◌, ◌⊎◌, ◌↔◌, Bool, false, IsTrue, List, length, get_or, map}
use Rattle.mtl_formulas.specs.FormulaTree.{FormulaTree}
use Rattle.mtl_formulas.specs.FormulaMeasures.{reach_of}
use Rattle.mtl_formulas.specs.declared.verdict.Verdict.TheVariants.{No}
use Rattle.mtl_monitor.specs.Following.{count_of, formula_at, last_value, past_of, Closes, Follows}
use Rattle.mtl_formulas.specs.Traces.{Trace, value_in}
use Rattle.mtl_monitor.specs.declared.program.Program.{Program}
use Rattle.mtl_monitor.specs.declared.trace_state.TraceState.{TraceState}
use Rattle.planner.specs.declared.already.Already.{Already}
use Rattle.plan_situations.specs.declared.situation.Situation.{Situation}

-- the formulas of a situation's rules
abbrev pub formulas_of : Situation → List FormulaTree
formulas_of situation = map (λ rule. rule.tree) situation.rules

-- So many rows have passed through the state, those beyond the trace's end among them.
abbrev pub HasPassed : Program → TraceState → List FormulaTree → Trace → ℕ → Type 0
HasPassed program values formulas rows passed =
    (Follows program values formulas rows × (passed ≡ length rows)) ⊎ (Closes program values formulas rows × (passed ≡ length rows + past_of values))

-- The value is No at the position that this many rows decide: the formula's reach before the last of
-- them.
pub record IsBrokenAt (rows : Trace) (formula : FormulaTree) (passed : ℕ) : Type 0 where
  pub position : ℕ
  pub decided : position + 1 + reach_of formula ≡ passed
  pub broken : value_in rows formula position ≡ No

-- Some formula is broken there, and was not when the trace is cut.
pub record IsNewlyBrokenAt (formulas : List FormulaTree) (cut rows : Trace) (passed : ℕ) : Type 0 where
  pub rule : ℕ
  pub known : rule < length formulas
  pub at : IsBrokenAt rows (formula_at formulas rule) passed
  pub not_before : value_in cut (formula_at formulas rule) at.position ≢ No

-- No formula's last value is No.
abbrev pub IsCalm : Program → TraceState → Type 0
IsCalm program values = (rule : ℕ) → rule < count_of program → last_value program values rule ≢ No

-- what is kept of the cut trace for the row with this index after it
abbrev pub flag_at : Already → ℕ → ℕ → Bool
flag_at already index rule = get_or already.flags.items (index * already.rules + rule) false

-- It holds what is broken when the trace is cut, for each position that a row after the cut decides.
pub record Tells (formulas : List FormulaTree) (cut : Trace) (already : Already) : Type 0 where
  pub width : already.rules ≡ length formulas
  pub each : (index rule position : ℕ) → rule < length formulas → position + reach_of (formula_at formulas rule) ≡ length cut + index
      → (IsTrue (flag_at already index rule) ↔ (value_in cut (formula_at formulas rule) position ≡ No))

-- One more row of flags was added: one flag a formula, as the state's answers to it say.
pub record IsRowAdded (program : Program) (values : TraceState) (old new : Already) : Type 0 where
  pub longer : length new.flags.items ≡ length old.flags.items + count_of program
  pub before : (k : ℕ) → k < length old.flags.items → get_or new.flags.items k false ≡ get_or old.flags.items k false
  pub here : (rule : ℕ) → rule < count_of program → (formulas : List FormulaTree) (rows : Trace) (passed : ℕ) → HasPassed program values formulas rows passed
      → (IsTrue (get_or new.flags.items (length old.flags.items + rule) false) ↔ IsBrokenAt rows (formula_at formulas rule) passed)
