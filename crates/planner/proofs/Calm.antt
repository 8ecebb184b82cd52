-- Where no formula's last value is No, the last row breaks nothing.
use Rattle.std.proofs.Common.{◌≡◌, ℕ, ◌-◌, ◌<◌, List, [], length, append-nil, sym, ap, ◌∙◌, arith}
use Rattle.mtl_formulas.specs.FormulaTree.{FormulaTree}
use Rattle.mtl_formulas.specs.FormulaMeasures.{reach_of}
use Rattle.mtl_monitor.specs.Following.{Follows, GivesTheSame, formula_at, last_value}
use Rattle.mtl_monitor.proofs.Feeding.{last_given}
use Rattle.mtl_formulas.specs.Traces.{Trace, value_in}
use Rattle.mtl_monitor.specs.declared.program.Program.{Program}
use Rattle.mtl_monitor.specs.declared.trace_state.TraceState.{TraceState}
use Rattle.planner.specs.Inner.Breaking.{IsCalm, IsNewlyBrokenAt}

module _ (program : Program) (values : TraceState) (formulas : List FormulaTree) (rows : Trace) (follows : Follows program values formulas rows) where
  -- The last value of a formula is that at the position which the last row has decided.
  last_is : (k : ℕ) → k < length formulas → reach_of (formula_at formulas k) < length rows
      → last_value program values k ≡ value_in rows (formula_at formulas k) (length rows - 1 - reach_of (formula_at formulas k))
  last_is k lt reach =
      last_given program values formulas rows follows k lt reach []
      ∙ ap (λ (r : Trace). value_in r (formula_at formulas k) (length rows - 1 - reach_of (formula_at formulas k))) (append-nil rows)

  pub none_broken : IsCalm program values → (cut : Trace) → ¬ IsNewlyBrokenAt formulas cut rows (length rows)
  none_broken calm cut h =
      let count = follows.of.count in
      let known = h.known in
      let decided = h.at.decided in
      let tree = formula_at formulas h.rule in
      let last = last_is h.rule known (omega arith) in
      let position : length rows - 1 - reach_of tree ≡ h.at.position = omega arith in
      calm h.rule (omega arith) (last ∙ ap (value_in rows tree) position ∙ h.at.broken)

pub stays_calm : (program : Program) (old new : TraceState) → GivesTheSame program old new → IsCalm program old → IsCalm program new
stays_calm program old new same calm rule inside = λ e. calm rule inside (sym (same rule inside) ∙ e)
