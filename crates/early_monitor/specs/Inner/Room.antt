-- At most one proof shows that a state belongs to its program, so a monitor may store it as a fact.
use native.Mathlib.Nat.{ℕ_set}
use Rattle.std.specs.Coded.{le_prop}
use Rattle.mtl_monitor.specs.declared.node.Operator.{Operator}
use Rattle.mtl_monitor.specs.declared.node.Operator.TheVariants as op
use Rattle.mtl_monitor.specs.declared.node.Kept.{Kept}
use Rattle.mtl_monitor.specs.declared.node.Kept.TheVariants as kinds
use Rattle.mtl_monitor.specs.declared.program.Program.{Program}
use Rattle.mtl_monitor.specs.declared.trace_state.TraceState.{TraceState}
use Rattle.mtl_monitor.specs.Inner.Copying.{HasShape}
use Rattle.mtl_monitor.specs.Following.{HasRoom}
use Rattle.early_monitor.specs.declared.early_program.EarlyProgram.{EarlyProgram}
use Rattle.early_monitor.specs.declared.early_program.EarlyProgram.TheVariants as program
use Rattle.early_monitor.specs.declared.early_program.EarlyState.{EarlyState}
use Rattle.early_monitor.specs.declared.early_program.EarlyState.TheVariants as state
use Rattle.early_monitor.specs.Inner.EarlyStates.{IsStateOf}

HasShape-prop : (o : Operator) (s : Kept) → IsProp (HasShape o s)
HasShape-prop (op.Late cells from a) (kinds.Ring line) = hlevel ℕ_set
HasShape-prop (op.Window kind width from a) (kinds.Window left) = hlevel ℕ_set
HasShape-prop (op.Since width lower from a b) (kinds.Since hits bars) = hlevel ℕ_set
HasShape-prop (op.Until from full lower a behind b) (kinds.Until outlook) = hlevel ℕ_set
HasShape-prop (op.Atom a) kinds.Plain = hlevel ℕ_set
HasShape-prop (op.Not a) kinds.Plain = hlevel ℕ_set
HasShape-prop (op.Pair kind a b) kinds.Plain = hlevel ℕ_set
HasShape-prop _ _ = hlevel ℕ_set

HasRoom-prop : (p : Program) (s : TraceState) → IsProp (HasRoom p s)
HasRoom-prop p s = hlevel (HasShape-prop, ℕ_set)

pub IsStateOf-prop : (p : EarlyProgram) (s : EarlyState) → IsProp (IsStateOf p s)
IsStateOf-prop (program.Sweeps p) (state.Sweeps s) = hlevel (HasRoom-prop, ℕ_set, le_prop)
IsStateOf-prop (program.Passes p) (state.Passes s) = hlevel (HasRoom-prop, ℕ_set, le_prop)
IsStateOf-prop (program.Sweeps p) (state.Passes s) = λ x y. absurd x
IsStateOf-prop (program.Passes p) (state.Sweeps s) = λ x y. absurd x
