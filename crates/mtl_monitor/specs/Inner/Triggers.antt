-- What makes it necessary to pass a node.
use Rattle.std.specs.Prelude.{◌≡◌, ℕ, ◌<◌, List, length, get_or}
use Rattle.std.proofs.Math.Nat.{ℕ_set}
use Rattle.mtl_monitor.specs.declared.node.Operator.{Operator}
use Rattle.mtl_monitor.specs.declared.node.Operator.TheVariants as op
use Rattle.mtl_monitor.specs.declared.node.ProgramNode.{ProgramNode}
use Rattle.mtl_monitor.specs.declared.triggers.Trigger.{Trigger}
use Rattle.mtl_monitor.specs.Inner.Standing.{node_at, AllOperands}
use Rattle.mtl_monitor.specs.Inner.Marks.{IsMarked}

abbrev pub trigger_at : List Trigger → ℕ → Trigger
trigger_at triggers k = get_or triggers k (record { operands = 0; late = 0 })

-- The node's operands are marked.
abbrev pub IsTrigger : ProgramNode → Trigger → Type 0
IsTrigger node t = AllOperands (IsMarked t.operands) node.operator × (t.late ≡ node.late)

abbrev pub AreTriggers : List ProgramNode → List Trigger → Type 0
AreTriggers nodes triggers = (length triggers ≡ length nodes) × ((k : ℕ) → k < length nodes → IsTrigger (node_at nodes k) (trigger_at triggers k))

AllMarked-prop : (marks : ℕ) (o : Operator) → IsProp (AllOperands (IsMarked marks) o)
AllMarked-prop marks (op.Atom a) = hlevel
AllMarked-prop marks (op.Not a) = hlevel ℕ_set
AllMarked-prop marks (op.Pair kind a b) = hlevel ℕ_set
AllMarked-prop marks (op.Late cells from a) = hlevel ℕ_set
AllMarked-prop marks (op.Window kind width from a) = hlevel ℕ_set
AllMarked-prop marks (op.Since width lower from a b) = hlevel ℕ_set
AllMarked-prop marks (op.Until from full lower a behind b) = hlevel ℕ_set

pub AreTriggers-prop : (nodes : List ProgramNode) (triggers : List Trigger) → IsProp (AreTriggers nodes triggers)
AreTriggers-prop nodes triggers = hlevel (ℕ_set, AllMarked-prop)
