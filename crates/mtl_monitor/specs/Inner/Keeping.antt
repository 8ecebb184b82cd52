-- The nodes that keep something between rows.
use Rattle.std.specs.Prelude.{ℕ, Bool, true, false, List, length}
use Rattle.std.specs.List.{filter, range_with_len}
use Rattle.mtl_monitor.specs.declared.node.Operator.{Operator}
use Rattle.mtl_monitor.specs.declared.node.Operator.TheVariants as op
use Rattle.mtl_monitor.specs.declared.node.ProgramNode.{ProgramNode}
use Rattle.mtl_monitor.specs.Inner.Standing.{node_at}

-- whether a node of this operator keeps anything between rows
abbrev pub is_keeping : Operator → Bool
is_keeping (op.Atom a) = false
is_keeping (op.Not a) = false
is_keeping (op.Pair kind a b) = false
is_keeping (op.Late cells from a) = true
is_keeping (op.Window kind width from a) = true
is_keeping (op.Since width lower from a b) = true
is_keeping (op.Until from full lower a behind b) = true

-- the indices of those of the first n nodes that keep something, in order
abbrev pub keepers_among : List ProgramNode → ℕ → List ℕ
keepers_among nodes n = filter (λ k. is_keeping (node_at nodes k).operator) (range_with_len 0 n)

abbrev pub keepers_of : List ProgramNode → List ℕ
keepers_of nodes = keepers_among nodes (length nodes)
