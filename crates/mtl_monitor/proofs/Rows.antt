-- A row through all nodes, one after the other.
use Rattle.std.proofs.Common.{◌≡◌, ◌≢◌, ℕ, ◌+◌, ◌<◌, ◌≤◌, arith, List, length, get_or, set, get_or-set_other, get_or-set_same, below_more}
use Rattle.std.proofs.lemmas.List.{get_or_default}
use Rattle.mtl_formulas.specs.declared.atom.Atom.{Atom}
use Rattle.mtl_formulas.specs.declared.verdict.Verdict.{Verdict}
use Rattle.mtl_formulas.specs.declared.verdict.Verdict.TheVariants.{Open}
use Rattle.mtl_formulas.specs.FormulaTree.{FormulaTree}
use Rattle.mtl_monitor.specs.declared.node.ProgramNode.{ProgramNode}
use Rattle.mtl_monitor.specs.declared.node.Kept.{Kept}
use Rattle.mtl_monitor.specs.declared.node.Kept.TheVariants as kinds
use Rattle.mtl_formulas.specs.Traces.{Trace}
use Rattle.mtl_monitor.specs.Inner.Steps.{value_at, given, kept}
use Rattle.mtl_monitor.specs.Inner.Standing.{tree_at, node_at, late_at, state_at, Keeps, IsGiven, IsRow, EndsAt, IsProgram, Midway}
use Rattle.mtl_monitor.proofs.NodeRows.{Keeps-row, IsGiven-row}

module _ (trace : Trace) (trees : List FormulaTree) (nodes : List ProgramNode) (states : List Kept) (values : List Verdict) (i k : ℕ) where
  pub Midway-next : (row : Atom → Verdict) (end : ℕ) (d s' : Kept) (v : Verdict) → IsProgram nodes trees → k < length nodes
      → length states ≡ length nodes → length values ≡ length nodes → IsRow trace row i → EndsAt trace i end
      → v ≡ given (node_at nodes k).operator (get_or states k d) (late_at nodes k) values row i end
      → s' ≡ kept (node_at nodes k).operator (get_or states k d) (late_at nodes k) values i
      → Midway trace trees nodes states values i k → Midway trace trees nodes (set states k s') (set values k v) i (k + 1)
  Midway-next row end d s' v program inside same_states same_values answers ends given_is kept_is m =
      record {
        passed = below_more _ _ passed_before passed_here;
        gave = below_more _ _ gave_before gave_here;
        waiting = waiting_on;
      }
    where
      was : state_at states k ≡ get_or states k d
      was = get_or_default states k kinds.Plain d (omega arith)

      keeps : Keeps trace trees (node_at nodes k).operator (late_at nodes k) (get_or states k d) i
      keeps = rw was at (m.waiting k (omega arith) inside)

      passed_before : (j : ℕ) → j < k → Keeps trace trees (node_at nodes j).operator (late_at nodes j) (state_at (set states k s') j) (i + 1)
      passed_before j h = let other : j ≢ k = omega arith in rw (get_or-set_other states k j s' kinds.Plain other) (m.passed j h)

      passed_here : Keeps trace trees (node_at nodes k).operator (late_at nodes k) (state_at (set states k s') k) (i + 1)
      passed_here =
          let fits : k < length states = omega arith in
          rw (get_or-set_same states k s' kinds.Plain fits, kept_is)
          (Keeps-row trace trees nodes values row i end k (node_at nodes k).operator (get_or states k d) (late_at nodes k) (tree_at trees k) (program.computes k inside) (program.below k inside) m.gave keeps)

      gave_before : (j : ℕ) → j < k → IsGiven trace (tree_at trees j) (late_at nodes j) i (value_at (set values k v) j)
      gave_before j h = let other : j ≢ k = omega arith in rw (get_or-set_other values k j v Open other) (m.gave j h)

      gave_here : IsGiven trace (tree_at trees k) (late_at nodes k) i (value_at (set values k v) k)
      gave_here =
          let fits : k < length values = omega arith in
          rw (get_or-set_same values k v Open fits, given_is)
          (IsGiven-row trace trees nodes values row i end k (node_at nodes k).operator (get_or states k d) (late_at nodes k) (tree_at trees k) (program.computes k inside) (program.below k inside) m.gave keeps answers ends)

      waiting_on : (j : ℕ) → k + 1 ≤ j → j < length nodes → Keeps trace trees (node_at nodes j).operator (late_at nodes j) (state_at (set states k s') j) i
      waiting_on j after h = let other : j ≢ k = omega arith in rw (get_or-set_other states k j s' kinds.Plain other) (m.waiting j (omega arith) h)
