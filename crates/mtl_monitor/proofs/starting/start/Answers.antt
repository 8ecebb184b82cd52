use Rattle.std.proofs.Common.{◌≡◌, ℕ, zero, suc, ◌<◌, ◌+◌, List, [], ◌∷◌, ◌++◌, Bool, length, true, refl, arith, rules, below_more}
use Rattle.std.proofs.lemmas.List.{length_push, get_or_push, get_or_append_left}
use Rattle.mtl_monitor.specs.declared.node.ProgramNode.{ProgramNode}
use Rattle.mtl_monitor.specs.declared.node.Kept.{Kept}
use Rattle.mtl_monitor.specs.declared.node.Kept.TheVariants.{Plain}
use Rattle.mtl_monitor.specs.Inner.Standing.{node_at, state_at}
use Rattle.mtl_monitor.specs.Inner.Starting.{IsFresh}
use Rattle.mtl_monitor.specs.Inner.Quiet.{flag_at}
use Rattle.mtl_monitor.proofs.starting.start.Goals as goal

all_move : (moving : List Bool) → ((k : ℕ) → flag_at moving k ≡ true) → (k : ℕ) → flag_at (moving ++ true ∷ []) k ≡ true
all_move [] move zero = refl
all_move [] move (suc k) = refl
all_move (m ∷ ms) move zero = move zero
all_move (m ∷ ms) move (suc k) = all_move ms (λ j. move (suc j)) k

all_fresh : (nodes : List ProgramNode) (states : List Kept) (state : Kept) (i : ℕ) → length states ≡ i
    → ((k : ℕ) → k < i → IsFresh (node_at nodes k).operator (state_at states k)) → IsFresh (node_at nodes i).operator state
    → (k : ℕ) → k < i + 1 → IsFresh (node_at nodes k).operator (state_at (states ++ state ∷ []) k)
all_fresh nodes states state i fit each here = below_more _ _
    (λ k before. rw (get_or_append_left states (state ∷ []) Plain k (omega (arith, fit, before))) (each k before))
    (rw (get_or_push states state Plain i fit) here)

pub loop-node-preserved : goal.loop-node-preserved
loop-node-preserved c = record {
  states_fit = rw c.in_ok-pushed.ensures (omega (arith, length_push c.loop-node.states.items c.in_ok-state.state, c.loop-node.invariant.states_fit));
  values_fit = search rules;
  moving_fit = rw c.in_ok-pushed-2.ensures (omega (arith, length_push c.loop-node.moving.items true, c.loop-node.invariant.moving_fit));
  move = rw c.in_ok-pushed-2.ensures (all_move c.loop-node.moving.items c.loop-node.invariant.move);
  each = rw c.in_ok-pushed.ensures
      (all_fresh c.args.nodes.now c.loop-node.states.items c.in_ok-state.state c.loop-node.node-index c.loop-node.invariant.states_fit c.loop-node.invariant.each (search rules));
}
