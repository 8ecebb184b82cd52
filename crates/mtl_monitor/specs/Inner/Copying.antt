-- What nodes keep, taken over without memory.
use Rattle.std.specs.Prelude.{◌≡◌, ◌≢◌, ℕ, ◌-◌, ◌<◌, ◌≤◌, List, length, slice_index}
use Rattle.mtl_monitor.specs.declared.node.Operator.{Operator}
use Rattle.mtl_monitor.specs.declared.node.Operator.TheVariants as op
use Rattle.mtl_monitor.specs.declared.node.ProgramNode.{ProgramNode}
use Rattle.mtl_monitor.specs.declared.node.Kept.{Kept}
use Rattle.mtl_monitor.specs.declared.node.Kept.TheVariants as kinds
use Rattle.mtl_monitor.specs.Inner.Standing.{node_at, state_at}

-- They are of one kind, and their rings have the same room.
abbrev pub HasRoomOf : Kept → Kept → Type 0
HasRoomOf kinds.Plain kinds.Plain = Unit {0}
HasRoomOf (kinds.Ring d) (kinds.Ring e) = d.ring.capacity ≡ e.ring.capacity
HasRoomOf (kinds.Window s) (kinds.Window r) = Unit {0}
HasRoomOf (kinds.Since f h) (kinds.Since g i) = Unit {0}
HasRoomOf (kinds.Until s) (kinds.Until r) = s.window.cells.capacity ≡ r.window.cells.capacity
HasRoomOf _ _ = ⊥

abbrev pub HaveRoomOf : List Kept → List Kept → Type 0
HaveRoomOf states others = (k : ℕ) → k < length others → HasRoomOf (state_at states k) (state_at others k)

-- The nodes keep the same, but for those of these indices from the n-th on.
abbrev pub AgreeBut : List ℕ → ℕ → List Kept → List Kept → Type 0
AgreeBut indices n states others =
    (k : ℕ) → k < length others → ((j : ℕ) → n ≤ j → j < length indices → slice_index indices j ≢ k) → state_at states k ≡ state_at others k

-- The first n of the nodes of these indices have taken over what the others keep.
pub record HaveCopied (indices : List ℕ) (states others : List Kept) (n : ℕ) : Type 0 where
  pub fit : length states ≡ length others
  pub room : HaveRoomOf states others
  pub agree : AgreeBut indices n states others

-- A node of this operator keeps this, with room for all that it reads.
abbrev pub HasShape : Operator → Kept → Type 0
HasShape (op.Late cells from a) (kinds.Ring d) = d.ring.capacity ≡ cells
HasShape (op.Window kind width from a) (kinds.Window s) = Unit {0}
HasShape (op.Since width lower from a b) (kinds.Since hits bars) = Unit {0}
HasShape (op.Until from full lower a behind b) (kinds.Until s) = s.window.cells.capacity ≡ full - from
HasShape (op.Atom a) kinds.Plain = Unit {0}
HasShape (op.Not a) kinds.Plain = Unit {0}
HasShape (op.Pair kind a b) kinds.Plain = Unit {0}
HasShape _ _ = ⊥

pub record HaveShapes (nodes : List ProgramNode) (states : List Kept) : Type 0 where
  pub count : length states ≡ length nodes
  pub each : (k : ℕ) → k < length nodes → HasShape (node_at nodes k).operator (state_at states k)
