-- The nodes of atoms, which are read at each row.
use Rattle.std.specs.Prelude.{◌≡◌, ◌≢◌, ℕ, ◌<◌, Bool, true, false, List, [], ◌∷◌, ◌++◌, length, get_or, ◌⊎◌, is_none, IfSome}
use Rattle.std.specs.Coded.{le_prop}
use Rattle.std.proofs.Math.Bool.{Bool-set}
use Rattle.mtl_formulas.specs.declared.atom.Atom.{Atom}
use Rattle.mtl_formulas.specs.declared.atom.Atom.TheVariants.{Always}
use Rattle.mtl_formulas.specs.declared.verdict.Verdict.{Verdict}
use Rattle.mtl_formulas.specs.declared.glance.Glance.{Glance}
use Rattle.mtl_formulas.specs.declared.glance.Glance.TheVariants.{Nothing, Apart}
use Rattle.mtl_formulas.specs.FormulaMeasures.{IsValidAtom}
use Rattle.mtl_formulas.specs.Glances.{told_by}
use Rattle.mtl_monitor.specs.declared.node.AtomNode.{AtomNode}
use Rattle.mtl_monitor.specs.declared.node.Operator.{Operator}
use Rattle.mtl_monitor.specs.declared.node.Operator.TheVariants as op
use Rattle.mtl_monitor.specs.declared.node.ProgramNode.{ProgramNode}
use Rattle.mtl_monitor.specs.Inner.Steps.{value_at}
use Rattle.mtl_monitor.specs.Inner.Marks.{OnlyMarked}
use Rattle.mtl_monitor.specs.Inner.Standing.{node_at, IsValidAtom-prop}

abbrev pub atom_node : ℕ → Atom → AtomNode
atom_node index atom = record { index = index; atom = atom }

abbrev pub atom_at : List AtomNode → ℕ → AtomNode
atom_at atoms j = get_or atoms j (atom_node 0 Always)

-- whether a glance leaves the answer to an atom open
abbrev pub is_untold : Glance → Atom → Bool
is_untold glance a = is_none (told_by glance a)

-- A node of an atom whose answer the glance leaves open is in the list.
abbrev pub IsListed : Glance → List AtomNode → Operator → ℕ → Type 0
IsListed glance atoms (op.Atom a) k = is_untold glance a ≡ true → (j : ℕ) × (j < length atoms × (atom_at atoms j ≡ atom_node k a))
IsListed glance atoms _ k = Unit {0}

abbrev pub AreListed : Glance → List ProgramNode → List AtomNode → Type 0
AreListed glance nodes atoms = (k : ℕ) → k < length nodes → IsListed glance atoms (node_at nodes k).operator k

-- All atoms are in the one list, and those to be asked where the vessels are apart in the other.
pub record AreAllListed (nodes : List ProgramNode) (atoms asked : List AtomNode) : Type 0 where
  pub all : AreListed Nothing nodes atoms
  pub apart : AreListed Apart nodes asked

abbrev pub ListsIf : Bool → List AtomNode → List AtomNode → AtomNode → Type 0
ListsIf true old new node = new ≡ old ++ node ∷ []
ListsIf false old new node = new ≡ old

-- A node is added to the list, if it is that of an atom whose answer the glance leaves open.
abbrev pub Lists : Glance → List AtomNode → List AtomNode → Operator → ℕ → Type 0
Lists glance old new (op.Atom a) index = ListsIf (is_untold glance a) old new (atom_node index a)
Lists glance old new _ index = new ≡ old

abbrev pub IsAtom : Operator → Type 0
IsAtom (op.Atom a) = Unit {0}
IsAtom _ = ⊥

-- The glance leaves the answer to the node's atom open.
abbrev pub IsUntold : Glance → Operator → Type 0
IsUntold glance (op.Atom a) = is_untold glance a ≡ true
IsUntold glance _ = ⊥

-- A valid atom of a node among the first n, after all that stand before it in the list.
abbrev pub IsPlaced : List AtomNode → ℕ → ℕ → Type 0
IsPlaced atoms n j =
    ((atom_at atoms j).index < n) × IsValidAtom (atom_at atoms j).atom × ((i : ℕ) → i < j → (atom_at atoms i).index < (atom_at atoms j).index)

abbrev pub ArePlaced : List AtomNode → ℕ → Type 0
ArePlaced atoms n = (j : ℕ) → j < length atoms → IsPlaced atoms n j

-- The atoms are those of nodes among the first n, and the glance leaves their answers open.
abbrev pub AreReadable : Glance → List ProgramNode → ℕ → List AtomNode → Type 0
AreReadable glance nodes n atoms = (j : ℕ) → j < length atoms → IsPlaced atoms n j × IsUntold glance (node_at nodes (atom_at atoms j).index).operator

IsUntold-prop : (glance : Glance) (o : Operator) → IsProp (IsUntold glance o)
IsUntold-prop glance (op.Atom a) = hlevel Bool-set
IsUntold-prop glance (op.Not a) = hlevel
IsUntold-prop glance (op.Pair kind a b) = hlevel
IsUntold-prop glance (op.Late cells from a) = hlevel
IsUntold-prop glance (op.Window kind width from a) = hlevel
IsUntold-prop glance (op.Since width lower from a b) = hlevel
IsUntold-prop glance (op.Until from full lower a behind b) = hlevel

pub AreReadable-prop : (glance : Glance) (nodes : List ProgramNode) (n : ℕ) (atoms : List AtomNode) → IsProp (AreReadable glance nodes n atoms)
AreReadable-prop glance nodes n atoms = hlevel (le_prop, IsValidAtom-prop, IsUntold-prop)

-- The value of a node's atom is what the glance gives.
abbrev pub IsKnown : Glance → Operator → Verdict → Type 0
IsKnown glance (op.Atom a) v = IfSome (told_by glance a) (λ told. v ≡ told)
IsKnown glance _ v = Unit {0}

abbrev pub AreKnown : Glance → List ProgramNode → List Verdict → Type 0
AreKnown glance nodes values = (k : ℕ) → k < length nodes → IsKnown glance (node_at nodes k).operator (value_at values k)

-- These of the atoms are to be read, after a row and at one, if a glance gives this: all, or those that it leaves open at both.
pub record AreToBeRead (nodes : List ProgramNode) (all asked : List AtomNode) (before now : Glance) (atoms : List AtomNode) : Type 0 where
  pub told : Glance
  pub of_both : (told ≡ Nothing) ⊎ ((told ≡ before) × (told ≡ now))
  pub readable : AreReadable told nodes (length nodes) atoms
  pub listed : AreAllListed nodes all asked → AreListed told nodes atoms

-- The row answers each of the atoms with its node's value.
abbrev pub AreRead : List AtomNode → List Verdict → (Atom → Verdict) → Type 0
AreRead atoms values row = (j : ℕ) → j < length atoms → row (atom_at atoms j).atom ≡ value_at values (atom_at atoms j).index

-- What the reading of a row's atoms leaves: what has changed is marked, and is the value of an atom's node.
pub record ReadsAtoms (nodes : List ProgramNode) (before values : List Verdict) (marks : ℕ) : Type 0 where
  pub changed : OnlyMarked before values marks
  pub others : (k : ℕ) → k < length nodes → IsAtom (node_at nodes k).operator ⊎ (value_at values k ≡ value_at before k)

-- The first k of the atoms were read at a row, over the values that the nodes had before.
pub record HaveRead (atoms : List AtomNode) (before values : List Verdict) (row : Atom → Verdict) (marks k : ℕ) : Type 0 where
  pub fit : length values ≡ length before
  pub read : (j : ℕ) → j < k → row (atom_at atoms j).atom ≡ value_at values (atom_at atoms j).index
  pub changed : OnlyMarked before values marks
  pub others : (i : ℕ) → ((j : ℕ) → j < length atoms → (atom_at atoms j).index ≢ i) → value_at values i ≡ value_at before i
