-- Nodes that a further equal row would leave as they are, and so need not be passed.
use Rattle.std.specs.Prelude.{◌≡◌, ◌≢◌, ℕ, ◌+◌, ◌-◌, ◌<◌, ◌≤◌, nat_lt, Bool, true, false, List, length, get_or, set}
use Rattle.mtl_formulas.specs.declared.atom.Atom.{Atom}
use Rattle.mtl_formulas.specs.declared.verdict.Verdict.{Verdict}
use Rattle.mtl_monitor.specs.declared.node.Operator.{Operator}
use Rattle.mtl_monitor.specs.declared.node.Operator.TheVariants as op
use Rattle.mtl_monitor.specs.declared.node.ProgramNode.{ProgramNode}
use Rattle.mtl_monitor.specs.declared.node.Kept.{Kept}
use Rattle.mtl_monitor.specs.Inner.Steps.{value_at, given, kept}
use Rattle.mtl_formulas.specs.FormulaTree.{FormulaTree}
use Rattle.mtl_formulas.specs.Traces.{Trace}
use Rattle.mtl_monitor.specs.Inner.Standing.{node_at, late_at, state_at, IsProgram, IsRow, EndsAt, KeepAll, Midway, AllOperands, AllBelow}
use Rattle.mtl_monitor.specs.Inner.Copying.{HaveShapes}
use Rattle.mtl_monitor.specs.Inner.Marks.{IsUnmarked, OnlyMarked}
use Rattle.mtl_monitor.specs.Inner.Reading.{ReadsAtoms}

-- the row from which on a node's operands give values; what an U keeps moves at each row
abbrev pub IsAwake : Operator → ℕ → Type 0
IsAwake (op.Late cells from a) i = from ≤ i
IsAwake (op.Window kind width from a) i = from ≤ i
IsAwake (op.Since width lower from a b) i = from ≤ i
IsAwake (op.Until from full lower a behind b) i = ⊥
IsAwake _ i = Unit {0}

-- The row answers a node's atom with this value.
abbrev pub Answers : Operator → (Atom → Verdict) → Verdict → Type 0
Answers (op.Atom a) row v = row a ≡ v
Answers _ row v = Unit {0}

-- At row i the node gives this value again and keeps what it kept, if the row answers its atom so. Where its position is the first
-- beyond the end, its value may turn to Open.
pub record IsQuiet (o : Operator) (s : Kept) (late : ℕ) (values : List Verdict) (v : Verdict) (i end : ℕ) : Type 0 where
  pub awake : IsAwake o i
  pub ready : late ≤ i
  pub gives : i ≢ end + late → (row : Atom → Verdict) → Answers o row v → given o s late values row i end ≡ v
  pub keeps : kept o s late values i ≡ s

abbrev pub flag_at : List Bool → ℕ → Bool
flag_at moving k = get_or moving k true

-- The nodes that are not said to move are quiet.
abbrev pub AreQuiet : List ProgramNode → List Kept → List Verdict → List Bool → ℕ → ℕ → Type 0
AreQuiet nodes states values moving i end = (k : ℕ) → k < length nodes → flag_at moving k ≡ false
    → IsQuiet (node_at nodes k).operator (state_at states k) (late_at nodes k) values (value_at values k) i end

-- From row i to the next a node's position stays on its side of the end, unless it is then the first beyond it.
abbrev pub GoesOn : ℕ → ℕ → ℕ → Type 0
GoesOn i end next = (late : ℕ) → late ≤ i → i + 1 ≢ next + late → nat_lt ((i + 1) - late) next ≡ nat_lt (i - late) end

-- The row answers each atom as the row before.
abbrev pub AreAnswered : List ProgramNode → List Verdict → (Atom → Verdict) → Type 0
AreAnswered nodes values row = (k : ℕ) → k < length nodes → Answers (node_at nodes k).operator row (value_at values k)

-- what the pass of row i through node k leaves
pub record Moves (nodes : List ProgramNode) (states states' : List Kept) (values values' : List Verdict) (moving moving' : List Bool) (i end k : ℕ) (changed : Bool) : Type 0 where
  pub keeps : Kept
  pub value : Verdict
  pub flag : Bool
  pub states_are : states' ≡ set states k keeps
  pub values_are : values' ≡ set values k value
  pub moving_are : moving' ≡ set moving k flag
  pub kept_is : keeps ≡ kept (node_at nodes k).operator (state_at states k) (late_at nodes k) values i
  pub value_is : (row : Atom → Verdict) → Answers (node_at nodes k).operator row (value_at values k)
      → value ≡ given (node_at nodes k).operator (state_at states k) (late_at nodes k) values row i end
  pub rests : flag ≡ false → IsAwake (node_at nodes k).operator i × (late_at nodes k ≤ i) × (keeps ≡ state_at states k)
  pub same : changed ≡ false → value ≡ value_at values k

-- The node at index k may be left as it is.
pub record CanStay (nodes : List ProgramNode) (moving : List Bool) (i end marks k : ℕ) : Type 0 where
  pub rests : flag_at moving k ≡ false
  pub uncrossed : i ≢ end + late_at nodes k
  pub unmarked : AllOperands (IsUnmarked marks) (node_at nodes k).operator

-- From one index on to another all nodes may be left.
pub record IsReached (nodes : List ProgramNode) (moving : List Bool) (i end marks start k : ℕ) : Type 0 where
  pub after : start ≤ k
  pub inside : k ≤ length nodes
  pub stay : (j : ℕ) → j < k → start ≤ j → CanStay nodes moving i end marks j

module _ (nodes : List ProgramNode) (states : List Kept) (before values : List Verdict) (moving : List Bool) (i end marks : ℕ) where
  -- What was quiet may be left, where no operand has changed since.
  pub record MayRest : Type 0 where
    pub quiet : AreQuiet nodes states before moving i end
    pub reads : ReadsAtoms nodes before values marks

  -- Row i has passed the nodes before index k, or left them where they are quiet.
  pub record Walk (states' : List Kept) (values' : List Verdict) (moving' : List Bool) (marks' : ℕ) (still : Bool) (k : ℕ) : Type 0 where
    pub states_fit : length states' ≡ length nodes
    pub values_fit : length values' ≡ length nodes
    pub moving_fit : length moving' ≡ length nodes
    pub states_ahead : (j : ℕ) → k ≤ j → state_at states' j ≡ state_at states j
    pub values_ahead : (j : ℕ) → k ≤ j → value_at values' j ≡ value_at values j
    pub moving_ahead : (j : ℕ) → k ≤ j → flag_at moving' j ≡ flag_at moving j
    pub changed : OnlyMarked before values marks → OnlyMarked before values' marks'
    pub answered : (row : Atom → Verdict) → AreAnswered nodes values row → AreAnswered nodes values' row
    pub midway : (trace : Trace) (trees : List FormulaTree) (row : Atom → Verdict) → IsProgram nodes trees → IsRow trace row i → EndsAt trace i end
        → MayRest → AreAnswered nodes values row → KeepAll trace trees nodes states i → Midway trace trees nodes states' values' i k
    pub quiet : (next : ℕ) → GoesOn i end next → MayRest → AllBelow nodes
        → (j : ℕ) → j < k → flag_at moving' j ≡ false
        → IsQuiet (node_at nodes j).operator (state_at states' j) (late_at nodes j) values' (value_at values' j) (i + 1) next
    pub shapes : HaveShapes nodes states → HaveShapes nodes states'
    pub all_still : still ≡ true → (j : ℕ) → j < k → flag_at moving' j ≡ false

  -- A whole walk.
  pub record Walked (states' : List Kept) (values' : List Verdict) (moving' : List Bool) (still : Bool) : Type 0 where
    pub marks' : ℕ
    pub walk : Walk states' values' moving' marks' still (length nodes)
