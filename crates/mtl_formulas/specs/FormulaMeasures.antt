-- How deep, how large and how far-reaching a formula is, which formulas are valid, and how long a tick is.
use Rattle.std.specs.Prelude.{ℕ, ◌+◌, ◌*◌, ◌≤◌, max}
use Rattle.mtl_formulas.specs.declared.atom.Atom.{Atom}
use Rattle.mtl_formulas.specs.declared.atom.Atom.TheVariants.{Age, Clear, Close}
use Rattle.mtl_formulas.specs.declared.formula.SpanKind.{SpanKind}
use Rattle.mtl_formulas.specs.declared.formula.SpanKind.TheVariants.{F, G, O, H}
use Rattle.mtl_formulas.specs.declared.formula.LinkKind.{LinkKind}
use Rattle.mtl_formulas.specs.declared.formula.LinkKind.TheVariants.{U, S}
use Rattle.mtl_formulas.specs.FormulaTree.{FormulaTree, leaf, negation, pair, span, link}

-- 1 for an atom, and one more than the deepest operand for any other node
abbrev pub depth_of : FormulaTree → ℕ
depth_of (leaf a) = 1
depth_of (negation t) = depth_of t + 1
depth_of (pair kind s t) = max (depth_of s) (depth_of t) + 1
depth_of (span kind l u t) = depth_of t + 1
depth_of (link kind l u s t) = max (depth_of s) (depth_of t) + 1

-- how many atoms and operators
abbrev pub node_count : FormulaTree → ℕ
node_count (leaf a) = 1
node_count (negation t) = node_count t + 1
node_count (pair kind s t) = node_count s + node_count t + 1
node_count (span kind l u t) = node_count t + 1
node_count (link kind l u s t) = node_count s + node_count t + 1

-- how many positions ahead an operator looks: those of the future look as far as their upper bound
abbrev pub span_reach : SpanKind → ℕ → ℕ
span_reach F u = u
span_reach G u = u
span_reach O u = 0
span_reach H u = 0

abbrev pub link_reach : LinkKind → ℕ → ℕ
link_reach U u = u
link_reach S u = 0

-- how many positions ahead the value at a position can look
abbrev pub reach_of : FormulaTree → ℕ
reach_of (leaf a) = 0
reach_of (negation t) = reach_of t
reach_of (pair kind s t) = max (reach_of s) (reach_of t)
reach_of (span kind l u t) = span_reach kind u + reach_of t
reach_of (link kind l u s t) = link_reach kind u + max (reach_of s) (reach_of t)

-- the upper bounds of the temporal operators, each plus one
abbrev pub window_cells : FormulaTree → ℕ
window_cells (leaf a) = 0
window_cells (negation t) = window_cells t
window_cells (pair kind s t) = window_cells s + window_cells t
window_cells (span kind l u t) = window_cells t + (u + 1)
window_cells (link kind l u s t) = window_cells s + window_cells t + (u + 1)

-- what a formula costs a monitor
abbrev pub weight_of : FormulaTree → ℕ
weight_of t = node_count t * (reach_of t + 1) + window_cells t

-- at most 100,000 metres and at most 7200 seconds
abbrev pub IsValidAtom : Atom → Type 0
IsValidAtom (Age seconds) = seconds ≤ 7200
IsValidAtom (Clear metres) = metres ≤ 100000
IsValidAtom (Close metres) = metres ≤ 100000
IsValidAtom _ = Unit {0}

-- Each atom is valid, and the bounds of each temporal operator are in order and at most 7200 positions.
abbrev pub HasValidParts : FormulaTree → Type 0
HasValidParts (leaf a) = IsValidAtom a
HasValidParts (negation t) = HasValidParts t
HasValidParts (pair kind s t) = HasValidParts s × HasValidParts t
HasValidParts (span kind l u t) = (l ≤ u) × (u ≤ 7200) × HasValidParts t
HasValidParts (link kind l u s t) = (l ≤ u) × (u ≤ 7200) × HasValidParts s × HasValidParts t

pub record IsValid (t : FormulaTree) : Type 0 where
  pub parts : HasValidParts t
  pub depth : depth_of t ≤ 64
  pub nodes : node_count t ≤ 256
  pub reach : reach_of t ≤ 7200

-- the length of a tick, in seconds
abbrev pub IsTick : ℕ → Type 0
IsTick tick = (1 ≤ tick) × (tick ≤ 60)
