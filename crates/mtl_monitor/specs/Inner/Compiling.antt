-- The nodes of a formula, operands before operators. Equal nodes stand once.
use Rattle.std.specs.Prelude.{ℕ, ◌≡◌, ◌+◌, ◌-◌, Bool, false, ◌==◌, ◌&&◌, if◌then◌else◌, max, List, [], ◌∷◌, ◌++◌, length, Option, Some, None, position}
use Rattle.mtl_formulas.specs.declared.atom.Atom.{Atom}
use Rattle.mtl_formulas.specs.contracts.atom.AtomPartialEq.TheImpl as by_atoms
use Rattle.mtl_formulas.specs.contracts.formula.PairKindPartialEq.TheImpl as by_pairs
use Rattle.mtl_formulas.specs.contracts.formula.SpanKindPartialEq.TheImpl as by_spans
use Rattle.mtl_formulas.specs.declared.formula.PairKind.{PairKind}
use Rattle.mtl_formulas.specs.declared.formula.SpanKind.{SpanKind}
use Rattle.mtl_formulas.specs.declared.formula.SpanKind.TheVariants.{F, G, O, H}
use Rattle.mtl_formulas.specs.declared.formula.LinkKind.{LinkKind}
use Rattle.mtl_formulas.specs.declared.formula.LinkKind.TheVariants.{U, S}
use Rattle.mtl_formulas.specs.FormulaTree.{FormulaTree, leaf, negation, pair, span, link}
use Rattle.mtl_monitor.specs.declared.building.Operand.{Operand}
use Rattle.mtl_monitor.specs.declared.node.Operator.{Operator}
use Rattle.mtl_monitor.specs.declared.node.Operator.TheVariants as op
use Rattle.mtl_monitor.specs.declared.node.ProgramNode.{ProgramNode}

-- by their own comparisons
abbrev pub same_atom : Atom → Atom → Bool
same_atom a b = by_atoms.ghosts.eq a b

abbrev pub same_pair : PairKind → PairKind → Bool
same_pair kind other = by_pairs.ghosts.eq kind other

abbrev pub same_span : SpanKind → SpanKind → Bool
same_span kind other = by_spans.ghosts.eq kind other

abbrev pub same_operator : Operator → Operator → Bool
same_operator (op.Atom a) (op.Atom b) = same_atom a b
same_operator (op.Not a) (op.Not b) = a == b
same_operator (op.Pair kind a b) (op.Pair other c d) = same_pair kind other && ((a == c) && (b == d))
same_operator (op.Late cells from a) (op.Late others start b) = (cells == others) && ((from == start) && (a == b))
same_operator (op.Window kind width from a) (op.Window other breadth start b) =
    same_span kind other && ((width == breadth) && ((from == start) && (a == b)))
same_operator (op.Since width lower from a b) (op.Since breadth least start c d) =
    ((width == breadth) && (lower == least)) && ((from == start) && ((a == c) && (b == d)))
same_operator (op.Until from full lower a behind b) (op.Until start whole least c beyond d) =
    ((from == start) && ((full == whole) && (lower == least))) && ((a == c) && ((behind == beyond) && (b == d)))
same_operator _ _ = false

abbrev pub same_node : ProgramNode → ProgramNode → Bool
same_node node other = (node.late == other.late) && same_operator node.operator other.operator

-- nodes, and the one of them that computes a formula
pub record Compiled : Type 0 where
  pub nodes : List ProgramNode
  pub operand : Operand

abbrev pub operand_at : ℕ → ℕ → Operand
operand_at index late = record { index = index; late = late }

abbrev pub put_at : List ProgramNode → ProgramNode → Option ℕ → Compiled
put_at nodes node (Some index) = record { nodes = nodes; operand = operand_at index node.late }
put_at nodes node None = record { nodes = nodes ++ node ∷ []; operand = operand_at (length nodes) node.late }

-- with a node, which is put at the end if there is none like it
abbrev pub put_of : List ProgramNode → Operator → ℕ → Compiled
put_of nodes operator late =
    let node : ProgramNode = record { operator = operator; late = late } in
    put_at nodes node (position (λ other. same_node other node) nodes)

-- the operand, so many rows later
abbrev pub delayed_of : List ProgramNode → Operand → ℕ → Compiled
delayed_of nodes a by =
    if by == 0 then record { nodes = nodes; operand = a }
    else put_of nodes (op.Late by a.late a.index) (a.late + by)

abbrev pub negated_of : Compiled → Compiled
negated_of c = put_of c.nodes (op.Not c.operand.index) c.operand.late

-- two operands that are equally late, under an operator
abbrev pub pair_over : ℕ → PairKind → ℕ → Compiled → Compiled
pair_over late kind a y = put_of y.nodes (op.Pair kind a y.operand.index) late

abbrev pub pair_after : ℕ → PairKind → Operand → Compiled → Compiled
pair_after late kind b x = pair_over late kind x.operand.index (delayed_of x.nodes b (late - b.late))

abbrev pub pair_of : List ProgramNode → PairKind → Operand → Operand → Compiled
pair_of nodes kind a b = pair_after (max a.late b.late) kind b (delayed_of nodes a (max a.late b.late - a.late))

-- a window ahead, and one behind
abbrev pub ahead_of : Compiled → SpanKind → ℕ → ℕ → Compiled
ahead_of c kind l u = put_of c.nodes (op.Window kind ((u - l) + 1) c.operand.late c.operand.index) (c.operand.late + u)

abbrev pub behind_at : ℕ → SpanKind → ℕ → Compiled → Compiled
behind_at late kind width x = put_of x.nodes (op.Window kind width x.operand.late x.operand.index) late

abbrev pub behind_of : Compiled → SpanKind → ℕ → ℕ → Compiled
behind_of c kind l u = behind_at c.operand.late kind ((u - l) + 1) (delayed_of c.nodes c.operand l)

abbrev pub span_of : Compiled → SpanKind → ℕ → ℕ → Compiled
span_of c F l u = ahead_of c F l u
span_of c G l u = ahead_of c G l u
span_of c O l u = behind_of c O l u
span_of c H l u = behind_of c H l u

abbrev pub since_over : ℕ → ℕ → ℕ → ℕ → Compiled → Compiled
since_over late l width a y = put_of y.nodes (op.Since width l y.operand.late a y.operand.index) late

abbrev pub since_after : ℕ → ℕ → ℕ → Operand → Compiled → Compiled
since_after late l width b x = since_over late l width x.operand.index (delayed_of x.nodes b ((late - b.late) + l))

abbrev pub since_of : List ProgramNode → ℕ → ℕ → Operand → Operand → Compiled
since_of nodes l u a b = since_after (max a.late b.late) l ((u - l) + 1) b (delayed_of nodes a (max a.late b.late - a.late))

-- the first operand again, later by the window's width, if there are positions before the window
abbrev pub before_window : ℕ → ℕ → Operand → List ProgramNode → Compiled
before_window l width a nodes = delayed_of nodes a (if l == 0 then 0 else width)

abbrev pub until_over : ℕ → ℕ → ℕ → ℕ → ℕ → ℕ → Compiled → Compiled
until_over late l u width a b z = put_of z.nodes (op.Until late (late + width) l a z.operand.index b) (late + u)

abbrev pub until_before : ℕ → ℕ → ℕ → ℕ → Operand → Compiled → Compiled
until_before late l u width a y = until_over late l u width a.index y.operand.index (before_window l width a y.nodes)

abbrev pub until_after : ℕ → ℕ → ℕ → ℕ → Operand → Compiled → Compiled
until_after late l u width b x = until_before late l u width x.operand (delayed_of x.nodes b (late - b.late))

abbrev pub until_of : List ProgramNode → ℕ → ℕ → Operand → Operand → Compiled
until_of nodes l u a b = until_after (max a.late b.late) l u ((u - l) + 1) b (delayed_of nodes a (max a.late b.late - a.late))

abbrev pub link_of : LinkKind → List ProgramNode → ℕ → ℕ → Operand → Operand → Compiled
link_of S nodes l u a b = since_of nodes l u a b
link_of U nodes l u a b = until_of nodes l u a b

-- the nodes of a formula, put after others
abbrev pub compiled : List ProgramNode → FormulaTree → Compiled
compiled nodes (leaf a) = put_of nodes (op.Atom a) 0
compiled nodes (negation t) = negated_of (compiled nodes t)
compiled nodes (pair kind s t) =
    let x = compiled nodes s in let y = compiled x.nodes t in pair_of y.nodes kind x.operand y.operand
compiled nodes (span kind l u t) = span_of (compiled nodes t) kind l u
compiled nodes (link kind l u s t) =
    let x = compiled nodes s in let y = compiled x.nodes t in link_of kind y.nodes l u x.operand y.operand

-- The nodes and the operand are these.
abbrev pub Makes : List ProgramNode → Operand → Compiled → Type 0
Makes nodes operand c = (nodes ≡ c.nodes) × (operand ≡ c.operand)
