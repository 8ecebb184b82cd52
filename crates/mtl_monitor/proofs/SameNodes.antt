-- Nodes that are found to be the same are equal, and compute the same.
use Rattle.std.proofs.Common.{◌≡◌, ℕ, ◌+◌, ◌-◌, ◌≤◌, refl, ap, ap₂, sym, ◌∙◌, arith, true, List}
use Rattle.std.proofs.lemmas.Bool.{and_parts, eqb-true, false≢true}
use Rattle.std.specs.Prelude.{◌==◌, ◌&&◌}
use Rattle.mtl_formulas.specs.declared.atom.Atom.{Atom}
use Rattle.mtl_formulas.specs.declared.atom.Atom.TheVariants as atom
use Rattle.mtl_formulas.specs.declared.formula.PairKind.{PairKind}
use Rattle.mtl_formulas.specs.declared.formula.PairKind.TheVariants.{And, Or, Implies}
use Rattle.mtl_formulas.specs.declared.formula.SpanKind.{SpanKind}
use Rattle.mtl_formulas.specs.declared.formula.SpanKind.TheVariants.{F, G, O, H}
use Rattle.mtl_formulas.specs.declared.formula.LinkKind.TheVariants.{U, S}
use Rattle.mtl_formulas.specs.FormulaTree.{FormulaTree, span, link}
use Rattle.mtl_monitor.specs.declared.node.Operator.{Operator}
use Rattle.mtl_monitor.specs.declared.node.Operator.TheVariants as op
use Rattle.mtl_monitor.specs.declared.node.ProgramNode.{ProgramNode}
use Rattle.mtl_monitor.specs.Inner.Standing.{tree_at, IsTimed, Computes}
use Rattle.mtl_monitor.specs.Inner.Compiling.{same_atom, same_pair, same_span, same_operator, same_node}

same_atom-equal : (a b : Atom) → same_atom a b ≡ true → a ≡ b
same_atom-equal atom.Always atom.Always h = refl
same_atom-equal atom.Never atom.Never h = refl
same_atom-equal atom.Seen atom.Seen h = refl
same_atom-equal atom.Risk atom.Risk h = refl
same_atom-equal atom.Engaged atom.Engaged h = refl
same_atom-equal atom.Begin atom.Begin h = refl
same_atom-equal atom.Overtaking atom.Overtaking h = refl
same_atom-equal atom.Overtaken atom.Overtaken h = refl
same_atom-equal atom.HeadOn atom.HeadOn h = refl
same_atom-equal atom.CrossingGives atom.CrossingGives h = refl
same_atom-equal atom.CrossingStands atom.CrossingStands h = refl
same_atom-equal atom.Passing atom.Passing h = refl
same_atom-equal atom.Unclassified atom.Unclassified h = refl
same_atom-equal (atom.Age m) (atom.Age n) h = ap atom.Age (eqb-true m n h)
same_atom-equal atom.Opening atom.Opening h = refl
same_atom-equal (atom.Clear m) (atom.Clear n) h = ap atom.Clear (eqb-true m n h)
same_atom-equal (atom.Close m) (atom.Close n) h = ap atom.Close (eqb-true m n h)
same_atom-equal atom.OtherOnPort atom.OtherOnPort h = refl
same_atom-equal atom.Ahead atom.Ahead h = refl
same_atom-equal atom.Alters atom.Alters h = refl
same_atom-equal atom.Apparent atom.Apparent h = refl
same_atom-equal atom.ToStarboard atom.ToStarboard h = refl
same_atom-equal atom.ToPort atom.ToPort h = refl
same_atom-equal atom.OtherApparent atom.OtherApparent h = refl
same_atom-equal atom.RankGives atom.RankGives h = refl
same_atom-equal atom.RankStands atom.RankStands h = refl
same_atom-equal atom.BothPower atom.BothPower h = refl
same_atom-equal _ _ h = absurd (false≢true h)

same_pair-equal : (k m : PairKind) → same_pair k m ≡ true → k ≡ m
same_pair-equal And And h = refl
same_pair-equal Or Or h = refl
same_pair-equal Implies Implies h = refl
same_pair-equal _ _ h = absurd (false≢true h)

same_span-equal : (k m : SpanKind) → same_span k m ≡ true → k ≡ m
same_span-equal F F h = refl
same_span-equal G G h = refl
same_span-equal O O h = refl
same_span-equal H H h = refl
same_span-equal _ _ h = absurd (false≢true h)

both : (m n j k : ℕ) → ((m == n) && (j == k)) ≡ true → (m ≡ n) × (j ≡ k)
both m n j k h = (eqb-true m n (and_parts (m == n) (j == k) h).0, eqb-true j k (and_parts (m == n) (j == k) h).1)

three : (m n j k a b : ℕ) → ((m == n) && ((j == k) && (a == b))) ≡ true → (m ≡ n) × (j ≡ k) × (a ≡ b)
three m n j k a b h =
    let rest = both j k a b (and_parts (m == n) ((j == k) && (a == b)) h).1 in
    (eqb-true m n (and_parts (m == n) ((j == k) && (a == b)) h).0, rest.0, rest.1)

same_operator-equal : (o p : Operator) → same_operator o p ≡ true → o ≡ p
same_operator-equal (op.Atom a) (op.Atom b) h = ap op.Atom (same_atom-equal a b h)
same_operator-equal (op.Not a) (op.Not b) h = ap op.Not (eqb-true a b h)
same_operator-equal (op.Pair kind a b) (op.Pair other c d) h =
    let kinds_are : kind ≡ other = same_pair-equal kind other (and_parts (same_pair kind other) ((a == c) && (b == d)) h).0 in
    let rest = both a c b d (and_parts (same_pair kind other) ((a == c) && (b == d)) h).1 in
    rw (kinds_are, rest.0, rest.1)
same_operator-equal (op.Late cells from a) (op.Late others start b) h =
    let all = three cells others from start a b h in
    rw (all.0, all.1, all.2)
same_operator-equal (op.Window kind width from a) (op.Window other breadth start b) h =
    let kinds_are : kind ≡ other = same_span-equal kind other (and_parts (same_span kind other) ((width == breadth) && ((from == start) && (a == b))) h).0 in
    let rest = three width breadth from start a b (and_parts (same_span kind other) ((width == breadth) && ((from == start) && (a == b))) h).1 in
    rw (kinds_are, rest.0, rest.1, rest.2)
same_operator-equal (op.Since width lower from a b) (op.Since breadth least start c d) h =
    let front = both width breadth lower least (and_parts ((width == breadth) && (lower == least)) ((from == start) && ((a == c) && (b == d))) h).0 in
    let rest = three from start a c b d (and_parts ((width == breadth) && (lower == least)) ((from == start) && ((a == c) && (b == d))) h).1 in
    rw (front.0, front.1, rest.0, rest.1, rest.2)
same_operator-equal (op.Until from full lower a behind b) (op.Until start whole least c beyond d) h =
    let front = three from start full whole lower least (and_parts ((from == start) && ((full == whole) && (lower == least))) ((a == c) && ((behind == beyond) && (b == d))) h).0 in
    let rest = three a c behind beyond b d (and_parts ((from == start) && ((full == whole) && (lower == least))) ((a == c) && ((behind == beyond) && (b == d))) h).1 in
    rw (front.0, front.1, front.2, rest.0, rest.1, rest.2)
same_operator-equal _ _ h = cc

pub same_node-equal : (node other : ProgramNode) → same_node node other ≡ true → node ≡ other
same_node-equal node other h =
    let late : node.late ≡ other.late = eqb-true _ _ (and_parts (node.late == other.late) (same_operator node.operator other.operator) h).0 in
    let operator : node.operator ≡ other.operator = same_operator-equal _ _ (and_parts (node.late == other.late) (same_operator node.operator other.operator) h).1 in
    ap₂ (λ (o : Operator) (l : ℕ). let n : ProgramNode = record { operator = o; late = l } in n) operator late

window_bounds : (kind : SpanKind) (l u m v operand late width : ℕ) → IsTimed kind l u operand late → IsTimed kind m v operand late
    → l ≤ u → m ≤ v → width ≡ (u + 1) - l → width ≡ (v + 1) - m → (l ≡ m) × (u ≡ v)
window_bounds F l u m v operand late width is was h k wide broad = (omega arith, omega arith)
window_bounds G l u m v operand late width is was h k wide broad = (omega arith, omega arith)
window_bounds O l u m v operand late width is was h k wide broad = (omega arith, omega arith)
window_bounds H l u m v operand late width is was h k wide broad = (omega arith, omega arith)

-- An operator computes one formula.
pub Computes-once : (nodes : List ProgramNode) (trees : List FormulaTree) (o : Operator) (late : ℕ) (s t : FormulaTree)
    → Computes nodes trees o late s → Computes nodes trees o late t → s ≡ t
Computes-once nodes trees (op.Atom a) late s t is was = is.0 ∙ sym was.0
Computes-once nodes trees (op.Not a) late s t is was = is.0 ∙ sym was.0
Computes-once nodes trees (op.Pair kind a b) late s t is was = is.0 ∙ sym was.0
Computes-once nodes trees (op.Late cells from a) late s t is was = is.0 ∙ sym was.0
Computes-once nodes trees (op.Window kind width from a) late s t is was =
    let bounds = window_bounds kind is.1.lower is.1.upper was.1.lower was.1.upper from late width is.1.timed was.1.timed is.1.ordered was.1.ordered is.1.wide was.1.wide in
    is.1.tree ∙ (ap₂ (λ l u. span kind l u (tree_at trees a)) bounds.0 bounds.1 ∙ sym was.1.tree)
Computes-once nodes trees (op.Since width lower from a b) late s t is was =
    let upper : is.2.upper ≡ was.2.upper = omega (arith, is.2.wide, was.2.wide, is.2.ordered, was.2.ordered) in
    is.2.tree ∙ (ap (λ u. link S lower u (tree_at trees a) (tree_at trees b)) upper ∙ sym was.2.tree)
Computes-once nodes trees (op.Until from full lower a behind b) late s t is was =
    let upper : is.3.upper ≡ was.3.upper = omega (arith, is.3.timed, was.3.timed) in
    is.3.tree ∙ (ap (λ u. link U lower u (tree_at trees a) (tree_at trees b)) upper ∙ sym was.3.tree)
