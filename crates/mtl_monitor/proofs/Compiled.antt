-- The nodes of a formula compute it.
use Rattle.std.proofs.Common.{◌≡◌, ℕ, zero, suc, ◌+◌, ◌-◌, ◌<◌, ◌≤◌, refl, ap, sym, ◌∙◌, arith, false, List, length, max, Option, Some, None}
use Rattle.std.specs.Prelude.{◌==◌, if◌then◌else◌, position}
use Rattle.std.proofs.lemmas.Bool.Decides.{nat_tests}
use Rattle.std.proofs.lemmas.List.Quantifiers.{position-Some}
use Rattle.mtl_formulas.specs.declared.formula.PairKind.{PairKind}
use Rattle.mtl_formulas.specs.declared.formula.SpanKind.{SpanKind}
use Rattle.mtl_formulas.specs.declared.formula.SpanKind.TheVariants.{F, G, O, H}
use Rattle.mtl_formulas.specs.declared.formula.LinkKind.{LinkKind}
use Rattle.mtl_formulas.specs.declared.formula.LinkKind.TheVariants.{U, S}
use Rattle.mtl_formulas.specs.FormulaTree.{FormulaTree, leaf, negation, pair, span, link}
use Rattle.mtl_formulas.specs.FormulaMeasures.{IsValid, reach_of}
use Rattle.mtl_monitor.specs.declared.building.Operand.{Operand}
use Rattle.mtl_monitor.specs.declared.node.Operator.{Operator}
use Rattle.mtl_monitor.specs.declared.node.Operator.TheVariants as op
use Rattle.mtl_monitor.specs.declared.node.ProgramNode.{ProgramNode}
use Rattle.mtl_monitor.specs.Inner.Steps.{HasValidAtom}
use Rattle.mtl_monitor.specs.Inner.Standing.{tree_at, node_at, late_at, no_node, OperandsBelow, IsTimed}
use Rattle.mtl_monitor.specs.Inner.Compiling.{same_node, Compiled, put_at, put_of, delayed_of, pair_of, ahead_of, behind_of, span_of, since_of, before_window, until_of, link_of, compiled}
use Rattle.mtl_monitor.proofs.SameNodes.{same_node-equal, Computes-once}
use Rattle.mtl_monitor.proofs.Gaining.{Gains, IsTree, IsTreeAt, IsComputed, IsOperand, IsPairAt, IsSpanAt, IsSinceAt, IsUntilAt}
use Rattle.mtl_monitor.proofs.Putting.{Gains-appended, Gains-same, Gains-less}
use Rattle.mtl_monitor.proofs.Joining.{late_kept, Gains-pair, Gains-since, Gains-until, Gains-span, up_to}
use Rattle.mtl_monitor.proofs.Adding.{valid_negated, valid_left, valid_right, valid_inner, valid_first, valid_second, Gains-negation, Gains-over, Gains-two}

module _ (nodes : List ProgramNode) (operator : Operator) (late : ℕ) where
  abbrev node : ProgramNode
  node = record { operator = operator; late = late }

  abbrev found : Option ℕ
  found = position (λ other. same_node other node) nodes

  late_at_put : (p : Option ℕ) → (put_at nodes node p).operand.late ≡ late
  late_at_put (Some k) = refl
  late_at_put None = refl

  pub late-put : (put_of nodes operator late).operand.late ≡ late
  late-put = late_at_put found

  -- a node like it stands already
  Gains-found : (k : ℕ) → found ≡ Some k → Gains nodes nodes k late (IsComputed nodes operator late)
  Gains-found k e =
      let here = position-Some (λ other. same_node other node) nodes k no_node e in
      let is : node_at nodes k ≡ node = same_node-equal (node_at nodes k) node here.1 in
      let operator_is : (node_at nodes k).operator ≡ operator = ap (λ (n : ProgramNode). n.operator) is in
      let late_is : late_at nodes k ≡ late = ap (λ (n : ProgramNode). n.late) is in
      record {
        longer = omega arith;
        same = λ j h. refl;
        inside = here.0;
        lateness = late_is;
        valid = λ h. h;
        below = λ h. h;
        trees = λ trees s t meant.
            record {
              grown = trees;
              sound = s;
              same = λ j h. refl;
              tree = Computes-once nodes trees operator late (tree_at trees k) t (rw (operator_is, late_is) at (s.program.computes k here.0)) meant;
            };
      }

  by_found : HasValidAtom operator → OperandsBelow (length nodes) operator → (p : Option ℕ) → found ≡ p
      → Gains nodes (put_at nodes node p).nodes (put_at nodes node p).operand.index late (IsComputed nodes operator late)
  by_found valid below (Some k) e = Gains-found k e
  by_found valid below None e = Gains-appended nodes node valid below

  pub Gains-put : HasValidAtom operator → OperandsBelow (length nodes) operator
      → Gains nodes (put_of nodes operator late).nodes (put_of nodes operator late).operand.index late (IsComputed nodes operator late)
  Gains-put valid below = by_found valid below found refl

not_zero : (n : ℕ) → 0 < n → (n == 0) ≡ false
not_zero n some = grind (arith, nat_tests)

-- an operand so many rows later
module _ (nodes : List ProgramNode) (a : Operand) where
  pub late-delayed : (by : ℕ) → (delayed_of nodes a by).operand.late ≡ a.late + by
  late-delayed zero = omega arith
  late-delayed (suc by) =
      let some : (suc by == 0) ≡ false = not_zero (suc by) (omega arith) in
      rw some (late-put nodes (op.Late (suc by) a.late a.index) (a.late + suc by))

  pub Gains-delayed : (by : ℕ) → IsOperand nodes a
      → Gains nodes (delayed_of nodes a by).nodes (delayed_of nodes a by).operand.index (a.late + by) (IsTreeAt a.index)
  Gains-delayed zero o = let same : a.late ≡ a.late + 0 = omega arith in Gains-same nodes a.index (a.late + 0) o.inside (o.lateness ∙ same)
  Gains-delayed (suc by) o =
      let some : (suc by == 0) ≡ false = not_zero (suc by) (omega arith) in
      rw some
      (Gains-less nodes _ _ (a.late + suc by) (IsTreeAt a.index) (IsComputed nodes (op.Late (suc by) a.late a.index) (a.late + suc by))
      (λ trees s t meant. (meant, o.lateness, refl)) (Gains-put nodes (op.Late (suc by) a.late a.index) (a.late + suc by) tt o.inside))

-- an operand stays one where nodes are added
kept_operand : (old new : List ProgramNode) (k late : ℕ) (P : List FormulaTree → FormulaTree → Type 0) → Gains old new k late P → (a : Operand) → IsOperand old a → IsOperand new a
kept_operand old new k late P g a o =
    record { inside = omega (arith, o.inside, g.longer); lateness = late_kept old new k late P g a.index o.inside ∙ o.lateness }

module _ (nodes : List ProgramNode) (a b : Operand) (in_a : IsOperand nodes a) (in_b : IsOperand nodes b) where
  abbrev late : ℕ
  late = max a.late b.late

  abbrev x : Compiled
  x = delayed_of nodes a (late - a.late)

  first : a.late + (late - a.late) ≡ late
  first = omega arith

  Gains-x : Gains nodes x.nodes x.operand.index late (IsTreeAt a.index)
  Gains-x = up_to nodes x.nodes x.operand.index a.late (late - a.late) late a.index first (Gains-delayed nodes a (late - a.late) in_a)

  in_x : IsOperand x.nodes b
  in_x = kept_operand nodes x.nodes x.operand.index late (IsTreeAt a.index) Gains-x b in_b

  module _ (by wanted : ℕ) (timed : b.late + by ≡ wanted) where
    abbrev y : Compiled
    y = delayed_of x.nodes b by

    Gains-y : Gains x.nodes y.nodes y.operand.index wanted (IsTreeAt b.index)
    Gains-y = up_to x.nodes y.nodes y.operand.index b.late by wanted b.index timed (Gains-delayed x.nodes b by in_x)

    first_below : x.operand.index < length y.nodes
    first_below = omega (arith, Gains-x.inside, Gains-y.longer)

  second : b.late + (late - b.late) ≡ late
  second = omega arith

  pub Gains-pair_of : (kind : PairKind) → Gains nodes (pair_of nodes kind a b).nodes (pair_of nodes kind a b).operand.index late (IsPairAt kind a.index b.index)
  Gains-pair_of kind =
      let by = late - b.late in
      let last = y by late second in
      Gains-pair nodes x.nodes last.nodes _ a.index b.index x.operand.index last.operand.index _ late in_a.inside in_b.inside kind Gains-x (Gains-y by late second)
      (Gains-put last.nodes (op.Pair kind x.operand.index last.operand.index) late tt (first_below by late second, (Gains-y by late second).inside))

  pub Gains-since_of : (l u : ℕ) → l ≤ u → Gains nodes (since_of nodes l u a b).nodes (since_of nodes l u a b).operand.index late (IsSinceAt l u a.index b.index)
  Gains-since_of l u ordered =
      let by = (late - b.late) + l in
      let wanted : b.late + by ≡ late + l = omega arith in
      let last = y by (late + l) wanted in
      let is : last.operand.late ≡ late + l = late-delayed x.nodes b by ∙ wanted in
      let wide : (u - l) + 1 ≡ (u + 1) - l = omega (arith, ordered) in
      rw (is)
      (Gains-since nodes x.nodes last.nodes _ a.index b.index x.operand.index last.operand.index _ late in_a.inside in_b.inside l u ((u - l) + 1) (late + l) ordered refl wide Gains-x (Gains-y by (late + l) wanted)
      (Gains-put last.nodes (op.Since ((u - l) + 1) l (late + l) x.operand.index last.operand.index) late tt (first_below by (late + l) wanted, (Gains-y by (late + l) wanted).inside)))

  pub Gains-until_of : (l u : ℕ) → l ≤ u → Gains nodes (until_of nodes l u a b).nodes (until_of nodes l u a b).operand.index (late + u) (IsUntilAt l u a.index b.index)
  Gains-until_of l u ordered =
      let by = late - b.late in
      let width = (u - l) + 1 in
      let more = if l == 0 then 0 else width in
      let last = y by late second in
      let is : x.operand.late ≡ late = late-delayed nodes a (late - a.late) ∙ first in
      let in_last : IsOperand last.nodes x.operand =
      record {
        inside = first_below by late second;
        lateness = late_kept x.nodes last.nodes _ late (IsTreeAt b.index) (Gains-y by late second) x.operand.index Gains-x.inside ∙ (Gains-x.lateness ∙ sym is);
      } in
      let z = before_window l width x.operand last.nodes in
      let g : Gains last.nodes z.nodes z.operand.index (x.operand.late + more) (IsTreeAt x.operand.index) = Gains-delayed last.nodes x.operand more in_last in
      let wide : late + width ≡ late + ((u + 1) - l) = omega (arith, ordered) in
      let later : 0 < l → x.operand.late + more ≡ late + width = λ some. rw (is, not_zero l some) refl in
      Gains-until nodes x.nodes last.nodes z.nodes _ a.index b.index x.operand.index last.operand.index z.operand.index _ late (late + width) (late + u) in_a.inside in_b.inside
      l u ordered refl wide (x.operand.late + more) later Gains-x (Gains-y by late second) g
      (Gains-put z.nodes (op.Until late (late + width) l x.operand.index z.operand.index last.operand.index) (late + u) tt
      (omega (arith, in_last.inside, g.longer), g.inside, omega (arith, (Gains-y by late second).inside, g.longer)))

-- one operand under a window
module _ (c : Compiled) (operand : IsOperand c.nodes c.operand) where
  ahead : (kind : SpanKind) (l u : ℕ) → l ≤ u → IsTimed kind l u c.operand.late (c.operand.late + u)
      → Gains c.nodes (ahead_of c kind l u).nodes (ahead_of c kind l u).operand.index (c.operand.late + u) (IsSpanAt kind l u c.operand.index)
  ahead kind l u ordered timed =
      let wide : (u - l) + 1 ≡ (u + 1) - l = omega (arith, ordered) in
      Gains-span c.nodes c.nodes _ c.operand.index c.operand.index _ c.operand.late (c.operand.late + u) kind l u ((u - l) + 1) ordered timed wide
      (Gains-same c.nodes c.operand.index c.operand.late operand.inside operand.lateness)
      (Gains-put c.nodes (op.Window kind ((u - l) + 1) c.operand.late c.operand.index) (c.operand.late + u) tt operand.inside)

  behind : (kind : SpanKind) (l u : ℕ) → l ≤ u → IsTimed kind l u (c.operand.late + l) c.operand.late
      → Gains c.nodes (behind_of c kind l u).nodes (behind_of c kind l u).operand.index c.operand.late (IsSpanAt kind l u c.operand.index)
  behind kind l u ordered timed =
      let x = delayed_of c.nodes c.operand l in
      let g : Gains c.nodes x.nodes x.operand.index (c.operand.late + l) (IsTreeAt c.operand.index) = Gains-delayed c.nodes c.operand l operand in
      let is : x.operand.late ≡ c.operand.late + l = late-delayed c.nodes c.operand l in
      let wide : (u - l) + 1 ≡ (u + 1) - l = omega (arith, ordered) in
      rw is
      (Gains-span c.nodes x.nodes _ c.operand.index x.operand.index _ (c.operand.late + l) c.operand.late kind l u ((u - l) + 1) ordered timed wide g
      (Gains-put x.nodes (op.Window kind ((u - l) + 1) (c.operand.late + l) x.operand.index) c.operand.late tt g.inside))

-- the nodes of a formula, with the one that computes it, which is as late as the formula reaches
pub record IsCompiled (nodes : List ProgramNode) (t : FormulaTree) (c : Compiled) : Type 0 where
  pub gains : Gains nodes c.nodes c.operand.index (reach_of t) (IsTree t)
  pub late : c.operand.late ≡ reach_of t

operand_of : (nodes : List ProgramNode) (t : FormulaTree) (c : Compiled) → IsCompiled nodes t c → IsOperand c.nodes c.operand
operand_of nodes t c is = record { inside = is.gains.inside; lateness = is.gains.lateness ∙ sym is.late }

as_late : (old new : List ProgramNode) (k m n : ℕ) (P : List FormulaTree → FormulaTree → Type 0) → m ≡ n → Gains old new k m P → Gains old new k n P
as_late old new k m n P e g = rw e at g

module _ (nodes : List ProgramNode) (l u : ℕ) (t : FormulaTree) (c : Compiled) (ordered : l ≤ u) (is : IsCompiled nodes t c) where
  ahead_is : (kind : SpanKind) → IsTimed kind l u c.operand.late (c.operand.late + u) → c.operand.late + u ≡ reach_of (span kind l u t)
      → IsCompiled nodes (span kind l u t) (ahead_of c kind l u)
  ahead_is kind timed late_is =
      record {
        gains =
            as_late nodes _ _ (c.operand.late + u) (reach_of (span kind l u t)) (IsTree (span kind l u t)) late_is
            (Gains-over nodes c.nodes _ c.operand.index _ (reach_of t) t kind l u (c.operand.late + u) is.gains (ahead c (operand_of nodes t c is) kind l u ordered timed));
        late = late-put c.nodes (op.Window kind ((u - l) + 1) c.operand.late c.operand.index) (c.operand.late + u) ∙ late_is;
      }

  behind_is : (kind : SpanKind) → IsTimed kind l u (c.operand.late + l) c.operand.late → c.operand.late ≡ reach_of (span kind l u t)
      → IsCompiled nodes (span kind l u t) (behind_of c kind l u)
  behind_is kind timed late_is =
      let x = delayed_of c.nodes c.operand l in
      record {
        gains =
            as_late nodes _ _ c.operand.late (reach_of (span kind l u t)) (IsTree (span kind l u t)) late_is
            (Gains-over nodes c.nodes _ c.operand.index _ (reach_of t) t kind l u c.operand.late is.gains (behind c (operand_of nodes t c is) kind l u ordered timed));
        late = late-put x.nodes (op.Window kind ((u - l) + 1) x.operand.late x.operand.index) c.operand.late ∙ late_is;
      }

  span_is : (kind : SpanKind) → IsCompiled nodes (span kind l u t) (span_of c kind l u)
  span_is F = ahead_is F refl (omega (arith, is.late))
  span_is G = ahead_is G refl (omega (arith, is.late))
  span_is O = behind_is O refl (omega (arith, is.late))
  span_is H = behind_is H refl (omega (arith, is.late))

module _ (nodes : List ProgramNode) (s t : FormulaTree) (x y : Compiled) (is : IsCompiled nodes s x) (and : IsCompiled x.nodes t y) where
  on_left : IsOperand y.nodes x.operand
  on_left = kept_operand x.nodes y.nodes y.operand.index (reach_of t) (IsTree t) and.gains x.operand (operand_of nodes s x is)

  on_right : IsOperand y.nodes y.operand
  on_right = operand_of x.nodes t y and

  both_late : max x.operand.late y.operand.late ≡ max (reach_of s) (reach_of t)
  both_late = rw (is.late, and.late)

  over_both : (make : FormulaTree → FormulaTree → FormulaTree) (c : Compiled) (late : ℕ) → late ≡ reach_of (make s t) → c.operand.late ≡ late
      → Gains y.nodes c.nodes c.operand.index late (λ trees u. u ≡ make (tree_at trees x.operand.index) (tree_at trees y.operand.index))
      → IsCompiled nodes (make s t) c
  over_both make c late late_is operand_is g =
      record {
        gains =
            as_late nodes c.nodes c.operand.index late (reach_of (make s t)) (IsTree (make s t)) late_is
            (Gains-two nodes x.nodes y.nodes c.nodes x.operand.index y.operand.index c.operand.index (reach_of s) (reach_of t) late s t make is.gains and.gains g);
        late = operand_is ∙ late_is;
      }

  pair_is : (kind : PairKind) → IsCompiled nodes (pair kind s t) (pair_of y.nodes kind x.operand y.operand)
  pair_is kind =
      over_both (pair kind) (pair_of y.nodes kind x.operand y.operand) (max x.operand.late y.operand.late) both_late (late-put _ _ (max x.operand.late y.operand.late))
      (Gains-pair_of y.nodes x.operand y.operand on_left on_right kind)

  link_is : (kind : LinkKind) (l u : ℕ) → l ≤ u → IsCompiled nodes (link kind l u s t) (link_of kind y.nodes l u x.operand y.operand)
  link_is S l u ordered =
      let late_is : max x.operand.late y.operand.late ≡ 0 + max (reach_of s) (reach_of t) = omega (arith, both_late) in
      over_both (link S l u) (since_of y.nodes l u x.operand y.operand) (max x.operand.late y.operand.late) late_is (late-put _ _ (max x.operand.late y.operand.late))
      (Gains-since_of y.nodes x.operand y.operand on_left on_right l u ordered)
  link_is U l u ordered =
      let late_is : max x.operand.late y.operand.late + u ≡ u + max (reach_of s) (reach_of t) = omega (arith, both_late) in
      over_both (link U l u) (until_of y.nodes l u x.operand y.operand) (max x.operand.late y.operand.late + u) late_is (late-put _ _ (max x.operand.late y.operand.late + u))
      (Gains-until_of y.nodes x.operand y.operand on_left on_right l u ordered)

pub compiled_is : (t : FormulaTree) (nodes : List ProgramNode) → IsValid t → IsCompiled nodes t (compiled nodes t)
compiled_is (leaf a) nodes valid =
    record {
      gains =
          Gains-less nodes _ _ 0 (IsTree (leaf a)) (IsComputed nodes (op.Atom a) 0) (λ trees s t meant. (meant, refl))
          (Gains-put nodes (op.Atom a) 0 valid.parts tt);
      late = late-put nodes (op.Atom a) 0;
    }
compiled_is (negation t) nodes valid =
    let c = compiled nodes t in
    let is : IsCompiled nodes t c = compiled_is t nodes (valid_negated t valid) in
    record {
      gains =
          as_late nodes _ _ c.operand.late (reach_of t) (IsTree (negation t)) is.late
          (Gains-negation nodes c.nodes _ c.operand.index _ c.operand.late t (as_late nodes c.nodes c.operand.index (reach_of t) c.operand.late (IsTree t) (sym is.late) is.gains)
          (Gains-put c.nodes (op.Not c.operand.index) c.operand.late tt is.gains.inside));
      late = late-put c.nodes (op.Not c.operand.index) c.operand.late ∙ is.late;
    }
compiled_is (pair kind s t) nodes valid =
    let x = compiled nodes s in
    pair_is nodes s t x (compiled x.nodes t) (compiled_is s nodes (valid_left kind s t valid)) (compiled_is t x.nodes (valid_right kind s t valid)) kind
compiled_is (span kind l u t) nodes valid = span_is nodes l u t (compiled nodes t) valid.parts.0 (compiled_is t nodes (valid_inner kind l u t valid)) kind
compiled_is (link kind l u s t) nodes valid =
    let x = compiled nodes s in
    link_is nodes s t x (compiled x.nodes t) (compiled_is s nodes (valid_first kind l u s t valid)) (compiled_is t x.nodes (valid_second kind l u s t valid)) kind l u valid.parts.0
