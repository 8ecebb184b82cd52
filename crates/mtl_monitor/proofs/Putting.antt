-- What stays where nodes are put after others.
use Rattle.std.proofs.Common.{◌≡◌, ℕ, ◌+◌, ◌<◌, refl, ap, ap₂, sym, ◌∙◌, arith, List, [], ◌∷◌, ◌++◌, length, below_more}
use Rattle.std.proofs.lemmas.List.{length_push, get_or_push, get_or_append_left}
use Rattle.mtl_formulas.specs.declared.atom.Atom.TheVariants.{Always}
use Rattle.mtl_formulas.specs.FormulaTree.{FormulaTree, leaf, negation, pair}
use Rattle.mtl_monitor.specs.declared.node.Operator.{Operator}
use Rattle.mtl_monitor.specs.declared.node.Operator.TheVariants as op
use Rattle.mtl_monitor.specs.declared.node.ProgramNode.{ProgramNode}
use Rattle.mtl_monitor.specs.Inner.Steps.{HasValidAtom}
use Rattle.mtl_monitor.specs.Inner.Standing.{Sound, tree_at, node_at, late_at, no_node, Computes, OperandsBelow, AllValid, AllBelow}
use Rattle.mtl_monitor.proofs.Gaining.{Grown, Gains, IsTreeAt, IsComputed}
use Rattle.mtl_monitor.proofs.Operands.{operands_are}

-- what an operator computes depends on its operands alone
Computes-same : (nodes new : List ProgramNode) (trees grown : List FormulaTree) (o : Operator) (k late : ℕ) (t : FormulaTree) → OperandsBelow k o
    → ((j : ℕ) → j < k → node_at new j ≡ node_at nodes j) → ((j : ℕ) → j < k → tree_at grown j ≡ tree_at trees j)
    → Computes nodes trees o late t → Computes new grown o late t
Computes-same nodes new trees grown o k late t below same_node same_tree is = by_case o below is
  where
    late_same : (j : ℕ) → j < k → late_at new j ≡ late_at nodes j
    late_same j h = ap (λ (n : ProgramNode). n.late) (same_node j h)

    by_case : (o : Operator) → OperandsBelow k o → Computes nodes trees o late t → Computes new grown o late t
    by_case (op.Atom a) below is = is
    by_case (op.Not a) below is = (is.0 ∙ ap negation (sym (same_tree a below)), late_same a below ∙ is.1)
    by_case (op.Pair kind a b) below is =
        (is.0 ∙ ap₂ (pair kind) (sym (same_tree a below.0)) (sym (same_tree b below.1)), late_same a below.0 ∙ is.1, late_same b below.1 ∙ is.2)
    by_case (op.Late cells from a) below is = (is.0 ∙ sym (same_tree a below), late_same a below ∙ is.1, is.2)
    by_case (op.Window kind width from a) below is = (late_same a below ∙ is.0, rw (same_tree a below) is.1)
    by_case (op.Since width lower from a b) below is =
        (late_same a below.0 ∙ is.0, late_same b below.1 ∙ is.1, rw (same_tree a below.0, same_tree b below.1) is.2)
    by_case (op.Until from full lower a behind b) below is = (
      late_same a below.0 ∙ is.0,
      late_same b below.2 ∙ is.1,
      record {
        tree = λ some. same_tree behind below.1 ∙ (is.2.tree some ∙ sym (same_tree a below.0));
        lateness = λ some. late_same behind below.1 ∙ is.2.lateness some;
      },
      rw (same_tree a below.0, same_tree b below.2) is.3,
    )

module _ (old : List ProgramNode) (node : ProgramNode) where
  kept_node : (j : ℕ) → j < length old → node_at (old ++ node ∷ []) j ≡ node_at old j
  kept_node j h = get_or_append_left old (node ∷ []) no_node j h

  last_node : node_at (old ++ node ∷ []) (length old) ≡ node
  last_node = get_or_push old node no_node (length old) refl

  kept_late : (j : ℕ) → j < length old → late_at (old ++ node ∷ []) j ≡ late_at old j
  kept_late j h = ap (λ (n : ProgramNode). n.late) (kept_node j h)

  last_late : late_at (old ++ node ∷ []) (length old) ≡ node.late
  last_late = ap (λ (n : ProgramNode). n.late) last_node

  one_more : length (old ++ node ∷ []) ≡ length old + 1
  one_more = length_push old node

  valid_more : HasValidAtom node.operator → AllValid old → AllValid (old ++ node ∷ [])
  valid_more h all k inside = by_more k (omega (arith, one_more))
    where
      by_more : (k : ℕ) → k < length old + 1 → HasValidAtom (node_at (old ++ node ∷ []) k).operator
      by_more = below_more _ _ (λ j before. rw (kept_node j before) (all j before)) (rw last_node h)

  below_more_nodes : OperandsBelow (length old) node.operator → AllBelow old → AllBelow (old ++ node ∷ [])
  below_more_nodes h all k inside = by_more k (omega (arith, one_more))
    where
      by_more : (k : ℕ) → k < length old + 1 → OperandsBelow k (node_at (old ++ node ∷ []) k).operator
      by_more = below_more _ _ (λ j before. rw (kept_node j before) (all j before)) (rw last_node h)

  module _ (trees : List FormulaTree) (t : FormulaTree) (s : Sound old trees) (below : OperandsBelow (length old) node.operator)
      (computes : Computes old trees node.operator node.late t) where
    kept_tree : (j : ℕ) → j < length old → tree_at (trees ++ t ∷ []) j ≡ tree_at trees j
    kept_tree j h = get_or_append_left trees (t ∷ []) (leaf Always) j (omega (arith, s.size))

    last_tree : tree_at (trees ++ t ∷ []) (length old) ≡ t
    last_tree = get_or_push trees t (leaf Always) (length old) s.size

    each_computes : (k : ℕ) → k < length old + 1
        → Computes (old ++ node ∷ []) (trees ++ t ∷ []) (node_at (old ++ node ∷ []) k).operator (late_at (old ++ node ∷ []) k) (tree_at (trees ++ t ∷ []) k)
    each_computes = below_more _ _ (λ j before.
        rw (kept_node j before, kept_late j before, kept_tree j before)
        (Computes-same old _ trees _ (node_at old j).operator (length old) (late_at old j) (tree_at trees j)
        (operands_are (λ a. a < j) (λ a. a < length old) (λ a lower. omega arith) (node_at old j).operator (s.program.below j before)) kept_node kept_tree (s.program.computes j before)))
        (rw (last_node, last_late, last_tree) (Computes-same old _ trees _ node.operator (length old) node.late t below kept_node kept_tree computes))

    each_below : (k : ℕ) → k < length old + 1 → OperandsBelow k (node_at (old ++ node ∷ []) k).operator
    each_below = below_more _ _ (λ j before. rw (kept_node j before) (s.program.below j before)) (rw last_node below)

    Grown-put : Grown old (old ++ node ∷ []) trees (length old) t
    Grown-put =
        record {
          grown = trees ++ t ∷ [];
          sound =
              record {
                program = record { computes = λ k h. each_computes k (omega (arith, one_more)); below = λ k h. each_below k (omega (arith, one_more)) };
                size = omega (arith, length_push trees t, one_more, s.size);
              };
          same = kept_tree;
          tree = last_tree;
        }

  pub Gains-appended : HasValidAtom node.operator → OperandsBelow (length old) node.operator
      → Gains old (old ++ node ∷ []) (length old) node.late (IsComputed old node.operator node.late)
  Gains-appended valid below =
      record {
        longer = omega (arith, one_more);
        same = kept_node;
        inside = omega (arith, one_more);
        lateness = last_late;
        valid = valid_more valid;
        below = below_more_nodes below;
        trees = λ trees s t computes. Grown-put trees t s below computes;
      }

-- an operand as it is
pub Gains-same : (nodes : List ProgramNode) (a late : ℕ) → a < length nodes → late_at nodes a ≡ late → Gains nodes nodes a late (IsTreeAt a)
Gains-same nodes a late inside is =
    record {
      longer = omega arith;
      same = λ j h. refl;
      inside = inside;
      lateness = is;
      valid = λ h. h;
      below = λ h. h;
      trees = λ trees s t meant. record { grown = trees; sound = s; same = λ j h. refl; tree = sym meant };
    }

-- the same node, where less is meant
pub Gains-less : (old new : List ProgramNode) (k late : ℕ) (P Q : List FormulaTree → FormulaTree → Type 0)
    → ((trees : List FormulaTree) → Sound old trees → (t : FormulaTree) → P trees t → Q trees t) → Gains old new k late Q → Gains old new k late P
Gains-less old new k late P Q less g =
    record {
      longer = g.longer;
      same = g.same;
      inside = g.inside;
      lateness = g.lateness;
      valid = g.valid;
      below = g.below;
      trees = λ trees s t meant. g.trees trees s t (less trees s t meant);
    }
