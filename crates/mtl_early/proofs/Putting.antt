-- Nodes that are put one behind the other: what fits stays, and what they compute.
use Rattle.std.proofs.Common.{◌≡◌, ℕ, ◌+◌, ◌*◌, ◌<◌, ◌≤◌, refl, ap, ap₂, sym, subst, ◌∙◌, arith, Bool, true, false, List, [], ◌∷◌, ◌++◌, length, below_more}
use Rattle.std.proofs.lemmas.List.{length_push, get_or_push, get_or_append_left}
use Rattle.mtl_formulas.specs.declared.atom.Atom.TheVariants.{Always}
use Rattle.mtl_formulas.specs.declared.formula.PairKind.{PairKind}
use Rattle.mtl_formulas.specs.declared.formula.SpanKind.TheVariants.{F, G, O, H}
use Rattle.mtl_formulas.specs.declared.formula.LinkKind.TheVariants.{U, S}
use Rattle.mtl_formulas.specs.FormulaTree.{FormulaTree, leaf, negation, pair, span, link}
use Rattle.mtl_formulas.specs.FormulaMeasures.{node_count, reach_of}
use Rattle.mtl_monitor.specs.Following.{IsProgramOf, count_of, formula_at}
use Rattle.mtl_early.specs.declared.building.Building.{Building}
use Rattle.mtl_early.specs.declared.sweeper.Sweep.{Sweep}
use Rattle.mtl_early.specs.declared.sweeper.Sweep.TheVariants as op
use Rattle.mtl_early.specs.declared.sweeper.SweepNode.{SweepNode}
use Rattle.mtl_early.specs.Sweepable.{IsSweepable}
use Rattle.mtl_early.specs.Inner.Built.{Adds, Grown, IsBuilt, Puts, last_of}
use Rattle.mtl_early.specs.Inner.Cells.{ahead_kind}
use Rattle.mtl_early.specs.Inner.Nodes.{AllFit, AreLaidOut, Computes, HasFit, cells_of, no_node, node_at, tree_at}

-- What looks no position ahead looks back at nothing that does.
pub sweepable_now : (t : FormulaTree) → reach_of t ≡ 0 → IsSweepable t
sweepable_now (leaf a) now = tt
sweepable_now (negation t) now = sweepable_now t now
sweepable_now (pair kind s t) now = (sweepable_now s (omega (arith, now)), sweepable_now t (omega (arith, now)))
sweepable_now (span F l u t) now = sweepable_now t (omega (arith, now))
sweepable_now (span G l u t) now = sweepable_now t (omega (arith, now))
sweepable_now (span O l u t) now = omega (arith, now)
sweepable_now (span H l u t) now = omega (arith, now)
sweepable_now (link U l u s t) now = (sweepable_now s (omega (arith, now)), sweepable_now t (omega (arith, now)))
sweepable_now (link S l u s t) now = (omega (arith, now), omega (arith, now))

-- A formula has a node.
pub node_some : (t : FormulaTree) → 1 ≤ node_count t
node_some (leaf a) = omega arith
node_some (negation t) = omega arith
node_some (pair kind s t) = omega arith
node_some (span kind l u t) = omega arith
node_some (link kind l u s t) = omega arith

-- What a node computes depends on its operands alone.
Computes-same : (formulas more trees grown : List FormulaTree) (count k : ℕ) (o : Sweep) (t : FormulaTree) → HasFit count k o
    → ((r : ℕ) → r < count → formula_at more r ≡ formula_at formulas r) → ((j : ℕ) → j < k → tree_at grown j ≡ tree_at trees j)
    → Computes formulas trees o t → Computes more grown o t
Computes-same formulas more trees grown count k (op.Now r) t fit same_formula same_tree is = (same_formula r fit ∙ is.0, is.1)
Computes-same formulas more trees grown count k (op.Not a) t fit same_formula same_tree is = is ∙ ap negation (sym (same_tree a fit))
Computes-same formulas more trees grown count k (op.Pair kind a b) t fit same_formula same_tree is =
    is ∙ ap₂ (pair kind) (sym (same_tree a fit.0)) (sym (same_tree b fit.1))
Computes-same formulas more trees grown count k (op.Ahead turned l u a) t fit same_formula same_tree is = rw (same_tree a fit.0) is
Computes-same formulas more trees grown count k (op.Until l u a b) t fit same_formula same_tree is = rw (same_tree a fit.0, same_tree b fit.1) is

-- ---- one node more

module _ (old : List SweepNode) (node : SweepNode) where
  kept_node : (j : ℕ) → j < length old → node_at (old ++ node ∷ []) j ≡ node_at old j
  kept_node j h = get_or_append_left old (node ∷ []) no_node j h

  last_node : node_at (old ++ node ∷ []) (length old) ≡ node
  last_node = get_or_push old node no_node (length old) refl

pub fit_more : (count : ℕ) (nodes : List SweepNode) (node : SweepNode) → AllFit count nodes → HasFit count (length nodes) node.sweep → AllFit count (nodes ++ node ∷ [])
fit_more count nodes node all last k inside =
    below_more (λ (j : ℕ). HasFit count j (node_at (nodes ++ node ∷ []) j).sweep) (length nodes)
    (λ j before. subst (λ (n : SweepNode). HasFit count j n.sweep) (sym (kept_node nodes node j before)) (all j before))
    (subst (λ (n : SweepNode). HasFit count (length nodes) n.sweep) (sym (last_node nodes node)) last) k (omega (arith, inside, length_push nodes node))

-- Its cells lie behind those of the others.
pub laid_out_more : (nodes : List SweepNode) (node : SweepNode) (stride : ℕ) → AreLaidOut nodes stride node.at → AreLaidOut (nodes ++ node ∷ []) stride (node.at + stride)
laid_out_more nodes node stride out = record { apart = apart; inside = inside }
  where
    last : cells_of (nodes ++ node ∷ []) (length nodes) ≡ node.at
    last = ap (λ (n : SweepNode). n.at) (last_node nodes node)

    kept : (j : ℕ) → j < length nodes → cells_of (nodes ++ node ∷ []) j ≡ cells_of nodes j
    kept j before = ap (λ (n : SweepNode). n.at) (kept_node nodes node j before)

    apart : (j k : ℕ) → j < k → k < length (nodes ++ node ∷ []) → cells_of (nodes ++ node ∷ []) j + stride ≤ cells_of (nodes ++ node ∷ []) k
    apart j k before within =
        below_more (λ (i : ℕ). j < i → cells_of (nodes ++ node ∷ []) j + stride ≤ cells_of (nodes ++ node ∷ []) i) (length nodes)
        (λ i lt lower. omega (arith, kept j (omega (arith, lt, lower)), kept i lt, out.apart j i lower lt))
        (λ lower. omega (arith, kept j lower, last, out.inside j lower)) k (omega (arith, within, length_push nodes node)) before

    inside : (k : ℕ) → k < length (nodes ++ node ∷ []) → cells_of (nodes ++ node ∷ []) k + stride ≤ node.at + stride
    inside k within =
        below_more (λ (i : ℕ). cells_of (nodes ++ node ∷ []) i + stride ≤ node.at + stride) (length nodes)
        (λ i lt. omega (arith, kept i lt, out.inside i lt)) (omega (arith, last)) k (omega (arith, within, length_push nodes node))

-- The new node computes a formula over the nodes before it.
module _ (old new : Building) (sweep : Sweep) (t : FormulaTree) (puts : Puts old new sweep) (fit : HasFit (count_of old.program) (length old.nodes.items) sweep)
    (formulas trees : List FormulaTree) (built : IsBuilt old formulas trees) (computes : Computes formulas trees sweep t) where
  abbrev node : SweepNode
  node = record { at = length old.nodes.items * old.stride; sweep = sweep }

  kept_tree : (j : ℕ) → j < length old.nodes.items → tree_at (trees ++ t ∷ []) j ≡ tree_at trees j
  kept_tree j before = get_or_append_left trees (t ∷ []) (leaf Always) j (omega (arith, before, built.size))

  last_tree : tree_at (trees ++ t ∷ []) (length old.nodes.items) ≡ t
  last_tree = get_or_push trees t (leaf Always) (length old.nodes.items) built.size

  each : (k : ℕ) → k < length old.nodes.items + 1
      → Computes formulas (trees ++ t ∷ []) (node_at (old.nodes.items ++ node ∷ []) k).sweep (tree_at (trees ++ t ∷ []) k)
  each = below_more _ _
      (λ k before.
      rw (kept_node old.nodes.items node k before, kept_tree k before)
      (Computes-same formulas formulas trees (trees ++ t ∷ []) (count_of old.program) k (node_at old.nodes.items k).sweep (tree_at trees k) (old.fit k before)
      (λ r below. refl) (λ j lower. kept_tree j (omega (arith, before, lower))) (built.computes k before)))
      (rw (last_node old.nodes.items node, last_tree)
      (Computes-same formulas formulas trees (trees ++ t ∷ []) (count_of old.program) (length old.nodes.items) sweep t fit (λ r below. refl) kept_tree computes))

  count : length new.nodes.items ≡ length old.nodes.items + 1
  count = rw puts.nodes (length_push old.nodes.items node)

  pub Grown-put : Grown new trees t
  Grown-put = record {
    formulas = formulas;
    grown = trees ++ t ∷ [];
    built = record {
      of = rw puts.program built.of;
      size = omega (arith, length_push trees t, count, built.size);
      computes = λ k inside. rw puts.nodes (each k (omega (arith, inside, count)));
    };
    same = λ k before. kept_tree k (omega (arith, before, built.size));
    last = let at : last_of new ≡ length old.nodes.items = omega (arith, count) in rw at last_tree;
  }

-- ---- a formula more

-- after nodes for another
Grown-then : (old mid new : Building) (s t : FormulaTree) (first : Adds old mid s) (formulas trees : List FormulaTree) (built : IsBuilt old formulas trees)
    → Grown new (first.trees formulas trees built).grown t → Grown new trees t
Grown-then old mid new s t first formulas trees built g =
    let f = first.trees formulas trees built in record {
      formulas = g.formulas;
      grown = g.grown;
      built = g.built;
      same = λ k before. g.same k (omega (arith, before, built.size, f.built.size, first.longer)) ∙ f.same k before;
      last = g.last;
    }

-- over one operand
Adds-one : (old mid new : Building) (s t : FormulaTree) (sweep : Sweep) → Adds old mid s → Puts mid new sweep
    → HasFit (count_of mid.program) (length mid.nodes.items) sweep → IsSweepable t → node_count t ≡ node_count s + 1
    → ((formulas trees : List FormulaTree) → tree_at trees (last_of mid) ≡ s → Computes formulas trees sweep t) → Adds old new t
Adds-one old mid new s t sweep first puts fit sweepable count meant =
    let one : length new.nodes.items ≡ length mid.nodes.items + 1 = rw puts.nodes (length_push mid.nodes.items _) in record {
      longer = omega (arith, one, first.longer);
      few = omega (arith, one, first.few, count);
      stride = puts.stride ∙ first.stride;
      sweepable = sweepable;
      trees = λ formulas trees built.
          let f = first.trees formulas trees built in
          Grown-then old mid new s t first formulas trees built
          (Grown-put mid new sweep t puts fit f.formulas f.grown f.built (meant f.formulas f.grown f.last));
    }

-- over two
Adds-two : (old mid rest new : Building) (s u t : FormulaTree) (sweep : Sweep) → Adds old mid s → Adds mid rest u → Puts rest new sweep
    → HasFit (count_of rest.program) (length rest.nodes.items) sweep → IsSweepable t → node_count t ≡ node_count s + node_count u + 1
    → ((formulas trees : List FormulaTree) → tree_at trees (last_of mid) ≡ s → tree_at trees (last_of rest) ≡ u → Computes formulas trees sweep t) → Adds old new t
Adds-two old mid rest new s u t sweep first second puts fit sweepable count meant =
    let one : length new.nodes.items ≡ length rest.nodes.items + 1 = rw puts.nodes (length_push rest.nodes.items _) in record {
      longer = omega (arith, one, first.longer, second.longer);
      few = omega (arith, one, first.few, second.few, count);
      stride = puts.stride ∙ (second.stride ∙ first.stride);
      sweepable = sweepable;
      trees = λ formulas trees built.
          let f = first.trees formulas trees built in
          let g = second.trees f.formulas f.grown f.built in
          let same : tree_at g.grown (last_of mid) ≡ s = g.same (last_of mid) (omega (arith, f.built.size, first.longer)) ∙ f.last in
          Grown-then old mid new s t first formulas trees built
          (Grown-then mid rest new u t second f.formulas f.grown f.built
          (Grown-put rest new sweep t puts fit g.formulas g.grown g.built (meant g.formulas g.grown same g.last)));
    }

module _ (old mid new : Building) (s : FormulaTree) (a : ℕ) (first : Adds old mid s) (at : a ≡ last_of mid) where
  inside : a < length mid.nodes.items
  inside = omega (arith, at, first.longer)

  pub Adds-not : Puts mid new (op.Not a) → Adds old new (negation s)
  Adds-not puts = Adds-one old mid new s (negation s) (op.Not a) first puts inside first.sweepable refl (λ formulas trees is. rw at (ap negation (sym is)))

  pub Adds-ahead : (turned : Bool) (l u : ℕ) → l ≤ u → u ≤ 7200 → Puts mid new (op.Ahead turned l u a) → Adds old new (span (ahead_kind turned) l u s)
  Adds-ahead turned l u ordered small puts =
      Adds-one old mid new s (span (ahead_kind turned) l u s) (op.Ahead turned l u a) first puts (inside, ordered, small) (sweepable turned) refl
      (λ formulas trees is. rw at (ap (span (ahead_kind turned) l u) (sym is)))
    where
      sweepable : (turned : Bool) → IsSweepable (span (ahead_kind turned) l u s)
      sweepable true = first.sweepable
      sweepable false = first.sweepable

module _ (old mid rest new : Building) (s t : FormulaTree) (a b : ℕ) (first : Adds old mid s) (second : Adds mid rest t) (at : a ≡ last_of mid) (to : b ≡ last_of rest) where
  first_inside : a < length rest.nodes.items
  first_inside = omega (arith, at, first.longer, second.longer)

  second_inside : b < length rest.nodes.items
  second_inside = omega (arith, to, second.longer)

  pub Adds-pair : (kind : PairKind) → Puts rest new (op.Pair kind a b) → Adds old new (pair kind s t)
  Adds-pair kind puts =
      Adds-two old mid rest new s t (pair kind s t) (op.Pair kind a b) first second puts (first_inside, second_inside) (first.sweepable, second.sweepable) refl
      (λ formulas trees is other. rw (at, to) (ap₂ (pair kind) (sym is) (sym other)))

  pub Adds-until : (l u : ℕ) → l ≤ u → u ≤ 7200 → Puts rest new (op.Until l u a b) → Adds old new (link U l u s t)
  Adds-until l u ordered small puts =
      Adds-two old mid rest new s t (link U l u s t) (op.Until l u a b) first second puts (first_inside, second_inside, ordered, small) (first.sweepable, second.sweepable) refl
      (λ formulas trees is other. rw (at, to) (ap₂ (link U l u) (sym is) (sym other)))

-- a formula that looks no position ahead, as a further one of the program
pub Adds-now : (old mid new : Building) (t : FormulaTree) → reach_of t ≡ 0 → ((formulas : List FormulaTree) → IsProgramOf old.program formulas → IsProgramOf mid.program (formulas ++ t ∷ []))
    → count_of mid.program ≡ count_of old.program + 1 → mid.nodes.items ≡ old.nodes.items → mid.stride ≡ old.stride → (index : ℕ) → index ≡ count_of old.program → Puts mid new (op.Now index) → Adds old new t
Adds-now old mid new t now with more nodes stride index at puts =
    let same_many : length mid.nodes.items ≡ length old.nodes.items = ap length nodes in
    let one : length new.nodes.items ≡ length mid.nodes.items + 1 = rw puts.nodes (length_push mid.nodes.items _) in record {
      longer = omega (arith, one, same_many);
      few = omega (arith, one, same_many, node_some t);
      stride = puts.stride ∙ stride;
      sweepable = sweepable_now t now;
      trees = λ formulas trees built.
          let many : count_of old.program ≡ length formulas = built.of.of.count in
          let own : formula_at (formulas ++ t ∷ []) index ≡ t = get_or_push formulas t (leaf Always) index (sym (at ∙ many)) in
          Grown-put mid new (op.Now index) t puts (omega (arith, more, at)) (formulas ++ t ∷ []) trees
          (record {
            of = with formulas built.of;
            size = built.size ∙ sym same_many;
            computes = rw nodes (λ k inside.
                Computes-same formulas (formulas ++ t ∷ []) trees trees (count_of old.program) k (node_at old.nodes.items k).sweep (tree_at trees k) (old.fit k inside)
                (λ r below. get_or_append_left formulas (t ∷ []) (leaf Always) r (omega (arith, below, many))) (λ j lower. refl) (built.computes k inside));
          })
          (own, now);
    }

-- the first formula
pub Grown-first : (old new : Building) (t : FormulaTree) → old.nodes.items ≡ [] → IsProgramOf old.program [] → Adds old new t → Grown new [] t
Grown-first old new t none of adds =
    adds.trees [] [] (record {
      of = of;
      size = rw none refl;
      computes = λ k inside. absurd (omega (arith, inside, ap length none));
    })
