-- One node after another.
use Rattle.std.proofs.Common.{◌≡◌, ℕ, ◌+◌, ◌-◌, ◌<◌, ◌≤◌, refl, ap, ap₂, sym, ◌∙◌, arith, List, length}
use Rattle.mtl_formulas.specs.declared.formula.PairKind.{PairKind}
use Rattle.mtl_formulas.specs.declared.formula.SpanKind.{SpanKind}
use Rattle.mtl_formulas.specs.declared.formula.LinkKind.TheVariants.{U, S}
use Rattle.mtl_formulas.specs.FormulaTree.{FormulaTree, pair, span, link}
use Rattle.mtl_monitor.specs.declared.node.Operator.TheVariants as op
use Rattle.mtl_monitor.specs.declared.node.ProgramNode.{ProgramNode}
use Rattle.mtl_monitor.specs.Inner.Standing.{Sound, tree_at, late_at, IsTimed}
use Rattle.mtl_monitor.proofs.Gaining.{Gains, IsTreeAt, IsComputed, IsPairAt, IsSpanAt, IsSinceAt, IsUntilAt}

pub late_kept : (old new : List ProgramNode) (k late : ℕ) (P : List FormulaTree → FormulaTree → Type 0) → Gains old new k late P → (j : ℕ) → j < length old → late_at new j ≡ late_at old j
late_kept old new k late P g j h = ap (λ (n : ProgramNode). n.late) (g.same j h)

-- What the first nodes add, those after them can take.
pub Gains-then : (first mid last : List ProgramNode) (k j late lateness : ℕ) (P Q R : List FormulaTree → FormulaTree → Type 0)
    → Gains first mid k late P → Gains mid last j lateness Q
    → ((trees : List FormulaTree) → Sound first trees → (t : FormulaTree) → R trees t
    → (s : FormulaTree) × P trees s × ((grown : List FormulaTree) → ((i : ℕ) → i < length first → tree_at grown i ≡ tree_at trees i) → tree_at grown k ≡ s → Q grown t))
    → Gains first last j lateness R
Gains-then first mid last k j late lateness P Q R g h follows =
    record {
      longer = omega (arith, g.longer, h.longer);
      same = λ i below. h.same i (omega (arith, g.longer)) ∙ g.same i below;
      inside = h.inside;
      lateness = h.lateness;
      valid = λ all. h.valid (g.valid all);
      below = λ all. h.below (g.below all);
      trees = λ trees s t meant.
          let (u, is, next) = follows trees s t meant in
          let one = g.trees trees s u is in
          let two = h.trees one.grown one.sound t (next one.grown one.same one.tree) in
          record {
            grown = two.grown;
            sound = two.sound;
            same = λ i below. two.same i (omega (arith, g.longer)) ∙ one.same i below;
            tree = two.tree;
          };
    }

module _ (old mid rest new : List ProgramNode) (a b x y k late : ℕ) (in_a : a < length old) (in_b : b < length old) where
  -- both operands delayed, and a node over them
  pub Gains-pair : (kind : PairKind) → Gains old mid x late (IsTreeAt a) → Gains mid rest y late (IsTreeAt b)
      → Gains rest new k late (IsComputed rest (op.Pair kind x y) late) → Gains old new k late (IsPairAt kind a b)
  Gains-pair kind g h p =
      Gains-then old mid new x k late late (IsTreeAt a) (IsPairAt kind x b) (IsPairAt kind a b) g
      (Gains-then mid rest new y k late late (IsTreeAt b) (IsComputed rest (op.Pair kind x y) late) (IsPairAt kind x b) h p
      (λ trees s t meant. (
        tree_at trees b,
        refl,
        λ grown same tree.
            (meant ∙ ap₂ (pair kind) (sym (same x g.inside)) (sym tree), late_kept mid rest y late (IsTreeAt b) h x g.inside ∙ g.lateness, h.lateness),
      )))
      (λ trees s t meant. (tree_at trees a, refl, λ grown same tree. meant ∙ ap₂ (pair kind) (sym tree) (sym (same b in_b))))

  pub Gains-since : (l u width from : ℕ) → l ≤ u → from ≡ late + l → width ≡ (u + 1) - l → Gains old mid x late (IsTreeAt a) → Gains mid rest y from (IsTreeAt b)
      → Gains rest new k late (IsComputed rest (op.Since width l from x y) late) → Gains old new k late (IsSinceAt l u a b)
  Gains-since l u width from ordered delayed wide g h p =
      Gains-then old mid new x k late late (IsTreeAt a) (IsSinceAt l u x b) (IsSinceAt l u a b) g
      (Gains-then mid rest new y k from late (IsTreeAt b) (IsComputed rest (op.Since width l from x y) late) (IsSinceAt l u x b) h p
      (λ trees s t meant. (
        tree_at trees b,
        refl,
        λ grown same tree. (
          late_kept mid rest y from (IsTreeAt b) h x g.inside ∙ g.lateness,
          h.lateness,
          record { upper = u; ordered = ordered; tree = meant ∙ ap₂ (link S l u) (sym (same x g.inside)) (sym tree); delayed = delayed; wide = wide },
        ),
      )))
      (λ trees s t meant. (tree_at trees a, refl, λ grown same tree. meant ∙ ap₂ (link S l u) (sym tree) (sym (same b in_b))))

module _ (old mid rest last new : List ProgramNode) (a b x y z k from full late : ℕ) (in_a : a < length old) (in_b : b < length old) where
  -- both operands delayed, the first one again, and a node over them
  pub Gains-until : (l u : ℕ) → l ≤ u → late ≡ from + u → full ≡ from + ((u + 1) - l) → (lateness : ℕ) → (0 < l → lateness ≡ full)
      → Gains old mid x from (IsTreeAt a) → Gains mid rest y from (IsTreeAt b) → Gains rest last z lateness (IsTreeAt x)
      → Gains last new k late (IsComputed last (op.Until from full l x z y) late) → Gains old new k late (IsUntilAt l u a b)
  Gains-until l u ordered timed wide lateness later g h m p =
      Gains-then old mid new x k from late (IsTreeAt a) (IsUntilAt l u x b) (IsUntilAt l u a b) g
      (Gains-then mid rest new y k from late (IsTreeAt b) (IsUntilAt l u x y) (IsUntilAt l u x b) h
      (Gains-then rest last new z k lateness late (IsTreeAt x) (IsComputed last (op.Until from full l x z y) late) (IsUntilAt l u x y) m p
      (λ trees s t meant. (
        tree_at trees x,
        refl,
        λ grown same tree. (
          late_kept rest last z lateness (IsTreeAt x) m x in_x ∙ late_x,
          late_kept rest last z lateness (IsTreeAt x) m y h.inside ∙ h.lateness,
          record { tree = λ some. tree ∙ sym (same x in_x); lateness = λ some. m.lateness ∙ later some },
          record { upper = u; ordered = ordered; tree = meant ∙ ap₂ (link U l u) (sym (same x in_x)) (sym (same y h.inside)); timed = timed; wide = wide },
        ),
      )))
      (λ trees s t meant. (tree_at trees b, refl, λ grown same tree. meant ∙ ap₂ (link U l u) (sym (same x g.inside)) (sym tree))))
      (λ trees s t meant. (tree_at trees a, refl, λ grown same tree. meant ∙ ap₂ (link U l u) (sym tree) (sym (same b in_b))))
    where
      in_x : x < length rest
      in_x = omega (arith, g.inside, h.longer)

      late_x : late_at rest x ≡ from
      late_x = late_kept mid rest y from (IsTreeAt b) h x g.inside ∙ g.lateness

module _ (old mid new : List ProgramNode) (a x k operand late : ℕ) where
  pub Gains-span : (kind : SpanKind) (l u width : ℕ) → l ≤ u → IsTimed kind l u operand late → width ≡ (u + 1) - l → Gains old mid x operand (IsTreeAt a)
      → Gains mid new k late (IsComputed mid (op.Window kind width operand x) late) → Gains old new k late (IsSpanAt kind l u a)
  Gains-span kind l u width ordered timed wide g p =
      Gains-then old mid new x k operand late (IsTreeAt a) (IsComputed mid (op.Window kind width operand x) late) (IsSpanAt kind l u a) g p
      (λ trees s t meant. (
        tree_at trees a,
        refl,
        λ grown same tree.
            (g.lateness, record { lower = l; upper = u; ordered = ordered; tree = meant ∙ ap (span kind l u) (sym tree); timed = timed; wide = wide }),
      ))

-- a delay up to a certain lateness
pub up_to : (old new : List ProgramNode) (k late by wanted a : ℕ) → late + by ≡ wanted → Gains old new k (late + by) (IsTreeAt a) → Gains old new k wanted (IsTreeAt a)
up_to old new k late by wanted a is g = rw is at g
