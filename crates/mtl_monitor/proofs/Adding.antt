-- The parts of a valid formula are valid, and their nodes one after the other make its own.
use Rattle.std.proofs.Common.{◌≡◌, ℕ, refl, ap, ap₂, sym, ◌∙◌, arith, List}
use Rattle.mtl_formulas.specs.declared.formula.PairKind.{PairKind}
use Rattle.mtl_formulas.specs.declared.formula.SpanKind.{SpanKind}
use Rattle.mtl_formulas.specs.declared.formula.LinkKind.{LinkKind}
use Rattle.mtl_formulas.specs.FormulaTree.{FormulaTree, negation, pair, span, link}
use Rattle.mtl_formulas.specs.FormulaMeasures.{IsValid}
use Rattle.mtl_monitor.specs.declared.node.Operator.TheVariants as op
use Rattle.mtl_monitor.specs.declared.node.ProgramNode.{ProgramNode}
use Rattle.mtl_monitor.specs.Inner.Standing.{tree_at}
use Rattle.mtl_monitor.proofs.Gaining.{Gains, IsTree, IsComputed, IsSpanAt}
use Rattle.mtl_monitor.proofs.Joining.{Gains-then}

pub valid_negated : (t : FormulaTree) → IsValid (negation t) → IsValid t
valid_negated t v = record { parts = v.parts; depth = omega (arith, v.depth); nodes = omega (arith, v.nodes); reach = v.reach }

pub valid_left : (kind : PairKind) (s t : FormulaTree) → IsValid (pair kind s t) → IsValid s
valid_left kind s t v = record { parts = v.parts.0; depth = omega (arith, v.depth); nodes = omega (arith, v.nodes); reach = omega (arith, v.reach) }

pub valid_right : (kind : PairKind) (s t : FormulaTree) → IsValid (pair kind s t) → IsValid t
valid_right kind s t v = record { parts = v.parts.1; depth = omega (arith, v.depth); nodes = omega (arith, v.nodes); reach = omega (arith, v.reach) }

pub valid_inner : (kind : SpanKind) (l u : ℕ) (t : FormulaTree) → IsValid (span kind l u t) → IsValid t
valid_inner kind l u t v = record { parts = v.parts.2; depth = omega (arith, v.depth); nodes = omega (arith, v.nodes); reach = omega (arith, v.reach) }

pub valid_first : (kind : LinkKind) (l u : ℕ) (s t : FormulaTree) → IsValid (link kind l u s t) → IsValid s
valid_first kind l u s t v = record { parts = v.parts.2; depth = omega (arith, v.depth); nodes = omega (arith, v.nodes); reach = omega (arith, v.reach) }

pub valid_second : (kind : LinkKind) (l u : ℕ) (s t : FormulaTree) → IsValid (link kind l u s t) → IsValid t
valid_second kind l u s t v = record { parts = v.parts.3; depth = omega (arith, v.depth); nodes = omega (arith, v.nodes); reach = omega (arith, v.reach) }

module _ (old mid new : List ProgramNode) (x k late : ℕ) (t : FormulaTree) where
  pub Gains-negation : Gains old mid x late (IsTree t) → Gains mid new k late (IsComputed mid (op.Not x) late) → Gains old new k late (IsTree (negation t))
  Gains-negation g p =
      Gains-then old mid new x k late late (IsTree t) (IsComputed mid (op.Not x) late) (IsTree (negation t)) g p
      (λ trees s u meant. (t, refl, λ grown same tree. (meant ∙ ap negation (sym tree), g.lateness)))

  pub Gains-over : (kind : SpanKind) (l u lateness : ℕ) → Gains old mid x late (IsTree t) → Gains mid new k lateness (IsSpanAt kind l u x)
      → Gains old new k lateness (IsTree (span kind l u t))
  Gains-over kind l u lateness g p =
      Gains-then old mid new x k late lateness (IsTree t) (IsSpanAt kind l u x) (IsTree (span kind l u t)) g p
      (λ trees s v meant. (t, refl, λ grown same tree. meant ∙ ap (span kind l u) (sym tree)))

module _ (old mid rest new : List ProgramNode) (x y k late_x late_y late : ℕ) (s t : FormulaTree) where
  pub Gains-two : (make : FormulaTree → FormulaTree → FormulaTree) → Gains old mid x late_x (IsTree s) → Gains mid rest y late_y (IsTree t)
      → Gains rest new k late (λ trees u. u ≡ make (tree_at trees x) (tree_at trees y)) → Gains old new k late (IsTree (make s t))
  Gains-two make g h p =
      Gains-then old mid new x k late_x late (IsTree s) (λ trees u. (tree_at trees x ≡ s) × (u ≡ make s t)) (IsTree (make s t)) g
      (Gains-then mid rest new y k late_y late (IsTree t) (λ trees u. u ≡ make (tree_at trees x) (tree_at trees y)) (λ trees u. (tree_at trees x ≡ s) × (u ≡ make s t)) h p
      (λ trees sound u meant. (t, refl, λ grown same tree. meant.1 ∙ ap₂ make (sym (same x g.inside ∙ meant.0)) (sym tree))))
      (λ trees sound u meant. (s, refl, λ grown same tree. (tree, meant)))
