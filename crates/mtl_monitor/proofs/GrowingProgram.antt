-- A program with a further formula.
use Rattle.std.proofs.Common.{◌≡◌, ℕ, ◌+◌, ◌<◌, ◌≤◌, refl, ap, sym, ◌∙◌, arith, true, List, [], ◌∷◌, ◌++◌, length, max, below_more}
use Rattle.std.specs.Prelude.{◌&&◌}
use Rattle.std.proofs.lemmas.Bool.{and_parts}
use Rattle.std.proofs.lemmas.List.{length_push, get_or_push, get_or_append_left}
use Rattle.mtl_formulas.specs.declared.atom.Atom.TheVariants.{Always}
use Rattle.mtl_formulas.specs.FormulaTree.{FormulaTree, leaf}
use Rattle.mtl_formulas.specs.FormulaMeasures.{IsValid, reach_of}
use Rattle.mtl_monitor.specs.declared.building.Operand.{Operand}
use Rattle.mtl_monitor.specs.declared.node.ProgramNode.{ProgramNode}
use Rattle.mtl_monitor.specs.declared.program.Program.{Program}
use Rattle.mtl_monitor.specs.Inner.Standing.{root_at, AllValid, AllBelow, AllInside}
use Rattle.mtl_monitor.specs.Inner.Compiling.{Compiled, compiled}
use Rattle.mtl_monitor.specs.Following.{formula_at, IsRoot, IsProgramOf}
use Rattle.mtl_monitor.specs.Reaches.{greatest_reach}
use Rattle.mtl_monitor.specs.Growing.{GrowsBy}
use Rattle.mtl_monitor.specs.Inner.Idle.{is_idle}
use Rattle.mtl_monitor.proofs.Gaining.{Grown, IsTree}
use Rattle.mtl_monitor.proofs.Joining.{late_kept}
use Rattle.mtl_monitor.proofs.Compiled.{IsCompiled, compiled_is}

greatest_reach-push : (formulas : List FormulaTree) (t : FormulaTree) → greatest_reach (formulas ++ t ∷ []) ≡ max (greatest_reach formulas) (reach_of t)
greatest_reach-push [] t = omega arith
greatest_reach-push (s ∷ formulas) t = omega (arith, greatest_reach-push formulas t)

abbrev no_root : Operand
no_root = record { index = 0; late = 0 }

module _ (nodes : List ProgramNode) (roots : List Operand) (t : FormulaTree) (valid : IsValid t) where
  abbrev c : Compiled
  c = compiled nodes t

  is : IsCompiled nodes t c
  is = compiled_is t nodes valid

  pub valid_after : AllValid nodes → AllValid c.nodes
  valid_after all = is.gains.valid all

  pub below_after : AllBelow nodes → AllBelow c.nodes
  below_after all = is.gains.below all

  pub inside_after : AllInside (length nodes) roots → AllInside (length c.nodes) (roots ++ c.operand ∷ [])
  inside_after all k within = by_more k (omega (arith, length_push roots c.operand))
    where
      by_more : (k : ℕ) → k < length roots + 1 → ((root_at (roots ++ c.operand ∷ []) k).index < length c.nodes) × ((root_at (roots ++ c.operand ∷ []) k).late ≤ 7200)
      by_more = below_more _ _
          (λ j before. rw (get_or_append_left roots (c.operand ∷ []) no_root j before) (omega (arith, (all j before).0, is.gains.longer), (all j before).1))
          (rw (get_or_push roots c.operand no_root (length roots) refl) (is.gains.inside, omega (arith, is.late, valid.reach)))

module _ (old : Program) (formulas : List FormulaTree) (t : FormulaTree) (valid : IsValid t) (h : IsProgramOf old formulas) where
  abbrev built : Compiled
  built = compiled old.nodes.items t

  whole : IsCompiled old.nodes.items t built
  whole = compiled_is t old.nodes.items valid

  abbrev g : Grown old.nodes.items built.nodes h.trees built.operand.index t
  g = whole.gains.trees h.trees h.of.sound t refl

  each_before : (k : ℕ) → k < length formulas
      → IsRoot built.nodes g.grown (root_at (old.roots.items ++ built.operand ∷ []) k) (formula_at (formulas ++ t ∷ []) k)
  each_before k inside =
      let is = h.of.each k inside in
      let within : k < length old.roots.items = omega (arith, h.of.count) in
      rw (get_or_append_left old.roots.items (built.operand ∷ []) no_root k within, get_or_append_left formulas (t ∷ []) (leaf Always) k inside)
      (record {
        inside = omega (arith, is.inside, whole.gains.longer);
        tree = g.same (root_at old.roots.items k).index is.inside ∙ is.tree;
        late = is.late;
        lateness = late_kept old.nodes.items built.nodes built.operand.index (reach_of t) (IsTree t) whole.gains (root_at old.roots.items k).index is.inside ∙ is.lateness;
      })

  last : IsRoot built.nodes g.grown (root_at (old.roots.items ++ built.operand ∷ []) (length formulas)) (formula_at (formulas ++ t ∷ []) (length formulas))
  last =
      rw (get_or_push old.roots.items built.operand no_root (length formulas) h.of.count, get_or_push formulas t (leaf Always) (length formulas) refl)
      (record { inside = whole.gains.inside; tree = g.tree; late = whole.late; lateness = whole.gains.lateness ∙ sym whole.late })

  each_of : (k : ℕ) → k < length formulas + 1
      → IsRoot built.nodes g.grown (root_at (old.roots.items ++ built.operand ∷ []) k) (formula_at (formulas ++ t ∷ []) k)
  each_of = below_more _ _ each_before last

  idle_of : (old.idle && is_idle true t) ≡ true → (k : ℕ) → k < length formulas + 1 → is_idle true (formula_at (formulas ++ t ∷ []) k) ≡ true
  idle_of both = below_more _ _
      (λ k inside. rw (get_or_append_left formulas (t ∷ []) (leaf Always) k inside) (h.of.idle (and_parts old.idle (is_idle true t) both).0 k inside))
      (rw (get_or_push formulas t (leaf Always) (length formulas) refl) (and_parts old.idle (is_idle true t) both).1)

  pub IsProgramOf-grown : (new : Program) → GrowsBy old new t → IsProgramOf new (formulas ++ t ∷ [])
  IsProgramOf-grown new grows =
      record {
        trees = g.grown;
        of =
            record {
              sound = rw grows.nodes g.sound;
              count = rw grows.roots (length_push old.roots.items built.operand ∙ (ap (λ n. n + 1) h.of.count ∙ sym (length_push formulas t)));
              each = rw (grows.nodes, grows.roots) (λ k inside. each_of k (omega (arith, length_push formulas t)));
              farthest = grows.reach ∙ (ap (λ n. max n (reach_of t)) h.of.farthest ∙ sym (greatest_reach-push formulas t));
              listed = grows.listed;
              idle = λ is k inside. idle_of (sym grows.idle ∙ is) k (omega (arith, length_push formulas t, inside));
            };
      }
