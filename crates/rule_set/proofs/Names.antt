-- A rule that is added keeps all names different.
use Rattle.std.proofs.Common.{◌≡◌, ℕ, List, [], ◌∷◌, ◌++◌, false, refl, sym, ◌∙◌}
use Rattle.std.specs.Prelude.{bytes_eq}
use Rattle.std.proofs.lemmas.Bool.{false_from_ne_true, or_from, or_parts}
use Rattle.std.proofs.lemmas.List.Folds.{list_any-append}
use Rattle.std.proofs.lemmas.Slice.Eq.{bytes_eq-Decides}
use Rattle.rule_set.specs.NamedTrees.{NamedTree, has_rule, RulesHaveDifferentNames}

-- if one differs from another, the other differs from it
pub differs_back : (a b : List ℕ) → bytes_eq a b ≡ false → bytes_eq b a ≡ false
differs_back a b h = false_from_ne_true (bytes_eq b a) (λ same. absurd (cc ((bytes_eq-Decides a b).1 (sym ((bytes_eq-Decides b a).0 same)))))

pub different_after : (rules : List NamedTree) (rule : NamedTree) → RulesHaveDifferentNames rules → has_rule rules rule.name ≡ false →
    RulesHaveDifferentNames (rules ++ rule ∷ [])
different_after [] rule h new = (refl, tt)
different_after (first ∷ rules) rule h new =
    let apart = or_parts (bytes_eq first.name rule.name) (has_rule rules rule.name) new in
    let last = or_from (bytes_eq rule.name first.name) false (differs_back first.name rule.name apart.0) refl in (
      list_any-append (λ (r : NamedTree). bytes_eq r.name first.name) rules (rule ∷ []) ∙ or_from (has_rule rules first.name) _ h.0 last,
      different_after rules rule h.1 apart.1,
    )
