-- What a list of rules stands for: their names and trees in order.
use Rattle.std.proofs.Common.{◌≡◌, ◌≤◌, ◌<◌, ℕ, zero, suc, List, [], ◌∷◌, ◌++◌, false, ◌||◌, length, get_or, refl, ap, arith}
use Rattle.std.specs.Prelude.{bytes_eq, Result, Ok, Err, IfOk}
use Rattle.out_of_memory.specs.declared.Memory.{Memory}
use Rattle.std.specs.List.{list_any}
use Rattle.std.proofs.lemmas.List.{length-map, map-append, length-append}
use Rattle.mtl_formulas.specs.FormulaMeasures.{IsValid}
use Rattle.rule_set.specs.declared.rule.Rule.{Rule}
use Rattle.rule_set.specs.declared.rule_set.TheConstants.{MOST_RULES}
use Rattle.rule_set.specs.NamedTrees.{NamedTree, has_rule, RulesHaveDifferentNames, AreRules}
use Rattle.rule_set.specs.Inner.Rules.{named_tree, named_trees, IsPut}
use Rattle.rule_set.proofs.Names.{different_after}

valid_at : (rules : List Rule) (k : ℕ) (d : NamedTree) → k < length (named_trees rules) → IsValid (get_or (named_trees rules) k d).tree
valid_at [] k d h = absurd (omega arith)
valid_at (rule ∷ rules) zero d h = rule.valid
valid_at (rule ∷ rules) (suc k) d h = valid_at rules k d (omega arith)

pub are_rules : (rules : List Rule) → length rules ≤ MOST_RULES → RulesHaveDifferentNames (named_trees rules) → AreRules (named_trees rules)
are_rules rules few different = record {
  few = omega (arith, length-map rules named_tree);
  different = different;
  valid = valid_at rules;
}

pub holds_of : (rules : List Rule) (name : List ℕ) → list_any (λ (rule : Rule). bytes_eq rule.name name) rules ≡ has_rule (named_trees rules) name
holds_of [] name = refl
holds_of (rule ∷ rules) name = ap (λ r. bytes_eq rule.name name || r) (holds_of rules name)

pub added : (rules : List Rule) (rule : Rule) → length rules < MOST_RULES → RulesHaveDifferentNames (named_trees rules) → has_rule (named_trees rules) rule.name ≡ false →
    (length (rules ++ rule ∷ []) ≤ MOST_RULES) × RulesHaveDifferentNames (named_trees (rules ++ rule ∷ []))
added rules rule few different new =
    (omega (arith, length-append rules (rule ∷ [])), rw (map-append named_tree rules (rule ∷ [])) (different_after (named_trees rules) (named_tree rule) different new))

pub none_put : (rules : List Rule) → rules ≡ [] → named_trees rules ≡ []
none_put rules none = rw none refl

-- The list with the rule that was made stands for one name and tree more.
pub put_more : (before after : List Rule) (made : Result Rule Memory) (trees : List NamedTree) (t : NamedTree) → named_trees before ≡ trees → IfOk made (λ rule. named_tree rule ≡ t)
    → IsPut before made after → named_trees after ≡ trees ++ t ∷ []
put_more before after (Ok rule) trees t so_far is put = rw (put, map-append named_tree before (rule ∷ []), so_far, is) refl
put_more before after (Err fault) trees t so_far is put = absurd put
