-- The rules in order, each a name and a tree.
use Rattle.std.specs.Prelude.{ℕ, ◌≡◌, ◌≤◌, Bool, false, bytes_eq, List, [], ◌∷◌, ◌++◌, length, All, slice_index_or, codes}
use Rattle.std.specs.List.{list_any}
use Rattle.mtl_formulas.specs.declared.atom.Atom.TheVariants.{Never}
use Rattle.mtl_formulas.specs.FormulaTree.{FormulaTree, leaf}
use Rattle.mtl_formulas.specs.FormulaMeasures.{IsValid}
use Rattle.rule_set.specs.declared.numbers.RuleNumbers.{RuleNumbers}
use Rattle.rule_set.specs.declared.ranking.Ranking.{Ranking}
use Rattle.rule_set.specs.declared.ranking.Ranking.TheVariants.{Ignored, Counted}
use Rattle.rule_set.specs.declared.rule_set.TheConstants.{MOST_RULES}
use Rattle.rule_set.specs.RuleTrees as tree

pub record NamedTree : Type 0 where
  pub name : List ℕ
  pub tree : FormulaTree

abbrev pub rule_named : List ℕ → FormulaTree → NamedTree
rule_named name tree = record { name = name; tree = tree }

-- the eleven rules that exist both without and with ranks, at a tick of this many seconds
abbrev pub eleven_rules : Ranking → ℕ → RuleNumbers → List NamedTree
eleven_rules ranks tick numbers =
    rule_named (codes "r8b") (tree.r8b tick numbers)
    ∷ rule_named (codes "r8d") (tree.r8d numbers)
    ∷ rule_named (codes "r13") (tree.r13 numbers)
    ∷ rule_named (codes "r14a") (tree.r14a ranks tick numbers)
    ∷ rule_named (codes "r14b") (tree.r14b ranks)
    ∷ rule_named (codes "r14p") (tree.r14p ranks)
    ∷ rule_named (codes "r15") (tree.r15 ranks)
    ∷ rule_named (codes "r16") (tree.r16 ranks tick numbers)
    ∷ rule_named (codes "r17a") (tree.r17a ranks tick numbers)
    ∷ rule_named (codes "r17b") (tree.r17b ranks tick numbers)
    ∷ rule_named (codes "r17c") (tree.r17c ranks tick numbers)
    ∷ []

-- the eleven rules without ranks
abbrev pub rules_of : ℕ → RuleNumbers → List NamedTree
rules_of tick numbers = eleven_rules Ignored tick numbers

-- the twelve rules with ranks
abbrev pub ranked_rules_of : ℕ → RuleNumbers → List NamedTree
ranked_rules_of tick numbers = eleven_rules Counted tick numbers ++ rule_named (codes "r18") (tree.r18 numbers) ∷ []

-- the rules without ranks or with them
abbrev pub rules_by : Ranking → ℕ → RuleNumbers → List NamedTree
rules_by Ignored tick numbers = rules_of tick numbers
rules_by Counted tick numbers = ranked_rules_of tick numbers

-- the rule at an index below their number
abbrev pub rule_at : List NamedTree → ℕ → NamedTree
rule_at rules k = slice_index_or rules k (rule_named [] (leaf Never))

-- whether some rule has the name
abbrev pub has_rule : List NamedTree → List ℕ → Bool
has_rule rules name = list_any (λ (rule : NamedTree). bytes_eq rule.name name) rules

-- No rule has the name of one before it.
abbrev pub RulesHaveDifferentNames : List NamedTree → Type 0
RulesHaveDifferentNames [] = Unit {0}
RulesHaveDifferentNames (rule ∷ rules) = (has_rule rules rule.name ≡ false) × RulesHaveDifferentNames rules

-- not too many rules, with different names, each a valid formula
pub record AreRules (rules : List NamedTree) : Type 0 where
  pub few : length rules ≤ MOST_RULES
  pub different : RulesHaveDifferentNames rules
  pub valid : All (λ (rule : NamedTree). IsValid rule.tree) rules
