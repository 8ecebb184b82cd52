use Rattle.std.proofs.Common.{◌≡◌, ℕ, ◌<◌, [], length, List, get_or, None}
use Rattle.rule_set.specs.NamedTrees.{NamedTree}
use Rattle.early_monitor.specs.Alarms.{tree_of_rule}
use Rattle.early_monitor.specs.Inner.RulesWatched.{AreWatched, FitsRule, StandsForRule, early_at}
use Rattle.early_monitor.proofs.rule_lists.begin_rules.Given as goal

abbrev pub invariant-loop-rule : goal.invariant-loop-rule
invariant-loop-rule l = record {
  count : length l.early.items ≡ l.rule;
  fits : (k : ℕ) → k < l.rule → FitsRule 0 (early_at l.rules k) (get_or l.early.items k None);
  stands : (rules : List NamedTree) → AreWatched l.rules rules → (k : ℕ) → k < l.rule → StandsForRule (early_at l.rules k) (get_or l.early.items k None) (tree_of_rule rules k) [];
}
