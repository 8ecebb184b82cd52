use Rattle.std.proofs.Common.{◌≡◌, ℕ, ◌<◌, length, get_or, None}
use Rattle.early_monitor.specs.Alarms.{tree_of_rule}
use Rattle.early_monitor.specs.Inner.RulesWatched.{IsWatchedAs}
use Rattle.early_monitor.proofs.rule_lists.early_rules.Given as goal

abbrev pub invariant-loop-rule : goal.invariant-loop-rule
invariant-loop-rule l = record {
  count : length l.early.items ≡ l.rule;
  each : (k : ℕ) → k < l.rule → IsWatchedAs (get_or l.early.items k None) (tree_of_rule l.rules k);
}
