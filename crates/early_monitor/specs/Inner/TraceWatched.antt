-- The state of one trace of a watch.
use Rattle.std.specs.Prelude.{ℕ, ◌≡◌, ◌<◌, List, length, get_or, Option, None, true}
use Rattle.mtl_monitor.specs.Following as monitor
use Rattle.traces.specs.Audited.{AuditNumbers}
use Rattle.traces.specs.Known.{Known}
use Rattle.early_monitor.specs.declared.early_program.EarlyState.{EarlyState}
use Rattle.early_monitor.specs.declared.watched_rules.WatchedRules.{WatchedRules}
use Rattle.early_monitor.specs.declared.watched_trace.WatchedTrace.{WatchedTrace}
use Rattle.early_monitor.specs.Alarms.{tree_of_rule}
use Rattle.early_monitor.specs.Inner.RulesWatched.{FitsRule, IsCalm, StandsForRule, early_at, plain_trees}

-- the number of its steps
abbrev pub steps_of : WatchedTrace → ℕ
steps_of trace = monitor.fed_of trace.values

-- the state of the rule at an index for it
abbrev pub kept_at : List (Option EarlyState) → ℕ → Option EarlyState
kept_at states k = get_or states k None

-- It continues with these rules: all parts of its state have the same number of steps.
pub record IsReady (w : WatchedRules) (trace : WatchedTrace) : Type 0 where
  pub fits : monitor.Fits w.program trace.values
  pub unended : monitor.past_of trace.values ≡ 0
  pub as_many : length trace.early.items ≡ length w.early.items
  pub early : (k : ℕ) → k < length w.early.items → FitsRule (steps_of trace) (early_at w k) (kept_at trace.early.items k)
  pub calm : trace.calm ≡ true → IsCalm w trace.values
  pub plain : trace.plain ≡ true → (k : ℕ) → k < length w.early.items → early_at w k ≡ None

-- Its model is the values of the atoms at the steps of a trace so far.
pub record StandsFor (w : WatchedRules) (numbers : AuditNumbers) (trace : WatchedTrace) (known : Known) : Type 0 where
  pub pair : trace.pair ≡ known.pair
  pub start : trace.start ≡ known.start
  pub values : monitor.Follows w.program trace.values (plain_trees w.early.items numbers.rules) known.trace
  pub early : (k : ℕ) → k < length numbers.rules → StandsForRule (early_at w k) (kept_at trace.early.items k) (tree_of_rule numbers.rules k) known.trace
