-- The state of all traces of a watch, and the alarms of a step of each.
use Rattle.std.specs.Prelude.{ℕ, ◌≤◌, ◌↔◌, List, ◌++◌}
use Rattle.std.specs.List.{AllZip, Contains}
use Rattle.mtl_monitor.specs.Following.{count_of}
use Rattle.traces.specs.Audited.{AuditNumbers}
use Rattle.traces.specs.Keeping.{Keeper}
use Rattle.traces.specs.Known.{Known}
use Rattle.early_monitor.specs.declared.alarm.Alarm.{Alarm}
use Rattle.early_monitor.specs.declared.watch_keeper.WatchKeeper.{WatchKeeper}
use Rattle.early_monitor.specs.declared.watched_rules.WatchedRules.{WatchedRules}
use Rattle.early_monitor.specs.declared.watched_trace.WatchedTrace.{WatchedTrace}
use Rattle.early_monitor.specs.Inner.Breaches.{IsBreachOf}
use Rattle.early_monitor.specs.Inner.RulesWatched.{AreWatched}
use Rattle.early_monitor.specs.Inner.TraceWatched as trace

-- One of the traces has this breach, and the step with this number decides it.
pub record IsBreachAmong (numbers : AuditNumbers) (step : ℕ) (knowns : List Known) (alarm : Alarm) : Type 0 where
  pub known : Known
  pub among : Contains knowns known
  pub breach : IsBreachOf numbers step known alarm

-- The state of each trace matches it, and the alarms are those that the step decides in the first traces; the others
-- have not taken it.
pub record AreFound (w : WatchedRules) (alarms : List Alarm) (numbers : AuditNumbers) (step : ℕ) (values : List WatchedTrace) (done rest : List Known) (given : Unit {0}) : Type 0 where
  pub rules : AreWatched w numbers.rules
  pub stand : AllZip (trace.StandsFor w numbers) values (done ++ rest)
  pub alarms_are : (alarm : Alarm) → Contains alarms alarm ↔ IsBreachAmong numbers step done alarm

-- The end of a trace has no alarm.
abbrev pub watch_keeper : WatchKeeper → Keeper WatchedTrace (Unit {0})
watch_keeper keeper = record {
  Sound = count_of keeper.rules.program ≤ 17;
  Ready = trace.IsReady keeper.rules;
  steps = trace.steps_of;
  Stands = AreFound keeper.rules keeper.alarms.keys;
  Ends = λ numbers step values ended rest given. Unit {0};
}
