-- The model of a watch of settled ticks: the lines of a log, and the alarms that it has returned.
use Rattle.std.specs.Prelude.{ℕ, List}
use Rattle.early_monitor.specs.declared.alarm.Alarm.{Alarm}
use Rattle.log_lines.specs.declared.judge.Judge.{Judge}
use Rattle.scenario_values.specs.declared.values.Scenario.{Scenario}
use Rattle.settled_ticks.specs.Standing.{handed_out}
use Rattle.settling.specs.Inner.TakenTicks.{HasTakenOneLog, HasTakenSettled}
use Rattle.settling.specs.Inner.WatchedTicks.{watch_taker}
use Rattle.settling.specs.declared.settled_watch.SettledWatch.{SettledWatch}

-- The watched ticks are the settled ones, by these lines, and it has returned these alarms.
abbrev pub StandsFor : SettledWatch → Scenario → List (List ℕ) → List Alarm → Type 0
StandsFor watch scenario lines given =
    HasTakenSettled (watch_taker watch.settled.taker) watch.settled.ticks scenario lines given

-- The watch's model is lines that the judge has taken, before further ones.
abbrev pub AreOfOneLog : SettledWatch → Scenario → Judge → Type 0
AreOfOneLog watch scenario judge =
    HasTakenOneLog (watch_taker watch.settled.taker) watch.settled.ticks scenario judge

-- the number of watched ticks, which are the first ones
abbrev pub watched_ticks : SettledWatch → ℕ
watched_ticks watch = handed_out watch.settled.ticks
