-- Lemmas for the crates above: no line decides nothing; where an audit or a watch stands for lines, no more traces begin at their
-- settled ticks; where too many do at settled ticks, they do in all; and marks go on from a front.
use Rattle.std.proofs.Common.{ℕ, List}
use Rattle.audit_rows.specs.declared.row.Row.{Row}
use Rattle.early_monitor.specs.declared.alarm.Alarm.{Alarm}
use Rattle.scenario_values.specs.declared.values.Scenario.{Scenario}
use Rattle.settling.specs.Inner.AuditedTicks.{audit_taker}
use Rattle.settling.specs.Inner.WatchedTicks.{watch_taker}
use Rattle.settling.specs.ManySettled.{HaveManySettled}
use Rattle.settling.specs.Standing.{StandsFor}
use Rattle.settling.specs.WatchStanding.{StandsFor as WatchStandsFor}
use Rattle.settling.specs.declared.settled_audit.SettledAudit.{SettledAudit}
use Rattle.settling.specs.declared.settled_watch.SettledWatch.{SettledWatch}
use Rattle.settling.proofs.TakenTicks.{few_taken}
pub use Rattle.settling.proofs.MoreMarks.{GoOn, go_on}
pub use Rattle.settling.proofs.NoLines.{no_alarms_decided, none_decided, none_many}
pub use Rattle.settling.proofs.SomeMarks.{some_mark}
pub use Rattle.settling.proofs.TakenTicks.{many_settled_in_all}

pub few_settled : (scenario : Scenario) (audit : SettledAudit) (lines : List (List ℕ)) (given : List Row) → StandsFor audit scenario lines given → HaveManySettled scenario lines → ⊥
few_settled scenario audit = few_taken scenario (audit_taker audit.settled.taker) audit.settled.ticks

pub few_watched : (scenario : Scenario) (watch : SettledWatch) (lines : List (List ℕ)) (given : List Alarm) → WatchStandsFor watch scenario lines given → HaveManySettled scenario lines → ⊥
few_watched scenario watch = few_taken scenario (watch_taker watch.settled.taker) watch.settled.ticks
