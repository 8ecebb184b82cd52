-- The model of an audit of settled ticks: the lines of a log, and the rows that it has returned.
use Rattle.std.specs.Prelude.{ℕ, List}
use Rattle.audit_rows.specs.declared.row.Row.{Row}
use Rattle.log_lines.specs.declared.judge.Judge.{Judge}
use Rattle.scenario_values.specs.declared.values.Scenario.{Scenario}
use Rattle.settled_ticks.specs.Standing.{handed_out}
use Rattle.settling.specs.Inner.AuditedTicks.{audit_taker}
use Rattle.settling.specs.Inner.TakenTicks.{HasTakenOneLog, HasTakenSettled}
use Rattle.settling.specs.declared.settled_audit.SettledAudit.{SettledAudit}

-- The audited ticks are the settled ones, by these lines, and it has returned these rows.
abbrev pub StandsFor : SettledAudit → Scenario → List (List ℕ) → List Row → Type 0
StandsFor audit scenario lines given =
    HasTakenSettled (audit_taker audit.settled.taker) audit.settled.ticks scenario lines given

-- The audit's model is lines that the judge has taken, before further ones.
abbrev pub AreOfOneLog : SettledAudit → Scenario → Judge → Type 0
AreOfOneLog audit scenario judge =
    HasTakenOneLog (audit_taker audit.settled.taker) audit.settled.ticks scenario judge

-- the number of audited ticks, which are the first ones
abbrev pub audited_ticks : SettledAudit → ℕ
audited_ticks audit = handed_out audit.settled.ticks
