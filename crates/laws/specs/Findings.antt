-- When the ticks of an audit have rows, totals and alarms: that there are none is refuted.
use Rattle.std.specs.Prelude.{List}
use Rattle.audit_rows.specs.declared.row.Row.{Row}
use Rattle.auditor.specs.AuditRows.{AreAuditRows}
use Rattle.auditor.specs.AuditTotals.{AreTotals}
use Rattle.auditor.specs.declared.total.Total.{Total}
use Rattle.early_monitor.specs.Alarms.{AreAlarms}
use Rattle.early_monitor.specs.declared.alarm.Alarm.{Alarm}
use Rattle.traces.specs.Audited.{AuditNumbers, Sighting}

abbrev pub SomeAuditRows : Type 0
SomeAuditRows = (numbers : AuditNumbers) (ticks : List Sighting) → ¬ ((rows : List Row) → ¬ AreAuditRows numbers ticks rows)

-- for any rows: the totals count their stretches of broken positions
abbrev pub SomeTotals : Type 0
SomeTotals = (numbers : AuditNumbers) (ticks : List Sighting) (rows : List Row) → ¬ ((totals : List Total) → ¬ AreTotals numbers ticks rows totals)

abbrev pub SomeAlarms : Type 0
SomeAlarms = (numbers : AuditNumbers) (ticks : List Sighting) → ¬ ((alarms : List Alarm) → ¬ AreAlarms numbers ticks alarms)
