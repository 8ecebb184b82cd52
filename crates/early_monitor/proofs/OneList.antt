-- The alarms of the ticks of an audit are one list.
use Rattle.std.proofs.Common.{◌≡◌, List, map, map-id, sym, subst}
use Rattle.std.specs.List.{Contains}
use Rattle.std.specs.List.Sorted.{IsStrictlySortedBy}
use Rattle.audit_rows.proofs.ForCallers.{same_list}
use Rattle.traces.specs.Audited.{AuditNumbers, Sighting}
use Rattle.early_monitor.specs.Alarms.{AreAlarms, InOrder, alarm_cmp}
use Rattle.early_monitor.specs.declared.alarm.Alarm.{Alarm}
use Rattle.early_monitor.proofs.Alarms.{alarm_total}

-- an alarm is its own place in their order
abbrev pub itself : Alarm → Alarm
itself alarm = alarm

pub in_order : (alarms : List Alarm) → InOrder alarms → IsStrictlySortedBy alarm_cmp (map itself alarms)
in_order alarms ordered = subst (IsStrictlySortedBy alarm_cmp) (sym (map-id alarms)) ordered

-- Two lists in order of the same alarms are one list.
pub same_alarms : (alarms others : List Alarm) → InOrder alarms → InOrder others → ((alarm : Alarm) → Contains alarms alarm → Contains others alarm)
    → ((alarm : Alarm) → Contains others alarm → Contains alarms alarm) → alarms ≡ others
same_alarms alarms others h k there back = same_list itself alarm_cmp alarm_total alarms others (in_order alarms h) (in_order others k) there back

pub one_list_of_alarms : (numbers : AuditNumbers) (ticks : List Sighting) (alarms others : List Alarm) → AreAlarms numbers ticks alarms → AreAlarms numbers ticks others → alarms ≡ others
one_list_of_alarms numbers ticks alarms others h k =
    same_alarms alarms others h.ordered k.ordered (λ alarm i. (k.each alarm).1 ((h.each alarm).0 i)) (λ alarm i. (h.each alarm).1 ((k.each alarm).0 i))
