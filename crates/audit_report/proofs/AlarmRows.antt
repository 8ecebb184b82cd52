-- The rows of alarms, written one after the other.
use Rattle.std.proofs.Common.{ℕ, ◌+◌, ◌<◌, List, ◌++◌, length, take, append_assoc, ap, subst, ◌∙◌}
use Rattle.std.proofs.Math.ListN.{get_or}
use Rattle.report_csv.specs.CsvRows.{row_of}
use Rattle.audit_report.specs.ReportTexts.{HasText}
use Rattle.audit_report.specs.declared.report_text.ReportText.{ReportText}
use Rattle.early_monitor.specs.declared.alarm.Alarm.{Alarm}
use Rattle.rule_set.specs.NamedTrees.{NamedTree}
use Rattle.audit_report.specs.AlarmRows.{alarm_rows, told_alarm}
use Rattle.audit_report.proofs.Pushing.{rows_push}

-- the rows of the first alarms, and one more
pub one_alarm_on : (text : ReportText) (front : List ℕ) (rules : List NamedTree) (early : List Alarm) (k : ℕ) (d : Alarm) → k < length early
    → HasText text ((front ++ alarm_rows rules (take k early)) ++ row_of (told_alarm rules (get_or early k d)))
    → HasText text (front ++ alarm_rows rules (take (k + 1) early))
one_alarm_on text front rules early k d lt has =
    let f : Alarm → List ℕ = λ a. row_of (told_alarm rules a) in
    subst (HasText text)
    (append_assoc front (alarm_rows rules (take k early)) (f (get_or early k d)) ∙ ap (λ (l : List ℕ). front ++ l) (rows_push f early k d lt))
    has
