use Rattle.laws.proofs.SettledTexts.{Fronts, settled_begins, settled_on}
use Rattle.laws.proofs.reports.settled_bytes_stay.Goals as goal

pub returns-clause-longer : goal.returns-clause-longer
returns-clause-longer c =
    let fronts : Fronts = record {
      rows = c.decided_rows_are_a_front.ensures;
      all_rows = c.decided_rows_begin_the_report.ensures;
      early = c.decided_alarms_are_a_front.ensures;
      all_early = c.decided_alarms_begin_the_report.ensures;
    } in
    settled_on fronts c.ended_lines_stay.ensures.ended

pub returns-clause-report : goal.returns-clause-report
returns-clause-report c =
    let fronts : Fronts = record {
      rows = c.decided_rows_are_a_front.ensures;
      all_rows = c.decided_rows_begin_the_report.ensures;
      early = c.decided_alarms_are_a_front.ensures;
      all_early = c.decided_alarms_begin_the_report.ensures;
    } in
    settled_begins fronts c.ended_lines_stay.ensures.all
