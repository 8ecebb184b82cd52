use Rattle.std.proofs.Common.{ap, length, List, [], ◌++◌, ◌∙◌}
use Rattle.auditor.specs.declared.total.Total.{Total}
use Rattle.log_lines.specs.JudgedLines.{judged_lines}
use Rattle.log_lines.specs.LogLines.{lines_of}
use Rattle.audit_report.specs.OutcomeRows.{count_rows}
use Rattle.audit_report.specs.TotalRows.{total_rows}
use Rattle.sessions.specs.DrillReport.{drill_text}
use Rattle.sessions.proofs.drill.drill_report.Goals as goal

pub write_totals-requires : goal.write_totals-requires
write_totals-requires c = ap length c.as_slice.ensures.value ∙ c.requires

pub returns : goal.returns
unfolding drill_text
returns c = λ log stands.
    let scenario = c.args.scenario.now in
    let lines = lines_of log in
    let totals = c.in_ok-write_totals.ensures [] c.new-text.ensures in
    let counts = c.in_ok-write_counts.ensures scenario lines _ stands totals in
    c.in_ok-into_bytes.ensures _ counts ∙ ap (λ (ts : List Total). total_rows scenario.rules ts ++ count_rows (judged_lines scenario lines)) c.as_slice.ensures.value
