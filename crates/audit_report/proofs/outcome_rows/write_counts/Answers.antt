use Rattle.std.proofs.Common.{List, ℕ, ◌++◌, subst}
use Rattle.std.proofs.lemmas.Result.{on_ok_weaker}
use Rattle.audit_report.specs.ReportTexts.{HasText}
use Rattle.log_lines.specs.JudgedLines.{judged_lines}
use Rattle.audit_report.proofs.OutcomeRows.{count_rows-from_counts}
use Rattle.audit_report.proofs.outcome_rows.write_counts.Goals as goal

pub returns : goal.returns
returns c = on_ok_weaker c.write_each.result (λ writes scenario lines front stands has.
    subst (λ (rows : List ℕ). HasText c.write_each.new.text (front ++ rows))
    (count_rows-from_counts c.counts.result.now (judged_lines scenario lines) c.all_outcomes.result.now c.all_outcomes.ensures (c.counts.ensures scenario lines stands))
    (writes front has)) c.write_each.ensures
