use Rattle.std.proofs.Common.{ap, sym, length, ◌∙◌}
use Rattle.log_lines.specs.JudgedLines.{numbers_of}
use Rattle.log_lines.specs.LogLines.{lines_of}
use Rattle.log_lines.specs.SentLines.{sent}
use Rattle.sessions.specs.AuditReport.{rows_behind}
use Rattle.sessions.proofs.AtEnds.{few_messages}
use Rattle.sessions.proofs.AuditText.{whole_text}
use Rattle.sessions.proofs.audit.rest_of_audit.Goals as goal

pub write_stretches-requires : goal.write_stretches-requires
write_stretches-requires c = rw c.as_slice.ensures.value c.requires.rows

pub write_vessels-requires : goal.write_vessels-requires
write_vessels-requires c = λ latest. c.requires.keeping (sym c.book.ensures.keeping ∙ latest)

pub write_totals-requires : goal.write_totals-requires
write_totals-requires c = ap length c.as_slice-2.ensures.value ∙ c.requires.totals

pub returns : goal.returns
unfolding rows_behind
returns c = λ log front has stands.
    let scenario = c.args.scenario.now in
    let lines = lines_of log in
    let messages = sent scenario lines in
    let stretches = rw c.as_slice.ensures.value at (c.in_ok-write_stretches.ensures front has) in
    let vessels = c.in_ok-write_vessels.ensures (numbers_of scenario) messages _ (few_messages c.args.judge.now scenario lines stands) (c.book.ensures.stands scenario lines stands) stretches in
    let totalled = c.in_ok-write_totals.ensures _ vessels in
    let counts = c.in_ok-write_counts.ensures scenario lines _ stands totalled in
    c.in_ok-into_bytes.ensures _ counts ∙ whole_text scenario messages front c.args.end.now.rows.items _ _ _ c.as_slice-2.ensures.value
