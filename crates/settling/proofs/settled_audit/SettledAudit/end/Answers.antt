use Rattle.std.proofs.Common.{◌≡◌, ◌++◌, List, Err, sym, ap, subst, append_assoc, ◌∙◌}
use Rattle.audit_rows.specs.declared.row.Row.{Row}
use Rattle.auditor.specs.AuditRows.{AreAuditRows}
use Rattle.auditor.specs.AuditTotals.{AreTotals}
use Rattle.log_lines.specs.SentLines.{sent}
use Rattle.outside.proofs.ForCallers.{same_fault}
use Rattle.settled_ticks.specs.Sightings.{sighted}
use Rattle.settling.specs.ScenarioAudit.{audit_numbers}
use Rattle.settling.proofs.settled_audit.SettledAudit.end.Goals as goal
use Rattle.traces.specs.declared.fault.TickFault.{TickFault as AuditFault}
use Rattle.traces.specs.declared.fault.TickFault.TheVariants as audit_fault

pub returns-in_err-rows-clause-many : goal.returns-in_err-rows-clause-many
returns-in_err-rows-clause-many c = λ told.
    let fault = sym (same_fault c.from_residual.result _ _ c.from_residual.ensures.1 told) in
    let err : c.finish.result ≡ Err audit_fault.TooManyPairs = c.in_err-rows.was ∙ ap (λ (e : AuditFault). Err e) fault in
    c.finish.ensures.many err

pub end_into-requires-clause-sound : goal.end_into-requires-clause-sound
end_into-requires-clause-sound c = let log = c.requires.one_log in (c.in_ok-rows.ensures.all log.lines log.more log.given log.stands log.judged).sound

pub end_into-requires-clause-all : goal.end_into-requires-clause-all
end_into-requires-clause-all c = let log = c.requires.one_log in (c.in_ok-rows.ensures.all log.lines log.more log.given log.stands log.judged).all

pub returns-clause-rows : goal.returns-clause-rows
returns-clause-rows c = λ lines more given stands judged.
    let scenario = c.args.scenario.now in
    let numbers = audit_numbers scenario in
    let rows = c.in_ok-rows.rows.items in
    let whole = c.in_ok-rows.ensures.all lines more given stands judged in
    let ended = c.in_ok-totals.ensures in
    subst (AreAuditRows numbers (sighted scenario (sent scenario (lines ++ more))))
    (append_assoc given rows ended.rest ∙ ap (λ (l : List Row). given ++ l) (sym ended.behind))
    (ended.are_rows numbers (sighted scenario (sent scenario (lines ++ more))) (given ++ rows) whole.stands.stands)

pub returns-clause-totals : goal.returns-clause-totals
returns-clause-totals c = λ lines more given stands judged.
    let scenario = c.args.scenario.now in
    let numbers = audit_numbers scenario in
    let rows = c.in_ok-rows.rows.items in
    let whole = c.in_ok-rows.ensures.all lines more given stands judged in
    let ended = c.in_ok-totals.ensures in
    subst (λ (l : List Row). AreTotals numbers (sighted scenario (sent scenario (lines ++ more))) l c.in_ok-totals.totals.items)
    (append_assoc given rows ended.rest ∙ ap (λ (l : List Row). given ++ l) (sym ended.behind))
    (ended.are_totals numbers (sighted scenario (sent scenario (lines ++ more))) (given ++ rows) whole.stands.stands)

pub returns-clause-few : goal.returns-clause-few
returns-clause-few c = λ lines more given stands judged. (c.in_ok-rows.ensures.all lines more given stands judged).few
