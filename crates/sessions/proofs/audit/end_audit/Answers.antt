use Rattle.std.proofs.Common.{ℕ, List, [], append-nil, ◌∙◌, ◌++◌, ap, sym, subst, Err}
use Rattle.outside.proofs.ForCallers.{err_cause}
use Rattle.auditor.specs.AuditRows.{AreAuditRows}
use Rattle.auditor.specs.AuditTotals.{AreTotals}
use Rattle.traces.specs.ManyTraces.{HaveMoreThan}
use Rattle.log_lines.specs.LogLines.{lines_of}
use Rattle.log_lines.specs.SentLines.{sent}
use Rattle.traces.specs.declared.all_traces.TheConstants.{MOST_TRACES}
use Rattle.settled_ticks.specs.Sightings.{sighted}
use Rattle.settling.specs.ScenarioAudit.{audit_numbers}
use Rattle.settling.specs.Standing.{audited_ticks}
use Rattle.sessions.specs.AuditReport.{sightings_of}
use Rattle.sessions.specs.declared.ending.Ending.{Ending}
use Rattle.sessions.proofs.AtEnds.{judged_parts, keeps_tracks, of_one_log, of_whole, whole_report}
use Rattle.sessions.proofs.AuditText.{audit_cause}
use Rattle.sessions.proofs.Auditing.{last_of_rules, rows_of_rules}
use Rattle.sessions.proofs.Meeting.{audit_done}
use Rattle.sessions.proofs.audit.end_audit.Goals as goal

pub end-requires-clause-one_log : goal.end-requires-clause-one_log
end-requires-clause-one_log c = of_one_log c.args.audit c.args.judge.now c.args.scenario.now c.requires.at_end

pub returns-in_err-end-clause-cause : goal.returns-in_err-end-clause-cause
unfolding sightings_of
returns-in_err-end-clause-cause c =
    err_cause _ _ _ c.from_residual.ensures.1 (λ log given of.
    let scenario = c.args.scenario.now in
    let judge = c.args.judge.now in
    audit_cause scenario log c.in_err-end.field-0.0 of.judged.calm
    (λ pairs. of_whole log (λ (lines : List (List ℕ)). HaveMoreThan MOST_TRACES (audit_numbers scenario) (sighted scenario (sent scenario lines)))
    (c.end.ensures.many (c.in_err-end.was ∙ ap Err pairs) (lines_of log) [] given of.stands (judged_parts judge scenario log given of))))

pub rest_of_audit-requires-clause-keeping : goal.rest_of_audit-requires-clause-keeping
rest_of_audit-requires-clause-keeping c = keeps_tracks _ c.args.scenario.now (audited_ticks c.args.audit) c.requires.remembers

pub rest_of_audit-requires-clause-rows : goal.rest_of_audit-requires-clause-rows
rest_of_audit-requires-clause-rows c =
    let at = c.requires.at_end in
    let scenario = c.args.scenario.now in
    let rows = c.in_ok-end.ensures.rows (lines_of at.log) [] at.given at.is.stands (judged_parts c.args.judge.now scenario at.log at.given at.is) in
    last_of_rules scenario at.given c.in_ok-end.end.rows.items (rows_of_rules (audit_numbers scenario) _ _ rows)

pub rest_of_audit-requires-clause-totals : goal.rest_of_audit-requires-clause-totals
rest_of_audit-requires-clause-totals c =
    let at = c.requires.at_end in
    let totals = c.in_ok-end.ensures.totals (lines_of at.log) [] at.given at.is.stands (judged_parts c.args.judge.now c.args.scenario.now at.log at.given at.is) in
    totals.count

pub returns-clause-report : goal.returns-clause-report
unfolding sightings_of
returns-clause-report c = λ log before front given of has so_far.
    let scenario = c.args.scenario.now in
    let judge = c.args.judge.now in
    let parts = judged_parts judge scenario log given of in
    let rows = of_whole log (λ (ls : List (List ℕ)). AreAuditRows (audit_numbers scenario) (sighted scenario (sent scenario ls)) (given ++ c.in_ok-end.end.rows.items))
    (c.in_ok-end.ensures.rows (lines_of log) [] given of.stands parts) in
    let totals = of_whole log (λ (ls : List (List ℕ)). AreTotals (audit_numbers scenario) (sighted scenario (sent scenario ls)) (given ++ c.in_ok-end.end.rows.items) c.in_ok-end.end.totals.items)
    (c.in_ok-end.ensures.totals (lines_of log) [] given of.stands parts) in
    whole_report scenario log before front given c.in_ok-end.end.rows.items c.in_ok-end.end.totals.items _ rows totals so_far
    (ap (λ (e : Ending). e.bytes.items) c.without_search.ensures ∙ c.in_ok-rest_of_audit.ensures log front has of.judged)

pub returns-clause-answer : goal.returns-clause-answer
unfolding sightings_of
returns-clause-answer c = λ log given of.
    let scenario = c.args.scenario.now in
    let judge = c.args.judge.now in
    rw c.without_search.ensures (audit_done scenario log of.judged.calm (λ many. c.in_ok-end.ensures.few (lines_of log) [] given of.stands (judged_parts judge scenario log given of)
    (subst (λ (ls : List (List ℕ)). HaveMoreThan MOST_TRACES (audit_numbers scenario) (sighted scenario (sent scenario ls))) (sym (append-nil (lines_of log))) many)))
