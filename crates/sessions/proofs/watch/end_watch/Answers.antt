use Rattle.std.proofs.Common.{ℕ, List, [], append-nil, ◌∙◌, ◌++◌, ap, subst, sym, Err, length}
use Rattle.outside.proofs.ForCallers.{err_cause}
use Rattle.early_monitor.specs.Alarms.{AreAlarms}
use Rattle.log_lines.specs.LogLines.{lines_of}
use Rattle.log_lines.specs.SentLines.{sent}
use Rattle.settled_ticks.specs.Sightings.{sighted}
use Rattle.settling.specs.ScenarioAudit.{audit_numbers}
use Rattle.traces.specs.ManyTraces.{HaveMoreThan}
use Rattle.traces.specs.declared.all_traces.TheConstants.{MOST_TRACES}
use Rattle.sessions.specs.AuditReport.{sightings_of}
use Rattle.sessions.specs.declared.ending.Ending.{Ending}
use Rattle.sessions.proofs.AtEnds.{judged_parts, of_whole}
use Rattle.sessions.proofs.Meeting.{watch_done}
use Rattle.sessions.proofs.Watching.{alarms_of_rules, last_alarms, of_one_log, watch_cause, whole_watch}
use Rattle.sessions.proofs.watch.end_watch.Goals as goal

pub end-requires-clause-one_log : goal.end-requires-clause-one_log
end-requires-clause-one_log c = of_one_log c.args.watch c.args.judge.now c.args.scenario.now c.requires.at_end

pub returns-in_err-alarms-clause-cause : goal.returns-in_err-alarms-clause-cause
unfolding sightings_of
returns-in_err-alarms-clause-cause c =
    err_cause _ _ _ c.from_residual.ensures.1 (λ log given of.
    let scenario = c.args.scenario.now in
    let judge = c.args.judge.now in
    watch_cause scenario log c.in_err-alarms.field-0.0 of.judged.calm
    (λ pairs. of_whole log (λ (lines : List (List ℕ)). HaveMoreThan MOST_TRACES (audit_numbers scenario) (sighted scenario (sent scenario lines)))
    (c.end.ensures.many (c.in_err-alarms.was ∙ ap Err pairs) (lines_of log) [] given of.stands (judged_parts judge scenario log given of))))

pub write_alarms-requires : goal.write_alarms-requires
write_alarms-requires c =
    let at = c.requires.at_end in
    let scenario = c.args.scenario.now in
    let early = c.in_ok-alarms.ensures.alarms (lines_of at.log) [] at.given at.is.stands (judged_parts c.args.judge.now scenario at.log at.given at.is) in
    rw c.as_slice.ensures.value (last_alarms (length scenario.rules) at.given c.in_ok-alarms.alarms.items (alarms_of_rules (audit_numbers scenario) _ _ early))

pub returns-clause-report : goal.returns-clause-report
unfolding sightings_of
returns-clause-report c = λ log before front given of has so_far.
    let scenario = c.args.scenario.now in
    let judge = c.args.judge.now in
    let early = of_whole log (λ (ls : List (List ℕ)). AreAlarms (audit_numbers scenario) (sighted scenario (sent scenario ls)) (given ++ c.in_ok-alarms.alarms.items))
    (c.in_ok-alarms.ensures.alarms (lines_of log) [] given of.stands (judged_parts judge scenario log given of)) in
    let told = rw c.as_slice.ensures.value at (c.in_ok-write_alarms.ensures front has) in
    let counts = c.in_ok-write_counts.ensures scenario (lines_of log) _ of.judged told in
    whole_watch scenario log before front given c.in_ok-alarms.alarms.items _ early so_far
    (ap (λ (e : Ending). e.bytes.items) c.without_search.ensures ∙ c.in_ok-into_bytes.ensures _ counts)

pub returns-clause-answer : goal.returns-clause-answer
unfolding sightings_of
returns-clause-answer c = λ log given of.
    let scenario = c.args.scenario.now in
    let judge = c.args.judge.now in
    rw c.without_search.ensures (watch_done scenario log of.judged.calm (λ many. c.in_ok-alarms.ensures.few (lines_of log) [] given of.stands (judged_parts judge scenario log given of)
    (subst (λ (ls : List (List ℕ)). HaveMoreThan MOST_TRACES (audit_numbers scenario) (sighted scenario (sent scenario ls))) (sym (append-nil (lines_of log))) many)))

pub returns-in_err-write_alarms-clause-cause : goal.returns-in_err-write_alarms-clause-cause
returns-in_err-write_alarms-clause-cause c = err_cause _ _ _ c.from_residual-in_err-write_alarms.ensures.1 (λ log given of. tt)

pub returns-in_err-write_counts-clause-cause : goal.returns-in_err-write_counts-clause-cause
returns-in_err-write_counts-clause-cause c = err_cause _ _ _ c.from_residual-in_err-write_counts.ensures.1 (λ log given of. tt)

pub returns-in_err-into_bytes-clause-cause : goal.returns-in_err-into_bytes-clause-cause
returns-in_err-into_bytes-clause-cause c = err_cause _ _ _ c.from_residual-in_err-into_bytes.ensures.1 (λ log given of. tt)
