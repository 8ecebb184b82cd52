use Rattle.std.proofs.Common.{◌≡◌, ◌∙◌, Some, IsTrue, false, None, ap, subst, sym}
use Rattle.std.specs.Prelude.{IsSome}
use Rattle.std.proofs.lemmas.Result.{IfErr-weaker, IfOk-weaker}
use Rattle.outside.proofs.ForCallers.{err_cause}
use Rattle.drill_laws.specs.Limits.{MeetsNoLimit}
use Rattle.drill_log.specs.DrillLog.{drill_log_of}
use Rattle.sessions.specs.Tasks.{task_by}
use Rattle.sessions.specs.declared.asked.Asked.{Asked}
use Rattle.tasks.specs.Modes.{needs_own}
use Rattle.tasks.specs.Tasks.{task_mode}
use Rattle.tasks.specs.declared.mode.Mode.{Mode}
use Rattle.tasks.proofs.ForCallers.{makes_drill}
use Rattle.colregs_program.specs.AskedScenarios.{log_of}
use Rattle.colregs_program.proofs.AskedLogs.{cause_alike, cause_of_made, cause_of_read, log_is, log_read, reported_on, same_task}
use Rattle.colregs_program.proofs.DrillAnswers.{drill_faults, drill_reports}
use Rattle.colregs_program.proofs.StreamedReports.{none_begun}
use Rattle.colregs_program.proofs.report.report_on.Goals as goal

pub write_report-requires-clause-own : goal.write_report-requires-clause-own
write_report-requires-clause-own g c = subst (λ (m : Mode). IsTrue (needs_own m) → IsSome c.args.set_up.scenario.own) (sym c.mode-mode.ensures) c.requires.own

pub write_report-requires-clause-unneeded : goal.write_report-requires-clause-unneeded
write_report-requires-clause-unneeded g c = subst (λ (m : Mode). needs_own m ≡ false → c.args.set_up.scenario.own ≡ None) (sym c.mode-mode.ensures) c.requires.unneeded

pub write_report-requires-2-clause-own : goal.write_report-requires-2-clause-own
write_report-requires-2-clause-own g c = subst (λ (m : Mode). IsTrue (needs_own m) → IsSome c.args.set_up.scenario.own) (sym c.mode-mode.ensures) c.requires.own

pub write_report-requires-2-clause-unneeded : goal.write_report-requires-2-clause-unneeded
write_report-requires-2-clause-unneeded g c = subst (λ (m : Mode). needs_own m ≡ false → c.args.set_up.scenario.own ≡ None) (sym c.mode-mode.ensures) c.requires.unneeded

-- ---- a log that is read

pub returns-in-None-clause-report : goal.returns-in-None-clause-report
returns-in-None-clause-report g c =
    IfOk-weaker c.write_report.result _ _ (λ none reports. reported_on c.args.request.now c.args.set_up.rows.items c.args.set_up.scenario (g.S.Source.left c.args.log.now) (g.S.Source.left c.args.log.now) _ _ none
    (task_by c.mode-mode.result (record { why = c.says_why.result; rows = c.as_slice.result }))
    (log_read c.args.request.now c.args.set_up.scenario (g.S.Source.left c.args.log.now) c.in-None.ensures) (same_task c.args.request.now c.args.set_up.rows.items c.mode-mode.result (record { why = c.says_why.result; rows = c.as_slice.result }) c.mode-mode.ensures c.says_why.ensures c.as_slice.ensures.value) reports) c.write_report.ensures.report

pub returns-in-None-clause-cause : goal.returns-in-None-clause-cause
returns-in-None-clause-cause g c =
    IfErr-weaker c.write_report.result _ _ (λ because cause. cause_of_read c.args.request.now c.args.set_up.rows.items c.args.set_up.scenario (g.S.Source.left c.args.log.now) _ _ _ because c.in-None.ensures
    (cause_alike _ _ c.args.set_up.scenario _ _ _ _ because (same_task c.args.request.now c.args.set_up.rows.items c.mode-mode.result (record { why = c.says_why.result; rows = c.as_slice.result }) c.mode-mode.ensures c.says_why.ensures c.as_slice.ensures.value) cause)) c.write_report.ensures.cause

-- ---- a log that is made

pub returns-in_err-made-clause-cause : goal.returns-in_err-made-clause-cause
returns-in_err-made-clause-cause g c =
    err_cause c.from_residual.result _ _ c.from_residual.ensures.1
    (none_begun (task_mode c.args.request.now.task) c.args.set_up.scenario (log_of c.args.request.now c.args.set_up.scenario (g.S.Source.left c.args.log.now)) (g.K.Sink.contents c.args.out.now))

pub returns-in-Ok-clause-report : goal.returns-in-Ok-clause-report
returns-in-Ok-clause-report g c =
    reported_on c.args.request.now c.args.set_up.rows.items c.args.set_up.scenario (g.S.Source.left c.args.log.now) (Some c.in_ok-made.made.left) _ _ c.in-Ok.none
    (task_by c.mode-mode.result (record { why = c.says_why.result; rows = c.as_slice.result }))
    (log_is c.args.request.now c.args.set_up.rows.items c.args.set_up.scenario (g.S.Source.left c.args.log.now) c.in-Some.ensures.0 c.in_ok-made.made.left (c.in_ok-made.ensures.left ∙ ap (drill_log_of c.args.set_up.scenario) c.in-Some.ensures.1)) (same_task c.args.request.now c.args.set_up.rows.items c.mode-mode.result (record { why = c.says_why.result; rows = c.as_slice.result }) c.mode-mode.ensures c.says_why.ensures c.as_slice.ensures.value) c.in-Ok.ensures.report

pub returns-clause-cause : goal.returns-clause-cause
returns-clause-cause g c =
    rw c.made_fault.ensures
    (cause_of_made c.args.request.now c.args.set_up.rows.items c.args.set_up.scenario (g.S.Source.left c.args.log.now) c.in-Some.ensures.0 c.in_ok-made.made.left (c.in_ok-made.ensures.left ∙ ap (drill_log_of c.args.set_up.scenario) c.in-Some.ensures.1) _ _ _ _ c.in-Err.fault
    (cause_alike _ _ c.args.set_up.scenario _ _ _ _ c.in-Err.fault (same_task c.args.request.now c.args.set_up.rows.items c.mode-mode.result (record { why = c.says_why.result; rows = c.as_slice.result }) c.mode-mode.ensures c.says_why.ensures c.as_slice.ensures.value) c.in-Err.ensures.cause))

pub returns-clause-drill : goal.returns-clause-drill
returns-clause-drill g c = λ makes.
    let within = subst (MeetsNoLimit c.args.set_up.scenario) (sym c.in_ok-made.ensures.left) (c.a_drill_meets_no_limit.ensures c.args.set_up.scenario c.in-Some.seed c.requires.in_range.window) in
    let asked : Asked = record { why = c.says_why.result; rows = c.as_slice.result } in
    rw c.made_fault.ensures
    (drill_faults c.args.set_up.scenario c.in_ok-made.made.left within
    c.mode-mode.result (c.mode-mode.ensures ∙ makes_drill (task_mode c.args.request.now.task) makes) asked _ _ _ c.in-Err.fault c.in-Err.ensures.cause)

pub returns-in-Ok-clause-drill : goal.returns-in-Ok-clause-drill
returns-in-Ok-clause-drill g c = λ makes.
    let within = subst (MeetsNoLimit c.args.set_up.scenario) (sym c.in_ok-made.ensures.left) (c.a_drill_meets_no_limit.ensures c.args.set_up.scenario c.in-Some.seed c.requires.in_range.window) in
    let asked : Asked = record { why = c.says_why.result; rows = c.as_slice.result } in
    drill_reports c.args.set_up.scenario c.in_ok-made.made.left within
    c.mode-mode.result (c.mode-mode.ensures ∙ makes_drill (task_mode c.args.request.now.task) makes) asked c.in-Ok.none _ _ c.in-Ok.ensures.report
