use Rattle.std.proofs.Common.{◌∙◌}
use Rattle.std.proofs.lemmas.Result.{IfErr-weaker, IfOk-weaker}
use Rattle.outside.proofs.ForCallers.{err_cause}
use Rattle.colregs_program.proofs.StreamedReports.{cause_by, for_itself, none_begun, reports_by}
use Rattle.colregs_program.proofs.streaming.write_report.Goals as goal

pub returns-in_err-session-clause-cause : goal.returns-in_err-session-clause-cause
returns-in_err-session-clause-cause g c =
    err_cause c.from_residual.result _ _ c.from_residual.ensures.1 (none_begun c.args.mode c.args.scenario (g.S.Source.left c.args.log.now) (g.K.Sink.contents c.args.out.now))

pub returns-in-Err-clause-cause : goal.returns-in-Err-clause-cause
returns-in-Err-clause-cause g c =
    cause_by _ _ c.args.asked.now _ _ _ _ _ _ c.in-Err.fault c.in_ok-session.ensures.mode
    (c.in_ok-session.ensures.scenario ∙ for_itself c.args.mode c.args.scenario c.requires.unneeded) (c.in-Err.ensures.cause c.args.asked.now)

pub write_end-requires-clause-in_use : goal.write_end-requires-clause-in_use
write_end-requires-clause-in_use g c =
    let has = c.in-Ok.ensures.written in
    record { fed = has.fed; given = has.given; stands = has.stands }

pub returns-in-Ok-clause-report : goal.returns-in-Ok-clause-report
returns-in-Ok-clause-report g c =
    let has = c.in-Ok.ensures.written in
    let end = c.in-Ok.ensures.end in
    IfOk-weaker c.write_end.result _ _ (λ none report. reports_by _ _ c.args.asked.now _ _ _ _ _ none (c.in-Ok.ensures.mode ∙ c.in_ok-session.ensures.mode)
    (c.in-Ok.ensures.scenario ∙ c.in_ok-session.ensures.scenario ∙ for_itself c.args.mode c.args.scenario c.requires.unneeded) (report _ _ _ end has)) c.write_end.ensures.report

pub returns-in-Ok-clause-cause : goal.returns-in-Ok-clause-cause
returns-in-Ok-clause-cause g c =
    let has = c.in-Ok.ensures.written in
    let end = c.in-Ok.ensures.end in
    IfErr-weaker c.write_end.result _ _ (λ fault cause. cause_by _ _ c.args.asked.now _ _ _ _ _ _ fault (c.in-Ok.ensures.mode ∙ c.in_ok-session.ensures.mode)
    (c.in-Ok.ensures.scenario ∙ c.in_ok-session.ensures.scenario ∙ for_itself c.args.mode c.args.scenario c.requires.unneeded) (cause _ _ _ end has)) c.write_end.ensures.cause
