use Rattle.std.proofs.Common.{refl, sym, subst}
use Rattle.std.proofs.lemmas.Result.{IfOk-weaker, IfErr-weaker}
use Rattle.std.specs.Prelude.{IsTrue, IfOk, IfErr}
use Rattle.log_lines.specs.Standing.{keeping_of}
use Rattle.sessions.specs.Inner.AtEnd.{EndsWithAnswer, EndsWithCause, EndsWithReport}
use Rattle.tasks.specs.Modes.{needs_own}
use Rattle.sessions.specs.Standing.{KeepsEnough, mode_by}
use Rattle.sessions.specs.declared.work.Work.{Work}
use Rattle.sessions.proofs.EndedWork.{AtSomeEnd, audit_here, audit_reports, audit_of, drill_here, drill_reports, drill_of, judged_there, plan_reports, points_reports, recheck_reports, watch_here, watch_reports, watch_of}
use Rattle.sessions.proofs.Meeting.{points_done}
use Rattle.sessions.proofs.work.Work.end.Goals as goal

-- ---- what each kind of work asks for

pub end_audit-ending-requires-clause-remembers : goal.end_audit-ending-requires-clause-remembers
end_audit-ending-requires-clause-remembers c = subst (λ (w : Work). KeepsEnough w c.args.scenario (keeping_of c.args.judge.now)) c.in-Audit.is c.requires.keeping

pub end_plan-requires-clause-keeping : goal.end_plan-requires-clause-keeping
end_plan-requires-clause-keeping c = subst (λ (w : Work). KeepsEnough w c.args.scenario (keeping_of c.args.judge.now)) c.in-Plan.is c.requires.keeping

pub end_drill-ending-requires-clause-remembers : goal.end_drill-ending-requires-clause-remembers
end_drill-ending-requires-clause-remembers c = subst (λ (w : Work). KeepsEnough w c.args.scenario (keeping_of c.args.judge.now)) c.in-Drill.is c.requires.keeping

pub end_recheck-requires-clause-keeping : goal.end_recheck-requires-clause-keeping
end_recheck-requires-clause-keeping c = subst (λ (w : Work). KeepsEnough w c.args.scenario (keeping_of c.args.judge.now)) c.in-Recheck.is c.requires.keeping

pub end_watch-ending-requires-clause-remembers : goal.end_watch-ending-requires-clause-remembers
end_watch-ending-requires-clause-remembers c = subst (λ (w : Work). KeepsEnough w c.args.scenario (keeping_of c.args.judge.now)) c.in-Watch.is c.requires.keeping

pub end_audit-ending-requires-clause-at_end : goal.end_audit-ending-requires-clause-at_end
end_audit-ending-requires-clause-at_end c = audit_here c.args.judge.now c.args.scenario c.in-Audit.audit (subst (λ (w : Work). AtSomeEnd w c.args.judge.now c.args.scenario) c.in-Audit.is c.requires.at_end)

pub end_drill-ending-requires-clause-at_end : goal.end_drill-ending-requires-clause-at_end
end_drill-ending-requires-clause-at_end c = drill_here c.args.judge.now c.args.scenario c.in-Drill.audit (subst (λ (w : Work). AtSomeEnd w c.args.judge.now c.args.scenario) c.in-Drill.is c.requires.at_end)

pub end_watch-ending-requires-clause-at_end : goal.end_watch-ending-requires-clause-at_end
end_watch-ending-requires-clause-at_end c = watch_here c.args.judge.now c.args.scenario c.in-Watch.watch (subst (λ (w : Work). AtSomeEnd w c.args.judge.now c.args.scenario) c.in-Watch.is c.requires.at_end)

pub end_plan-requires-clause-at_end : goal.end_plan-requires-clause-at_end
end_plan-requires-clause-at_end c = judged_there c.args.judge.now c.args.scenario c.args.self c.requires.at_end

pub end_plan-requires-clause-own : goal.end_plan-requires-clause-own
end_plan-requires-clause-own c = c.requires.own (subst (λ (w : Work). IsTrue (needs_own (mode_by w))) (sym c.in-Plan.is) refl)

pub end_recheck-requires-clause-at_end : goal.end_recheck-requires-clause-at_end
end_recheck-requires-clause-at_end c = judged_there c.args.judge.now c.args.scenario c.args.self c.requires.at_end

pub end_recheck-requires-clause-own : goal.end_recheck-requires-clause-own
end_recheck-requires-clause-own c = c.requires.own (subst (λ (w : Work). IsTrue (needs_own (mode_by w))) (sym c.in-Recheck.is) refl)

-- ---- what its end comes to

pub returns-in-Points-clause-report : goal.returns-in-Points-clause-report
returns-in-Points-clause-report c =
    subst (λ (w : Work). IfOk c.end_points.result (EndsWithReport w c.args.judge.now c.args.scenario c.args.asked.now c.args.text)) (sym c.in-Points.is)
    (IfOk-weaker c.end_points.result _ _ (λ ending report. points_reports c.args.judge.now c.args.scenario c.args.asked.now c.args.text ending report) c.end_points.ensures.report)

pub returns-in-Points-clause-answer : goal.returns-in-Points-clause-answer
returns-in-Points-clause-answer c =
    subst (λ (w : Work). IfOk c.end_points.result (EndsWithAnswer w c.args.judge.now c.args.scenario c.args.asked.now)) (sym c.in-Points.is)
    (IfOk-weaker c.end_points.result _ _ (λ ending none log given at. rw none (points_done c.args.scenario log at.judged.calm)) c.end_points.ensures.search)

pub returns-in-Points-clause-cause : goal.returns-in-Points-clause-cause
returns-in-Points-clause-cause c =
    subst (λ (w : Work). IfErr c.end_points.result (EndsWithCause w c.args.judge.now c.args.scenario c.args.asked.now)) (sym c.in-Points.is)
    (IfErr-weaker c.end_points.result _ _ (λ why memory log given at. rw memory tt) c.end_points.ensures.memory)

pub returns-in-Audit-clause-report : goal.returns-in-Audit-clause-report
returns-in-Audit-clause-report c =
    subst (λ (w : Work). IfOk c.end_audit-ending.result (EndsWithReport w c.args.judge.now c.args.scenario c.args.asked.now c.args.text)) (sym c.in-Audit.is)
    (IfOk-weaker c.end_audit-ending.result _ _ (λ ending report. audit_reports c.args.judge.now c.args.scenario c.args.asked.now c.args.text ending c.in-Audit.audit report) c.end_audit-ending.ensures.report)

pub returns-in-Audit-clause-answer : goal.returns-in-Audit-clause-answer
returns-in-Audit-clause-answer c =
    subst (λ (w : Work). IfOk c.end_audit-ending.result (EndsWithAnswer w c.args.judge.now c.args.scenario c.args.asked.now)) (sym c.in-Audit.is)
    (IfOk-weaker c.end_audit-ending.result _ _ (λ ending answer log given at. let of = audit_of c.args.judge.now c.args.scenario c.in-Audit.audit log given at in answer log of.0 of.1) c.end_audit-ending.ensures.answer)

pub returns-in-Audit-clause-cause : goal.returns-in-Audit-clause-cause
returns-in-Audit-clause-cause c =
    subst (λ (w : Work). IfErr c.end_audit-ending.result (EndsWithCause w c.args.judge.now c.args.scenario c.args.asked.now)) (sym c.in-Audit.is)
    (IfErr-weaker c.end_audit-ending.result _ _ (λ why cause log given at. let of = audit_of c.args.judge.now c.args.scenario c.in-Audit.audit log given at in cause log of.0 of.1) c.end_audit-ending.ensures.cause)

pub returns-in-Drill-clause-report : goal.returns-in-Drill-clause-report
returns-in-Drill-clause-report c =
    subst (λ (w : Work). IfOk c.end_drill-ending.result (EndsWithReport w c.args.judge.now c.args.scenario c.args.asked.now c.args.text)) (sym c.in-Drill.is)
    (IfOk-weaker c.end_drill-ending.result _ _ (λ ending report. drill_reports c.args.judge.now c.args.scenario c.args.asked.now c.args.text ending c.in-Drill.audit report) c.end_drill-ending.ensures.report)

pub returns-in-Drill-clause-answer : goal.returns-in-Drill-clause-answer
returns-in-Drill-clause-answer c =
    subst (λ (w : Work). IfOk c.end_drill-ending.result (EndsWithAnswer w c.args.judge.now c.args.scenario c.args.asked.now)) (sym c.in-Drill.is)
    (IfOk-weaker c.end_drill-ending.result _ _ (λ ending answer log given at. let of = drill_of c.args.judge.now c.args.scenario c.in-Drill.audit log given at in answer log of.0 of.1) c.end_drill-ending.ensures.answer)

pub returns-in-Drill-clause-cause : goal.returns-in-Drill-clause-cause
returns-in-Drill-clause-cause c =
    subst (λ (w : Work). IfErr c.end_drill-ending.result (EndsWithCause w c.args.judge.now c.args.scenario c.args.asked.now)) (sym c.in-Drill.is)
    (IfErr-weaker c.end_drill-ending.result _ _ (λ why cause log given at. let of = drill_of c.args.judge.now c.args.scenario c.in-Drill.audit log given at in cause log of.0 of.1) c.end_drill-ending.ensures.cause)

pub returns-in-Watch-clause-report : goal.returns-in-Watch-clause-report
returns-in-Watch-clause-report c =
    subst (λ (w : Work). IfOk c.end_watch-ending.result (EndsWithReport w c.args.judge.now c.args.scenario c.args.asked.now c.args.text)) (sym c.in-Watch.is)
    (IfOk-weaker c.end_watch-ending.result _ _ (λ ending report. watch_reports c.args.judge.now c.args.scenario c.args.asked.now c.args.text ending c.in-Watch.watch report) c.end_watch-ending.ensures.report)

pub returns-in-Watch-clause-answer : goal.returns-in-Watch-clause-answer
returns-in-Watch-clause-answer c =
    subst (λ (w : Work). IfOk c.end_watch-ending.result (EndsWithAnswer w c.args.judge.now c.args.scenario c.args.asked.now)) (sym c.in-Watch.is)
    (IfOk-weaker c.end_watch-ending.result _ _ (λ ending answer log given at. let of = watch_of c.args.judge.now c.args.scenario c.in-Watch.watch log given at in answer log of.0 of.1) c.end_watch-ending.ensures.answer)

pub returns-in-Watch-clause-cause : goal.returns-in-Watch-clause-cause
returns-in-Watch-clause-cause c =
    subst (λ (w : Work). IfErr c.end_watch-ending.result (EndsWithCause w c.args.judge.now c.args.scenario c.args.asked.now)) (sym c.in-Watch.is)
    (IfErr-weaker c.end_watch-ending.result _ _ (λ why cause log given at. let of = watch_of c.args.judge.now c.args.scenario c.in-Watch.watch log given at in cause log of.0 of.1) c.end_watch-ending.ensures.cause)

pub returns-in-Plan-clause-report : goal.returns-in-Plan-clause-report
returns-in-Plan-clause-report c =
    subst (λ (w : Work). IfOk c.end_plan.result (EndsWithReport w c.args.judge.now c.args.scenario c.args.asked.now c.args.text)) (sym c.in-Plan.is)
    (IfOk-weaker c.end_plan.result _ _ (λ ending report. plan_reports c.args.judge.now c.args.scenario c.args.asked.now c.args.text ending report) c.end_plan.ensures.report)

pub returns-in-Plan-clause-answer : goal.returns-in-Plan-clause-answer
returns-in-Plan-clause-answer c =
    subst (λ (w : Work). IfOk c.end_plan.result (EndsWithAnswer w c.args.judge.now c.args.scenario c.args.asked.now)) (sym c.in-Plan.is)
    (IfOk-weaker c.end_plan.result _ _ (λ ending answer log given at. answer log at.judged) c.end_plan.ensures.answer)

pub returns-in-Plan-clause-cause : goal.returns-in-Plan-clause-cause
returns-in-Plan-clause-cause c =
    subst (λ (w : Work). IfErr c.end_plan.result (EndsWithCause w c.args.judge.now c.args.scenario c.args.asked.now)) (sym c.in-Plan.is)
    (IfErr-weaker c.end_plan.result _ _ (λ why cause log given at. cause log at.judged) c.end_plan.ensures.cause)

pub returns-in-Recheck-clause-report : goal.returns-in-Recheck-clause-report
returns-in-Recheck-clause-report c =
    subst (λ (w : Work). IfOk c.end_recheck.result (EndsWithReport w c.args.judge.now c.args.scenario c.args.asked.now c.args.text)) (sym c.in-Recheck.is)
    (IfOk-weaker c.end_recheck.result _ _ (λ ending report. recheck_reports c.args.judge.now c.args.scenario c.args.asked.now c.args.text ending report) c.end_recheck.ensures.report)

pub returns-in-Recheck-clause-answer : goal.returns-in-Recheck-clause-answer
returns-in-Recheck-clause-answer c =
    subst (λ (w : Work). IfOk c.end_recheck.result (EndsWithAnswer w c.args.judge.now c.args.scenario c.args.asked.now)) (sym c.in-Recheck.is)
    (IfOk-weaker c.end_recheck.result _ _ (λ ending answer log given at. answer log at.judged) c.end_recheck.ensures.answer)

pub returns-in-Recheck-clause-cause : goal.returns-in-Recheck-clause-cause
returns-in-Recheck-clause-cause c =
    subst (λ (w : Work). IfErr c.end_recheck.result (EndsWithCause w c.args.judge.now c.args.scenario c.args.asked.now)) (sym c.in-Recheck.is)
    (IfErr-weaker c.end_recheck.result _ _ (λ why cause log given at. cause log at.judged) c.end_recheck.ensures.cause)
