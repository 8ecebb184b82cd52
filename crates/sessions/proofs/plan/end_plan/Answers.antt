use Rattle.std.proofs.Common.{Bool, [], Ok, refl, subst, sym}
use Rattle.std.proofs.lemmas.Result.{IfErr-weaker, IfOk-weaker}
use Rattle.tasks.specs.declared.mode.Mode.TheVariants as mode
use Rattle.log_lines.specs.LogLines.{lines_of}
use Rattle.log_lines.specs.SentLines.{sent}
use Rattle.sessions.specs.Endings.{IsAnswerOf}
use Rattle.sessions.specs.Inner.Faults.{EndCause}
use Rattle.sessions.specs.PlanReport.{plan_text}
use Rattle.sessions.specs.declared.session_fault.SessionFault.{SessionFault}
use Rattle.sessions.proofs.AtEnds.{few_messages}
use Rattle.sessions.proofs.Seeking.{are_reasons, own_cause, plan_answer}
use Rattle.sessions.proofs.plan.end_plan.Goals as goal

pub write_search-requires-clause-stands : goal.write_search-requires-clause-stands
write_search-requires-clause-stands c =
    let log = c.requires.at_end in
    (sent c.args.scenario (lines_of log.0), c.book.ensures.stands c.args.scenario (lines_of log.0) log.1)

pub returns-in-Err-clause-cause : goal.returns-in-Err-clause-cause
returns-in-Err-clause-cause c = λ log stands.
    subst (λ (f : SessionFault). EndCause mode.Plan [] c.args.scenario log f) (sym c.into.ensures)
    (own_cause c.args.scenario log stands.calm mode.Plan [] refl c.requires.own c.in-Err.fault
    (c.in-Err.ensures.cause (sent c.args.scenario (lines_of log)) (c.book.ensures.stands c.args.scenario (lines_of log) stands)))

pub returns-in-Ok-clause-answer : goal.returns-in-Ok-clause-answer
returns-in-Ok-clause-answer c =
    let scenario = c.args.scenario in
    IfOk-weaker c.plan_report-ending.result _ _ (λ ending none log stands.
    subst (λ (b : Bool). IsAnswerOf mode.Plan [] scenario log (Ok b)) (sym none)
    (plan_answer scenario log stands.calm c.write_search.new.text [] _ c.in-Ok.found.none
    (c.in-Ok.ensures.sought (sent scenario (lines_of log)) [] (few_messages c.args.judge.now scenario (lines_of log) stands) (c.book.ensures.stands scenario (lines_of log) stands) c.new-text.ensures)))
    c.plan_report-ending.ensures.none

pub returns-in-Ok-clause-report : goal.returns-in-Ok-clause-report
unfolding plan_text
returns-in-Ok-clause-report c =
    let scenario = c.args.scenario in
    IfOk-weaker c.plan_report-ending.result _ _ (λ ending report log stands.
    let lines = lines_of log in
    let messages = sent scenario lines in
    let found = c.in-Ok.ensures.sought messages [] (few_messages c.args.judge.now scenario lines stands) (c.book.ensures.stands scenario lines stands) c.new-text.ensures in
    let (reasons, are, is) = report scenario lines _ stands found.has in
    record {
      own = found.own;
      ready = found.ready;
      is_own = record { needed = found.needed; is_ready = found.is_ready };
      manoeuvre = found.manoeuvre;
      is_first = found.is_first;
      reasons = reasons;
      are_reasons = are_reasons c.args.why c.in-Ok.found.none _ _ found.manoeuvre reasons found.is_of found.told are;
      is = is;
    }) c.plan_report-ending.ensures.report

pub returns-in-Ok-clause-cause : goal.returns-in-Ok-clause-cause
returns-in-Ok-clause-cause c =
    IfErr-weaker c.plan_report-ending.result _ _ (λ why memory log stands. subst (λ (f : SessionFault). EndCause mode.Plan [] c.args.scenario log f) (sym memory) tt) c.plan_report-ending.ensures.memory
