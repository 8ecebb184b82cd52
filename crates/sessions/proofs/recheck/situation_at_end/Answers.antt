use Rattle.std.proofs.Common.{ap, Err}
use Rattle.outside.proofs.ForCallers.{err_cause}
use Rattle.log_lines.specs.JudgedLines.{numbers_of}
use Rattle.log_lines.specs.LogLines.{lines_of}
use Rattle.log_lines.specs.SentLines.{sent}
use Rattle.plan_situations.specs.Preparing.{IsPrepared}
use Rattle.sessions.specs.PlanReport.{log_messages}
use Rattle.sessions.proofs.Rechecking.{prepared_on}
use Rattle.sessions.proofs.Seeking.{own_cause, own_of, search_cause}
use Rattle.sessions.proofs.recheck.situation_at_end.Goals as goal

pub prepare-requires-clause-stands : goal.prepare-requires-clause-stands
prepare-requires-clause-stands c =
    let at = c.requires.at_end in
    (numbers_of c.args.scenario, sent c.args.scenario (lines_of at.0), c.book.ensures.stands c.args.scenario (lines_of at.0) at.1)

pub returns-in_err-prepared-clause-cause : goal.returns-in_err-prepared-clause-cause
returns-in_err-prepared-clause-cause c =
    let scenario = c.args.scenario in
    let fault = c.in_err-prepared.field-0.0 in
    err_cause _ _ _ c.from_residual.ensures.1 (λ log judged m rows looks.
    let stands = c.book.ensures.stands scenario (lines_of log) judged in
    own_cause scenario log judged.calm m rows looks c.requires.own fault
    (search_cause scenario (log_messages scenario log) fault
    (λ why is. c.in_err-prepared.ensures.unready why (ap Err is) (numbers_of scenario) (log_messages scenario log) stands)
    (λ is. c.in_err-prepared.ensures.many (ap Err is) (numbers_of scenario) (log_messages scenario log) stands)))

pub returns-clause-situation : goal.returns-clause-situation
returns-clause-situation c = λ log judged.
    prepared_on c.args.scenario log c.in_ok-prepared.prepared c.requires.own
    (c.in_ok-prepared.ensures.prepared (numbers_of c.args.scenario) (log_messages c.args.scenario log) (c.book.ensures.stands c.args.scenario (lines_of log) judged))

pub returns-clause-sound : goal.returns-clause-sound
returns-clause-sound c =
    let at = c.requires.at_end in
    let numbers = numbers_of c.args.scenario in
    let messages = sent c.args.scenario (lines_of at.0) in
    let is = c.in_ok-prepared.ensures.prepared numbers messages (c.book.ensures.stands c.args.scenario (lines_of at.0) at.1) in
    let own = own_of c.args.scenario.own (λ own. IsPrepared numbers messages c.args.scenario own c.in_ok-prepared.prepared) c.requires.own is in
    own.holds.sound
