use Rattle.std.proofs.Common.{◌++◌, Ok, Err, refl, subst₂}
use Rattle.std.proofs.lemmas.Result.{IfOk-weaker, IfErr-weaker}
use Rattle.tasks.specs.declared.mode.Mode.{Mode}
use Rattle.scenario_values.specs.declared.values.Scenario.{Scenario}
use Rattle.sessions.specs.Endings.{IsAnswerOf, IsAnswerTo, IsReport}
use Rattle.sessions.specs.Inner.Faults.{EndCause}
use Rattle.sessions.specs.Standing.{mode_of, session_scenario}
use Rattle.sessions.specs.Tasks.{task_by}
use Rattle.sessions.proofs.EndedSessions.{all_causes, at_end}
use Rattle.sessions.proofs.Feeding.{unless_weaker}
use Rattle.sessions.proofs.session.Session.finish.Goals as goal

pub returns-in-Err-clause-refused : goal.returns-in-Err-clause-refused
returns-in-Err-clause-refused c =
    unless_weaker c.in-Err.why _ _ (λ each fed given stands. each fed given stands (task_by (mode_of c.args.self) c.args.asked.now) refl) c.in-Err.ensures.refused

pub end-ending-requires-clause-keeping : goal.end-ending-requires-clause-keeping
end-ending-requires-clause-keeping c =
    let used = c.requires.in_use in
    let ended = c.in-Ok.ensures.ended in
    rw c.judge.ensures.keeping ((ended.ended used.fed used.given used.stands).follows.kept)

pub end-ending-requires-clause-at_end : goal.end-ending-requires-clause-at_end
end-ending-requires-clause-at_end c =
    let used = c.requires.in_use in
    let ended = c.in-Ok.ensures.ended in
    (used.fed, used.given ++ ended.more, at_end c.end_line.new.self c.judge.result.now c.judge.ensures.stands used.fed (used.given ++ ended.more) (ended.ended used.fed used.given used.stands))

pub returns-in-Ok-clause-report : goal.returns-in-Ok-clause-report
returns-in-Ok-clause-report c =
    let ended = c.in-Ok.ensures.ended in
    IfOk-weaker c.end-ending.result _ _ (λ ending report fed given stands.
    subst₂ (λ (m : Mode) (s : Scenario). IsReport m c.args.asked.now.why c.args.asked.now.rows.now s fed (given ++ ending.bytes.items)) c.end_line.ensures.mode c.end_line.ensures.scenario
    (report fed given ended.more ended.has (at_end c.end_line.new.self c.judge.result.now c.judge.ensures.stands fed (given ++ ended.more) (ended.ended fed given stands)))) c.end-ending.ensures.report

pub returns-in-Ok-clause-answer : goal.returns-in-Ok-clause-answer
returns-in-Ok-clause-answer c =
    let ended = c.in-Ok.ensures.ended in
    IfOk-weaker c.end-ending.result _ _ (λ ending answer fed given stands.
    subst₂ (λ (m : Mode) (s : Scenario). IsAnswerOf m c.args.asked.now.rows.now s fed (Ok ending.none)) c.end_line.ensures.mode c.end_line.ensures.scenario
    (answer fed (given ++ ended.more) (at_end c.end_line.new.self c.judge.result.now c.judge.ensures.stands fed (given ++ ended.more) (ended.ended fed given stands)))) c.end-ending.ensures.answer

pub returns-in-Ok-clause-refused : goal.returns-in-Ok-clause-refused
returns-in-Ok-clause-refused c =
    let ended = c.in-Ok.ensures.ended in
    IfErr-weaker c.end-ending.result _ _ (λ why cause.
    all_causes why c.args.self (λ fed. IsAnswerTo (task_by (mode_of c.args.self) c.args.asked.now) (session_scenario c.args.self) fed (Err why)) (λ fed given stands.
    subst₂ (λ (m : Mode) (s : Scenario). EndCause m c.args.asked.now.rows.now s fed why) c.end_line.ensures.mode c.end_line.ensures.scenario
    (cause fed (given ++ ended.more) (at_end c.end_line.new.self c.judge.result.now c.judge.ensures.stands fed (given ++ ended.more) (ended.ended fed given stands))))) c.end-ending.ensures.cause
