use Rattle.std.proofs.Common.{List, ℕ, ◌≡◌, ◌++◌, false, IsTrue, sym, subst}
use Rattle.std.proofs.lemmas.Result.{IfErr-weaker, IfOk-weaker}
use Rattle.tasks.specs.declared.mode.Mode.{Mode}
use Rattle.scenario_values.specs.declared.values.Scenario.{Scenario}
use Rattle.log_lines.specs.JudgedLines.{is_crowded}
use Rattle.log_lines.specs.LogLines.{lines_of}
use Rattle.log_lines.specs.Standing.{StandsFor as JudgeStandsFor}
use Rattle.sessions.specs.Inner.Faults.{EndCause}
use Rattle.tasks.specs.Modes.{focus_of, needs_own, own_ship}
use Rattle.sessions.specs.PlanReport.{IsSituationOn}
use Rattle.sessions.proofs.EndedSessions.{all_kept_at_end, judged_at_end, no_situation}
use Rattle.sessions.proofs.session.Session.situation.Goals as goal

pub situation_at_end-found-requires-clause-keeping : goal.situation_at_end-found-requires-clause-keeping
situation_at_end-found-requires-clause-keeping c =
    let used = c.requires.in_use in
    let ended = c.in-Ok.ensures.ended in
    all_kept_at_end c.end_line.new.self _ (subst (λ (m : Mode). IsTrue (needs_own m)) (sym c.end_line.ensures.mode) c.requires.own) c.judge.ensures.keeping
    ((ended.ended used.fed used.given used.stands).follows.kept)

pub situation_at_end-found-requires-clause-at_end : goal.situation_at_end-found-requires-clause-at_end
situation_at_end-found-requires-clause-at_end c =
    let used = c.requires.in_use in
    let ended = c.in-Ok.ensures.ended in
    (used.fed, judged_at_end c.end_line.new.self c.judge.result.now c.judge.ensures.stands used.fed (used.given ++ ended.more) (ended.ended used.fed used.given used.stands))

pub returns-in-Ok-clause-refused : goal.returns-in-Ok-clause-refused
returns-in-Ok-clause-refused c =
    let judge = c.judge.result.now in
    let ended = c.in-Ok.ensures.ended in
    IfErr-weaker c.situation_at_end-found.result _ _ (λ why cause.
    no_situation c.args.self judge
    (λ fed given stands. subst (λ (s : Scenario). JudgeStandsFor judge s (lines_of fed)) c.end_line.ensures.scenario
    (judged_at_end c.end_line.new.self judge c.judge.ensures.stands fed (given ++ ended.more) (ended.ended fed given stands)))
    c.requires.own why
    (subst (λ (s : Scenario). (log : List ℕ) → JudgeStandsFor judge s (lines_of log) → (mode : Mode) (rows : List ℕ) → focus_of mode ≡ own_ship → EndCause mode rows s log why) c.end_line.ensures.scenario cause))
    c.situation_at_end-found.ensures.cause

pub returns-in-Ok-clause-situation : goal.returns-in-Ok-clause-situation
returns-in-Ok-clause-situation c =
    let ended = c.in-Ok.ensures.ended in
    IfOk-weaker c.situation_at_end-found.result _ _ (λ situation on fed given stands.
    subst (λ (s : Scenario). IsSituationOn s fed situation) c.end_line.ensures.scenario
    (on fed (judged_at_end c.end_line.new.self c.judge.result.now c.judge.ensures.stands fed (given ++ ended.more) (ended.ended fed given stands))))
    c.situation_at_end-found.ensures.situation

pub returns-in-Ok-clause-calm : goal.returns-in-Ok-clause-calm
returns-in-Ok-clause-calm c =
    let ended = c.in-Ok.ensures.ended in
    IfOk-weaker c.situation_at_end-found.result _ _ (λ situation on fed given stands.
    subst (λ (s : Scenario). is_crowded s (lines_of fed) ≡ false) c.end_line.ensures.scenario
    ((judged_at_end c.end_line.new.self c.judge.result.now c.judge.ensures.stands fed (given ++ ended.more) (ended.ended fed given stands)).calm))
    c.situation_at_end-found.ensures.situation
