use Rattle.std.proofs.Common.{ℕ, ◌++◌, List, Vec, Global}
use Rattle.std.proofs.lemmas.Result.{IfOk-weaker}
use Rattle.early_monitor.specs.declared.alarm.Alarm.{Alarm}
use Rattle.log_lines.specs.Standing.{StandsFor as JudgeStandsFor}
use Rattle.settling.specs.DecidedAlarms.{AreDecidedAlarms}
use Rattle.settling.specs.Inner.WatchedTicks.{watch_taker}
use Rattle.settling.specs.ManySettled.{HaveManySettled}
use Rattle.settling.specs.WatchStanding.{StandsFor}
use Rattle.settling.specs.declared.settled_watch.SettledWatch.{SettledWatch}
use Rattle.settling.proofs.WatchedTicks.{given_are_decided}
use Rattle.settling.proofs.TakenTicks.{few_taken}
use Rattle.settling.proofs.settled_watch.SettledWatch.settle.Goals as goal

pub returns-clause-decided : goal.returns-clause-decided
returns-clause-decided c =
    let scenario = c.args.scenario.now in
    let new : SettledWatch = record { settled = c.settle.new.self } in
    IfOk-weaker c.settle.result
    (λ (items : Vec Alarm Global). (lines more : List (List ℕ)) (given : List Alarm) → StandsFor c.args.self.now scenario lines given
    → JudgeStandsFor c.args.judge.now scenario (lines ++ more) → StandsFor new scenario (lines ++ more) (given ++ items.items))
    (λ (items : Vec Alarm Global). (lines more : List (List ℕ)) (given : List Alarm) → StandsFor c.args.self.now scenario lines given
    → JudgeStandsFor c.args.judge.now scenario (lines ++ more) → AreDecidedAlarms scenario (lines ++ more) (given ++ items.items))
    (λ items stands lines more given before judged.
    given_are_decided scenario c.settle.new.self.taker c.settle.new.self.ticks (lines ++ more) (given ++ items.items) (stands lines more given before judged))
    c.settle.ensures.stands

pub returns-clause-few : goal.returns-clause-few
returns-clause-few c =
    let scenario = c.args.scenario.now in
    let new : SettledWatch = record { settled = c.settle.new.self } in
    IfOk-weaker c.settle.result
    (λ (items : Vec Alarm Global). (lines more : List (List ℕ)) (given : List Alarm) → StandsFor c.args.self.now scenario lines given
    → JudgeStandsFor c.args.judge.now scenario (lines ++ more) → StandsFor new scenario (lines ++ more) (given ++ items.items))
    (λ (items : Vec Alarm Global). (lines more : List (List ℕ)) (given : List Alarm) → StandsFor c.args.self.now scenario lines given
    → JudgeStandsFor c.args.judge.now scenario (lines ++ more) → HaveManySettled scenario (lines ++ more) → ⊥)
    (λ items stands lines more given before judged.
    few_taken scenario (watch_taker c.settle.new.self.taker) c.settle.new.self.ticks (lines ++ more) (given ++ items.items) (stands lines more given before judged))
    c.settle.ensures.stands
