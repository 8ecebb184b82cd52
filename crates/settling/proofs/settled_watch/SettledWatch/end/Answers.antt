use Rattle.std.proofs.Common.{ℕ, ◌++◌, List, Vec, Global}
use Rattle.std.proofs.lemmas.Result.{IfOk-weaker}
use Rattle.early_monitor.specs.Alarms.{AreAlarms}
use Rattle.early_monitor.specs.declared.alarm.Alarm.{Alarm}
use Rattle.log_lines.specs.SentLines.{sent}
use Rattle.log_lines.specs.Standing.{StandsFor as JudgeStandsFor}
use Rattle.settled_ticks.specs.Sightings.{sighted}
use Rattle.settling.specs.Inner.TakenTicks.{HasTakenAll}
use Rattle.settling.specs.Inner.WatchedTicks.{watch_taker}
use Rattle.settling.specs.ScenarioAudit.{audit_numbers}
use Rattle.settling.specs.WatchStanding.{StandsFor}
use Rattle.settling.proofs.settled_watch.SettledWatch.end.Goals as goal
use Rattle.traces.specs.ManyTraces.{HaveMoreThan}
use Rattle.traces.specs.declared.all_traces.TheConstants.{MOST_TRACES}

pub returns-clause-alarms : goal.returns-clause-alarms
returns-clause-alarms c =
    let scenario = c.args.scenario.now in
    IfOk-weaker c.finish.result
    (λ (rest : Vec Alarm Global). (lines more : List (List ℕ)) (given : List Alarm) → StandsFor c.args.self scenario lines given
    → JudgeStandsFor c.args.judge.now scenario (lines ++ more)
    → HasTakenAll (watch_taker c.finish.new.self.taker) scenario (lines ++ more) (given ++ rest.items))
    (λ (rest : Vec Alarm Global). (lines more : List (List ℕ)) (given : List Alarm) → StandsFor c.args.self scenario lines given
    → JudgeStandsFor c.args.judge.now scenario (lines ++ more)
    → AreAlarms (audit_numbers scenario) (sighted scenario (sent scenario (lines ++ more))) (given ++ rest.items))
    (λ rest all lines more given stands judged. (all lines more given stands judged).stands.alarms)
    c.finish.ensures.all

pub returns-clause-few : goal.returns-clause-few
returns-clause-few c =
    let scenario = c.args.scenario.now in
    IfOk-weaker c.finish.result
    (λ (rest : Vec Alarm Global). (lines more : List (List ℕ)) (given : List Alarm) → StandsFor c.args.self scenario lines given
    → JudgeStandsFor c.args.judge.now scenario (lines ++ more)
    → HasTakenAll (watch_taker c.finish.new.self.taker) scenario (lines ++ more) (given ++ rest.items))
    (λ (rest : Vec Alarm Global). (lines more : List (List ℕ)) (given : List Alarm) → StandsFor c.args.self scenario lines given
    → JudgeStandsFor c.args.judge.now scenario (lines ++ more)
    → HaveMoreThan MOST_TRACES (audit_numbers scenario) (sighted scenario (sent scenario (lines ++ more))) → ⊥)
    (λ rest all lines more given stands judged. (all lines more given stands judged).few)
    c.finish.ensures.all
