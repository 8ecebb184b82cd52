use Rattle.std.proofs.Common.{ℕ, ◌++◌, List, Vec, Global}
use Rattle.std.proofs.lemmas.Result.{IfOk-weaker}
use Rattle.audit_rows.specs.declared.row.Row.{Row}
use Rattle.log_lines.specs.Standing.{StandsFor as JudgeStandsFor}
use Rattle.settling.specs.DecidedRows.{AreDecided}
use Rattle.settling.specs.Inner.AuditedTicks.{audit_taker}
use Rattle.settling.specs.ManySettled.{HaveManySettled}
use Rattle.settling.specs.Standing.{StandsFor}
use Rattle.settling.specs.declared.settled_audit.SettledAudit.{SettledAudit}
use Rattle.settling.proofs.AuditedTicks.{given_are_decided}
use Rattle.settling.proofs.TakenTicks.{few_taken}
use Rattle.settling.proofs.settled_audit.SettledAudit.settle.Goals as goal

pub returns-clause-decided : goal.returns-clause-decided
returns-clause-decided c =
    let scenario = c.args.scenario.now in
    let new : SettledAudit = record { settled = c.settle.new.self } in
    IfOk-weaker c.settle.result
    (λ (items : Vec Row Global). (lines more : List (List ℕ)) (given : List Row) → StandsFor c.args.self.now scenario lines given
    → JudgeStandsFor c.args.judge.now scenario (lines ++ more) → StandsFor new scenario (lines ++ more) (given ++ items.items))
    (λ (items : Vec Row Global). (lines more : List (List ℕ)) (given : List Row) → StandsFor c.args.self.now scenario lines given
    → JudgeStandsFor c.args.judge.now scenario (lines ++ more) → AreDecided scenario (lines ++ more) (given ++ items.items))
    (λ items stands lines more given before judged.
    given_are_decided scenario c.settle.new.self.taker c.settle.new.self.ticks (lines ++ more) (given ++ items.items) (stands lines more given before judged))
    c.settle.ensures.stands

pub returns-clause-few : goal.returns-clause-few
returns-clause-few c =
    let scenario = c.args.scenario.now in
    let new : SettledAudit = record { settled = c.settle.new.self } in
    IfOk-weaker c.settle.result
    (λ (items : Vec Row Global). (lines more : List (List ℕ)) (given : List Row) → StandsFor c.args.self.now scenario lines given
    → JudgeStandsFor c.args.judge.now scenario (lines ++ more) → StandsFor new scenario (lines ++ more) (given ++ items.items))
    (λ (items : Vec Row Global). (lines more : List (List ℕ)) (given : List Row) → StandsFor c.args.self.now scenario lines given
    → JudgeStandsFor c.args.judge.now scenario (lines ++ more) → HaveManySettled scenario (lines ++ more) → ⊥)
    (λ items stands lines more given before judged.
    few_taken scenario (audit_taker c.settle.new.self.taker) c.settle.new.self.ticks (lines ++ more) (given ++ items.items) (stands lines more given before judged))
    c.settle.ensures.stands
