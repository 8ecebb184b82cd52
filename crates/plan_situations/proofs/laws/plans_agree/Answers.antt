use Rattle.std.proofs.Common.{arith}
use Rattle.plan_situations.proofs.Agreeing.{entries_agree, rules_agree}
use Rattle.plan_situations.proofs.laws.plans_agree.Goals as goal

pub returns-clause-entries : goal.returns-clause-entries
returns-clause-entries c = λ prefix plan target step extends lt.
    let legs = c.legs-legs.ensures.value in
    let some = c.legs-legs.ensures.some in
    entries_agree c.args.situation.now (omega arith) prefix plan extends target step lt

pub returns-clause-rules : goal.returns-clause-rules
returns-clause-rules c = λ prefix plan target step rule extends.
    let legs = c.legs-legs.ensures.value in
    let some = c.legs-legs.ensures.some in
    rules_agree c.args.situation.now (omega arith) prefix plan extends target step rule
