use Rattle.std.proofs.Common.{arith}
use Rattle.refutations.proofs.HeldReasons.{reasons_agree}
use Rattle.refutations.proofs.laws.plans_agree_on_reasons.Goals as goal

pub returns : goal.returns
returns c = λ prefix plan target reason extends.
    let legs = c.legs-legs.ensures.value in
    let some = c.legs-legs.ensures.some in
    reasons_agree c.args.situation.now (omega arith) prefix plan extends target reason
