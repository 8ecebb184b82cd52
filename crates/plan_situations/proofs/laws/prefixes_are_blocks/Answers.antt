use Rattle.std.proofs.Common.{arith}
use Rattle.plan_situations.proofs.Blocks.{one_block}
use Rattle.plan_situations.proofs.laws.prefixes_are_blocks.Goals as goal

pub returns : goal.returns
returns c = λ prefix below few.
    let legs = c.legs-legs.ensures.value in
    let some = c.legs-legs.ensures.some in
    let choices = c.choices-choices.ensures.value in
    let some_choice = c.choices-choices.ensures.some in
    one_block c.args.situation.now (omega arith) prefix (omega arith) below few
