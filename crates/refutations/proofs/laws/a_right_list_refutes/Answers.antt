use Rattle.std.proofs.Common.{arith}
use Rattle.refutations.proofs.Blocks.{right_refutes}
use Rattle.refutations.proofs.laws.a_right_list_refutes.Goals as goal

pub returns : goal.returns
returns c = λ entries all right.
    let choices = c.choices-choices.ensures.value in
    let some = c.choices-choices.ensures.some in
    right_refutes c.args.situation.now (omega arith) c.prefixes_are_blocks.ensures c.failing_has_a_reason.ensures entries all right
