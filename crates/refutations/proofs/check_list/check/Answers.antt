use Rattle.std.proofs.lemmas.Result.{IfOk-weaker}
use Rattle.refutations.proofs.check_list.check.Goals as goal

pub returns-clause-refutes : goal.returns-clause-refutes
returns-clause-refutes c =
    IfOk-weaker c.check_each-checked.result _ _ (λ checked right is. c.a_right_list_refutes.ensures c.args.entries.now c.requires.entries (right.0 is)) c.check_each-checked.ensures.right
