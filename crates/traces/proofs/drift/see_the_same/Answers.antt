use Rattle.std.proofs.Common.{arith}
use Rattle.traces.proofs.Drifting.{same_mmsis}
use Rattle.traces.proofs.drift.see_the_same.Goals as goal

pub returns : goal.returns
returns c = λ yes.
    let count = c.if-before-after.false in
    let all = c.loop-index-test.false in
    same_mmsis c.args.before.now c.args.after.now count (λ k d lt. c.loop-index.invariant k d (omega (arith, lt, all)))
