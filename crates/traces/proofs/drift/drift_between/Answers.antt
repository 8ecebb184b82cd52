use Rattle.std.proofs.Common.{inr}
use Rattle.traces.proofs.Drifting.{moves_within}
use Rattle.traces.proofs.drift.drift_between.Goals as goal

pub returns-clause-drift : goal.returns-clause-drift
returns-clause-drift c =
    inr (moves_within c.greatest_move.result c.args.before.now c.args.after.now (c.see_the_same.ensures c.if-not-see_the_same.false) c.greatest_move.ensures.each)
