use Rattle.std.proofs.Common.{arith}
use Rattle.plan_situations.proofs.Moving.{reached}
use Rattle.plan_situations.proofs.near.point_now.Goals as goal

pub returns-clause-near : goal.returns-clause-near
returns-clause-near c =
    let before = c.requires.fresh.before in
    reached c.args.latest.now c.args.now c.predicted.result.point c.requires.accepted.point c.requires.fresh
    (c.predicted.ensures.moves c.args.latest.now.time (omega arith) before)
