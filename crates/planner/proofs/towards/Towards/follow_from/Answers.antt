use Rattle.std.proofs.Common.{◌+◌, arith}
use Rattle.plan_situations.specs.Prefixes.{reached}
use Rattle.planner.proofs.Following.{from_copy}
use Rattle.planner.proofs.towards.Towards.follow_from.Goals as goal

pub follow-requires-clause-ready : goal.follow-requires-clause-ready
follow-requires-clause-ready c = c.copy_from.ensures.ready c.args.self.now.program.now c.requires.from

pub follow-requires-clause-early : goal.follow-requires-clause-early
follow-requires-clause-early c =
    let fed = c.copy_from.ensures.fed in
    let since = c.copy_from.ensures.since in
    let few = c.requires.early.fed in
    let fewer = c.requires.early.since in
    record { fed = omega arith; since = omega arith }

pub returns-clause-followed : goal.returns-clause-followed
returns-clause-followed c =
    let s = c.args.self.now.situation.now in
    from_copy c.args.self.now c.args.leg.now.plan (reached s c.args.leg.now.index) (reached s (c.args.leg.now.index + 1)) c.args.from.now c.copy_from.new.self c.follow.new.watched c.follow.result
    c.copy_from.ensures c.follow.ensures.followed
