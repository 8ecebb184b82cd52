use Rattle.std.proofs.Common.{◌+◌, false}
use Rattle.planner.specs.Inner.Watching.{IsEarly, IsFollowed, IsReady}
use Rattle.plan_situations.specs.Prefixes.{reached}
use Rattle.planner.proofs.towards.Towards.follow.Given as goal

abbrev pub invariant-loop-j : goal.invariant-loop-j
invariant-loop-j l = record {
  ready : IsReady l.self.program.now l.watched;
  early : IsEarly (reached l.self.situation.now l.leg.index + l.j) l.watched;
  followed : IsFollowed l.self l.leg.plan (reached l.self.situation.now l.leg.index) (reached l.self.situation.now l.leg.index + l.j) l.fn.watched l.watched false;
}
