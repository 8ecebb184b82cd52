use Rattle.std.proofs.Common.{subst, sym}
use Rattle.sessions.specs.Standing.{KeepsEnough}
use Rattle.sessions.proofs.session.Session.forget.Goals as goal

pub returns-in-Some-clause-stands : goal.returns-in-Some-clause-stands
returns-in-Some-clause-stands c = λ fed given stands. record {
  in_range = stands.in_range;
  own = stands.own;
  lines = c.forget.ensures.stands _ _ stands.lines;
  kept = subst (KeepsEnough c.args.self.now.work c.args.self.now.scenario) (sym c.forget.ensures.keeping) (c.in-Some.ensures _ stands.kept);
  taken = stands.taken;
  unrefused = stands.unrefused;
  settled = stands.settled;
  audited = stands.audited;
}
