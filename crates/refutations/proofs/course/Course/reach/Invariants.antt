use Rattle.std.proofs.Common.{◌≡◌, ◌≤◌, length}
use Rattle.refutations.specs.Inner.Replays.{situation_in, AreBeginnings}
use Rattle.refutations.proofs.course.Course.reach.Given as goal

abbrev pub invariant-loop-k : goal.invariant-loop-k
invariant-loop-k l = record {
  situation : l.self.situation ≡ l.fn.self.situation;
  plan : l.self.plan ≡ l.fn.self.plan;
  path : l.self.path ≡ l.fn.self.path;
  legs : length l.self.beginnings.items ≡ length l.fn.self.beginnings.items;
  beginnings : AreBeginnings (situation_in l.self) l.self.plan l.k l.self.beginnings.items;
}
