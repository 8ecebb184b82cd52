use Rattle.std.proofs.Common.{◌≡◌, length}
use Rattle.meetings.specs.Standing.{Follows}
use Rattle.meetings.specs.Traces.{steps_from}
use Rattle.plan_situations.specs.Situations.{own_at, target_at, terms_of}
use Rattle.refutations.specs.Inner.Replays.{situation_in, told_to, IsTraceSoFar}
use Rattle.refutations.proofs.trace_so_far.TraceSoFar.follow.Given as goal

abbrev pub invariant-loop-k : goal.invariant-loop-k
invariant-loop-k l = record {
  start : l.self.start ≡ l.fn.self.start;
  plan : l.self.plan ≡ l.fn.self.plan;
  told : told_to l.self ≡ l.k;
  trace : IsTraceSoFar (situation_in l.course) l.course.plan l.target l.self;
  follows : Follows l.follower (terms_of (situation_in l.course)) (steps_from (own_at (situation_in l.course) l.course.plan) (target_at (situation_in l.course) l.target) l.self.start (length l.self.rows.items));
}
