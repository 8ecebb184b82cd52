use Rattle.std.proofs.Common.{◌-◌, map}
use Rattle.meetings.specs.Answers.{answer_of}
use Rattle.meetings.specs.Atoms.{AreAtomRows}
use Rattle.meetings.specs.Standing.{Follows}
use Rattle.meetings.specs.Traces.{steps_from}
use Rattle.plan_situations.specs.Situations.{own_at, target_at, terms_of}
use Rattle.plan_situations.proofs.situation.Situation.trace_rows.Given as goal

abbrev pub invariant-loop-k : goal.invariant-loop-k
invariant-loop-k l = record {
  follows : Follows l.follower (terms_of l.self) (steps_from (own_at l.self l.plan) (target_at l.self l.target) l.start (l.k - l.start));
  are_rows : AreAtomRows (terms_of l.self) (steps_from (own_at l.self l.plan) (target_at l.self l.target) l.start (l.k - l.start)) (map answer_of l.rows.items);
}
