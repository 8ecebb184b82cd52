use Rattle.std.proofs.Common.{ℕ, ◌<◌, map}
use Rattle.meetings.specs.Answers.{answer_of}
use Rattle.plan_situations.specs.Inner.FirstBroken.{IsRuleBroken}
use Rattle.plan_situations.proofs.situation.Situation.first_broken.Given as goal

abbrev pub invariant-loop-position : goal.invariant-loop-position
invariant-loop-position l = (i rule : ℕ) → i < l.position → ¬ IsRuleBroken l.self.rules l.cut (map answer_of l.rows) i rule
