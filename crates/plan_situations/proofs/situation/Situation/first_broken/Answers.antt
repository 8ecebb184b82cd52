use Rattle.std.proofs.Common.{map, arith}
use Rattle.std.proofs.lemmas.List.{length-map}
use Rattle.meetings.specs.Answers.{answer_of}
use Rattle.plan_situations.proofs.FirstBroken.{none_at_all}
use Rattle.plan_situations.proofs.situation.Situation.first_broken.Goals as goal

pub returns-clause-first : goal.returns-clause-first
returns-clause-first c =
    none_at_all c.args.self.now.rules c.args.cut (map answer_of c.args.rows.now)
    (λ i rule lt. c.loop-position.invariant i rule (omega (arith, length-map c.args.rows.now answer_of)))
