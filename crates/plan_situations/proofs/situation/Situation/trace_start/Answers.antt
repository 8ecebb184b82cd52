use Rattle.meetings.specs.Traces.{IsContactAt}
use Rattle.plan_situations.specs.Situations.{own_at, target_at}
use Rattle.plan_situations.proofs.FlatList.{none_so_far}
use Rattle.plan_situations.proofs.situation.Situation.trace_start.Goals as goal

pub loop-k-preserved : goal.loop-k-preserved
loop-k-preserved c =
    none_so_far (IsContactAt (own_at c.args.self.now c.args.plan.now) (target_at c.args.self.now c.args.target.now) c.args.self.now.detect.watch) c.loop-k.k c.loop-k.invariant
    (λ h. let t = c.are_in_contact.ensures.1 h in let f = c.if-are_in_contact.false in cc)
