use Rattle.plan_situations.proofs.ForCallers.{some_plan}
use Rattle.refutations.proofs.course.Course.first.Goals as goal

pub plan-plan-requires : goal.plan-plan-requires
plan-plan-requires c = some_plan c.args.situation.now c.requires.some_choice
