use Rattle.plan_situations.specs.Inner.Runs.{HasGone}
use Rattle.plan_situations.proofs.prediction.predicted.Given as goal

abbrev pub invariant-loop-change : goal.invariant-loop-change
invariant-loop-change l = HasGone l.last l.changes l.now l.time l.change-index l.run
