use Rattle.plan_situations.proofs.Safe.{safe}
use Rattle.plan_situations.proofs.laws.what_passes_is_safe.Goals as goal

pub returns : goal.returns
returns c = λ plan passes. safe c.args.situation.now plan passes
