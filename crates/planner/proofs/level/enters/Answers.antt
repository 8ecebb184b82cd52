use Rattle.std.proofs.Common.{refl}
use Rattle.planner.proofs.level.enters.Goals as goal

pub returns-then-enters_one : goal.returns-then-enters_one
returns-then-enters_one c = (λ t. c.enters_one.ensures c.if-enters_one.true, λ h. refl)
