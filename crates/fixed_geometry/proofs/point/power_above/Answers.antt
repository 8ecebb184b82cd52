use Rattle.fixed_geometry.proofs.Roots.{power_above}
use Rattle.fixed_geometry.proofs.point.power_above.Goals as goal

pub returns-clause-above : goal.returns-clause-above
returns-clause-above c = power_above c.args.n c.ilog2.result c.ilog2.ensures.next_power_gt c.ilog2.ensures.bound
