use Rattle.fixed_geometry.proofs.Roots.{nearer_above}
use Rattle.fixed_geometry.proofs.point.nearer_root.Goals as goal

pub returns-clause-above : goal.returns-clause-above
returns-clause-above c = nearer_above c.args.n c.args.root c.requires.some
