use Rattle.std.proofs.Common.{subst}
use Rattle.motion.specs.Inner.LegOrder.{AreLegs}
use Rattle.motion.proofs.Joined.{moves_little}
use Rattle.motion.proofs.legs.Legs.moves_little.Goals as goal

pub returns : goal.returns
returns c = moves_little c.args.gap c.args.self.now (subst AreLegs c.self.view_is c.self.invariant) c.requires
