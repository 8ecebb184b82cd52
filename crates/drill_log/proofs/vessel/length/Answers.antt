use Rattle.std.proofs.Common.{◌≡◌, unsigned_abs, sym, ap, ◌∙◌}
use Rattle.fixed_geometry.specs.Plane.{norm2_of}
use Rattle.drill_log.specs.DrillLog.{root_of}
use Rattle.drill_log.proofs.Drawing.{root_is}
use Rattle.drill_log.proofs.vessel.length.Goals as goal

pub returns-clause-value : goal.returns-clause-value
returns-clause-value c =
    let size : c.norm2.result ≡ unsigned_abs (norm2_of c.args.way) = ap unsigned_abs c.norm2.ensures.value in
    sym (root_is c.norm2.result c.isqrt.result c.isqrt.ensures.square_le c.isqrt.ensures.next_square_gt) ∙ ap root_of size
