use Rattle.std.proofs.Common.{lit<, lit≤}
use Rattle.plane_rows.proofs.legs.points_between_reports_are_rounded.Goals as goal

pub push-requires-clause-leg : goal.push-requires-clause-leg
push-requires-clause-leg g c = rw c.leg.ensures (record {
  lasts = lit< tt;
  short = lit≤ tt;
  begins = record { x = lit≤ tt; y = lit≤ tt };
  ends = record { x = lit≤ tt; y = lit≤ tt };
  slow = record { le = tt };
  direction = lit< tt;
  speed = tt;
})
