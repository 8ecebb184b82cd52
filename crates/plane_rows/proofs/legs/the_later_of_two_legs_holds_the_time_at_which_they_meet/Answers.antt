use Rattle.std.proofs.Common.{lit<, lit≤}
use Rattle.plane_rows.proofs.legs.the_later_of_two_legs_holds_the_time_at_which_they_meet.Goals as goal

pub push-requires-clause-leg : goal.push-requires-clause-leg
push-requires-clause-leg g c = rw c.leg.ensures (record {
  lasts = lit< tt;
  short = lit≤ tt;
  begins = record { x = lit≤ tt; y = lit≤ tt };
  ends = record { x = lit≤ tt; y = lit≤ tt };
  slow = record { le = tt };
  direction = lit< tt;
  speed = tt;
})

pub push-requires-2-clause-leg : goal.push-requires-2-clause-leg
push-requires-2-clause-leg g c = rw c.leg-2.ensures (record {
  lasts = lit< tt;
  short = lit≤ tt;
  begins = record { x = lit≤ tt; y = lit≤ tt };
  ends = record { x = lit≤ tt; y = lit≤ tt };
  slow = record { le = tt };
  direction = lit< tt;
  speed = tt;
})

pub push-requires-2-clause-after : goal.push-requires-2-clause-after
push-requires-2-clause-after g c = rw (c.leg-2.ensures, c.in_ok-push.ensures.ok, c.new-legs.ensures, c.leg.ensures) (lit≤ tt)
