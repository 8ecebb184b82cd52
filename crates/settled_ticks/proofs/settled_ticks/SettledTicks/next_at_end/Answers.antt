use Rattle.std.proofs.Common.{arith}
use Rattle.settled_ticks.proofs.settled_ticks.SettledTicks.next_at_end.Goals as goal

pub returns-clause-handed : goal.returns-clause-handed
returns-clause-handed c = λ more.
    let now = c.in_ok-hand_out.ensures in
    record {
      next = now.next;
      within = omega arith;
      ascending = now.ascending;
      placed = now.placed;
      seen = now.seen;
      moves = now.moves;
    }
