use Rattle.std.proofs.Common.{◌+◌, ◌*◌, ◌<◌, ◌≤◌, ◌^◌}
use Rattle.fixed_geometry.proofs.point.isqrt.Given as goal

abbrev pub invariant-loop-next : goal.invariant-loop-next
invariant-loop-next l = record {
  above : l.n < (l.root + 1) * (l.root + 1);
  some : 0 < l.root;
  small : l.root ≤ 2 ^ 64;
  next_above : l.n < (l.next + 1) * (l.next + 1);
  next_some : 0 < l.next;
  last : l.root ≤ l.next → l.root * l.root ≤ l.n;
}

abbrev pub decreases-loop-next : goal.decreases-loop-next
decreases-loop-next l = l.root
