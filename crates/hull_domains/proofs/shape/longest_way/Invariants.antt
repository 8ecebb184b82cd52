use Rattle.std.proofs.Common.{◌≡◌, ◌≤◌}
use Rattle.hull_domains.specs.Inner.Ways.{longest_way}
use Rattle.hull_domains.proofs.shape.longest_way.Given as goal

abbrev pub invariant-loop-k : goal.invariant-loop-k
invariant-loop-k l = record {
  value : l.longest ≡ longest_way l.vertices l.k;
  short : l.longest ≤ 4000;
}
