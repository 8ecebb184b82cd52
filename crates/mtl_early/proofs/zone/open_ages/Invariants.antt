use Rattle.std.proofs.Common.{ℕ, ◌<◌, ◌≤◌}
use Rattle.mtl_early.specs.Inner.Zones.{IsBehind}
use Rattle.mtl_early.proofs.zone.open_ages.Given as goal

abbrev pub invariant-loop-open : goal.invariant-loop-open
invariant-loop-open l = record {
  within : l.open ≤ l.size;
  behind : (age : ℕ) → l.open ≤ age → age < l.size → IsBehind l.cells l.at l.reach age;
}

abbrev pub decreases-loop-open : goal.decreases-loop-open
decreases-loop-open l = l.open
