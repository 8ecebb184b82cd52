use Rattle.std.proofs.Common.{ℕ, ◌-◌, ◌≤◌, ◌<◌, length, get_or}
use Rattle.plan_situations.specs.declared.situation.Target.{Target}
use Rattle.refutations.proofs.goodness.index_of.Given as goal

-- the target lies from the one index to before the other, if it is there
abbrev pub invariant-loop-low : goal.invariant-loop-low
invariant-loop-low l = record {
  within : l.high ≤ length l.targets;
  below : (i : ℕ) (d : Target) → i < l.low → (get_or l.targets i d).mmsi < l.mmsi;
  above : (i : ℕ) (d : Target) → l.high ≤ i → i < length l.targets → l.mmsi < (get_or l.targets i d).mmsi;
}

abbrev pub decreases-loop-low : goal.decreases-loop-low
decreases-loop-low l = l.high - l.low
