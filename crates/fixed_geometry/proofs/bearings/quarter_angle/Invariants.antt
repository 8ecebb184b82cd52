use Rattle.std.proofs.Common.{ℕ, ◌-◌, ◌≡◌, ◌<◌, ◌≤◌, true, false}
use Rattle.fixed_geometry.specs.Bearing.{has_turned}
use Rattle.fixed_geometry.proofs.bearings.quarter_angle.Given as goal

abbrev pub invariant-loop-low : goal.invariant-loop-low
invariant-loop-low l = record {
  apart : l.low < l.high;
  within : l.high ≤ 900;
  reached : has_turned l.fn.n l.fn.e l.low ≡ true;
  beyond : (j : ℕ) → l.high ≤ j → j < 900 → has_turned l.fn.n l.fn.e j ≡ false;
}

abbrev pub decreases-loop-low : goal.decreases-loop-low
decreases-loop-low l = l.high - l.low
