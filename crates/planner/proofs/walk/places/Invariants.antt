use Rattle.std.proofs.Common.{◌≡◌, ℕ, ◌<◌, length, get_or}
use Rattle.planner.specs.Inner.Levels.{HasPlaces}
use Rattle.planner.specs.declared.level.Level.{Level}
use Rattle.planner.proofs.walk.places.Given as goal

abbrev pub invariant-loop-leg : goal.invariant-loop-leg
invariant-loop-leg l = record {
  count : length l.below.items ≡ l.leg;
  each : (i : ℕ) (x : Level) → i < length l.below.items → HasPlaces l.situation l.basis i (get_or l.below.items i x);
}
