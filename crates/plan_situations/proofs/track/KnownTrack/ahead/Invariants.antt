use Rattle.std.proofs.Common.{◌≡◌, map, Some}
use Rattle.std.specs.List.{range_with_len}
use Rattle.plan_situations.specs.Inner.Facts.{IsKnownBelow, predicted_at}
use Rattle.plan_situations.proofs.track.KnownTrack.ahead.Given as goal

-- the states at the first ticks from now on
abbrev pub invariant-loop-tick : goal.invariant-loop-tick
invariant-loop-tick l = record {
  made : l.list.items ≡ map (predicted_at l.self) (range_with_len 0 l.tick);
  known : IsKnownBelow l.tick (λ k. Some (predicted_at l.self k));
}
