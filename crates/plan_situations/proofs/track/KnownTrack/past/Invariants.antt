use Rattle.std.proofs.Common.{◌≡◌, map}
use Rattle.std.specs.List.{range_with_len}
use Rattle.plan_situations.specs.Inner.Facts.{IsKnownBelow, known_at}
use Rattle.plan_situations.proofs.track.KnownTrack.past.Given as goal

-- the states at the first ticks
abbrev pub invariant-loop-tick : goal.invariant-loop-tick
invariant-loop-tick l = record {
  made : l.list.items ≡ map (known_at l.self) (range_with_len 0 l.tick);
  known : IsKnownBelow l.tick (known_at l.self);
}
