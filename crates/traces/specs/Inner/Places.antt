-- Where a vessel stands among those seen.
use Rattle.std.specs.Prelude.{ℕ, ◌≡◌, ◌<◌, length, get_or}
use Rattle.motion.specs.declared.leg.TickState.{TickState}
use Rattle.traces.specs.Audited.{SeenVessels}

-- If she is among them, she stands at this place.
abbrev pub IsPlaceOf : SeenVessels → ℕ → ℕ → Type 0
IsPlaceOf seen mmsi place = (k : ℕ) (d : ℕ × TickState) → k < length seen → (get_or seen k d).0 ≡ mmsi → k ≡ place
