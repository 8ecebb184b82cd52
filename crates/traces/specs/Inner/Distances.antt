-- How far apart two vessels are, and how long they stay so.
use Rattle.std.specs.Prelude.{ℕ, ◌≡◌, ◌+◌, ◌*◌, ◌^◌, ◌<◌, ◌≤◌, ◌⊎◌, ◌-ℤ◌, ⊤, Option, None, Some, map, max, unsigned_abs}
use Rattle.fixed_geometry.specs.declared.point.Point.{Point}
use Rattle.motion.specs.declared.leg.TickState.{TickState}
use Rattle.traces.specs.Audited.{SeenVessels, state_in}
use Rattle.traces.specs.declared.followed_trace.FollowedTrace.{FollowedTrace}

-- the greater of the distances of two points in their two components
abbrev pub component_distance_of : Point → Point → ℕ
component_distance_of a b = max (unsigned_abs (b.x -ℤ a.x)) (unsigned_abs (b.y -ℤ a.y))

-- ---- from one tick to the next

-- The same vessels are seen at both ticks.
abbrev pub SeeTheSame : SeenVessels → SeenVessels → Type 0
SeeTheSame before after = map (λ (vessel : ℕ × TickState). vessel.0) before ≡ map (λ (vessel : ℕ × TickState). vessel.0) after

-- If a vessel is seen at the first tick, she is seen at the second, and moves by at most half of the drift in each component.
abbrev pub MovesWithin : ℕ → Option TickState → Option TickState → Type 0
MovesWithin drift None after = ⊤
MovesWithin drift (Some before) None = ⊥
MovesWithin drift (Some before) (Some after) = 2 * component_distance_of before.point after.point ≤ drift

-- The drift from one tick to the next: each vessel moves by at most half of it in each component. If the vessels seen are not the same at
-- both ticks, the drift is 2^36, which is more than two vessels can be apart.
abbrev pub IsDrift : ℕ → SeenVessels → SeenVessels → Type 0
IsDrift drift before after = (drift ≡ 2 ^ 36) ⊎ ((mmsi : ℕ) → MovesWithin drift (state_in mmsi before) (state_in mmsi after))

-- ---- two vessels that are far apart

-- Both are seen, and at least `watch + limit - drift` apart in one component.
abbrev pub AreFar : ℕ → ℕ → ℕ → Option TickState → Option TickState → Type 0
AreFar watch drift limit (Some a) (Some b) = watch + limit ≤ drift + component_distance_of a.point b.point
AreFar watch drift limit _ _ = ⊥

-- While the drift is below the limit, both are seen and farther apart than `watch`.
pub record AreFarUntil (watch drift limit : ℕ) (a b : Option TickState) : Type 0 where
  pub bound : limit ≤ drift + 2 ^ 34
  pub far : drift < limit → AreFar watch drift limit a b

-- This holds of the vessels of a trace, by the limit of the trace and their states at the latest tick.
abbrev pub IsFarUntil : ℕ → ℕ → SeenVessels → FollowedTrace → Type 0
IsFarUntil watch drift seen trace = AreFarUntil watch drift trace.far_until (state_in trace.pair.subject seen) (state_in trace.pair.other seen)
