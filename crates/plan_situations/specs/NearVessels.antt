-- Which vessels are near own ship at now: those whose latest accepted report is fresh, and whose points at now are within range of
-- hers. She is one of them; the others are her targets.
use Rattle.std.specs.Prelude.{ℕ, ◌*◌, ◌==◌, Bool, ◌&&◌, not, int_le, pos, List, [], filter, Option, Some, None, if◌then◌else◌}
use Rattle.std.specs.List.{filter_map}
use Rattle.fixed_geometry.specs.Plane.{norm2_of}
use Rattle.fixed_geometry.specs.declared.point.Point.{Point}
use Rattle.motion.specs.Displacement.{displacement}
use Rattle.plan_situations.specs.Prediction.{predicted_state}
use Rattle.tracks.specs.AcceptedReports.{JudgingNumbers}
use Rattle.tracks.specs.VesselsHeld.{Sent, held_of}
use Rattle.tracks.specs.declared.accepted.Accepted.{Accepted}
use Rattle.plan_situations.specs.Readiness.{is_fresh, latest_of}
use Rattle.plan_situations.specs.declared.near.Near.{Near}

-- where a vessel is predicted to be at now: changes are predicted from then on, and move nobody before
abbrev pub point_now : ℕ → Accepted → Point
point_now now latest = (predicted_state latest [] now now).point

-- At most this many tenths of a millimetre lie between two points.
abbrev pub is_within : ℕ → Point → Point → Bool
is_within range a b = int_le (norm2_of (displacement a b)) (pos (range * range))

-- a vessel with her latest accepted report, if she is near a point
abbrev pub near_by : ℕ → ℕ → ℕ → Point → ℕ → Option Accepted → Option Near
near_by gap now range point mmsi None = None
near_by gap now range point mmsi (Some latest) =
    if is_fresh gap now latest && is_within range point (point_now now latest) then Some (record { mmsi = mmsi; latest = latest }) else None

-- those near a point, in the order of their MMSIs
abbrev pub near_of : JudgingNumbers → List Sent → ℕ → ℕ → Point → List Near
near_of numbers messages now range point =
    filter_map (λ mmsi. near_by numbers.gap now range point mmsi (latest_of numbers messages mmsi)) (held_of numbers messages)

-- those of them that are another vessel
abbrev pub others_of : ℕ → List Near → List Near
others_of own near = filter (λ (vessel : Near). not (vessel.mmsi == own)) near
