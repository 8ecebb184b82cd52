-- How far a vessel has gone towards a time for which she is predicted.
use Rattle.std.specs.Prelude.{ℕ, ◌≡◌, ◌+◌, ◌-◌, ◌<◌, ◌≤◌, List, length, pos, ◌+ℤ◌, ◌*ℤ◌, slice_index_or, IfSome}
use Rattle.fixed_geometry.specs.Sizes.{IsWithin}
use Rattle.fixed_geometry.specs.declared.point.Point.{Point}
use Rattle.predictions.specs.declared.changes.Change.{Change}
use Rattle.tracks.specs.declared.accepted.Accepted.{Accepted}
use Rattle.plan_situations.specs.declared.prediction.Motion.{Motion}
use Rattle.plan_situations.specs.declared.prediction.Run.{Run}
use Rattle.plan_situations.specs.Prediction.{motion_at, point_after}

-- A motion is as a report can say.
pub record IsMotion (motion : Motion) : Type 0 where
  pub slow : IsWithin 525763 motion.velocity
  pub below : IfSome motion.direction (λ d. d < 3600)
  pub limited : IfSome motion.speed (λ v. v ≤ 1022)

-- a point after this many seconds of a velocity
abbrev pub gone_by : Point → ℕ → Point → Point
gone_by velocity seconds point = record { x = point.x +ℤ pos seconds *ℤ velocity.x; y = point.y +ℤ pos seconds *ℤ velocity.y }

-- The changes from this index on are still to come at a time.
abbrev pub AreToCome : List Change → ℕ → ℕ → ℕ → Type 0
AreToCome changes now next time = (j : ℕ) (d : Change) → next ≤ j → j < length changes → time < now + (slice_index_or changes j d).after

-- She has gone by the changes before this index, and goes on so until those from there on come.
pub record HasGone (last : Accepted) (changes : List Change) (now time next : ℕ) (run : Run) : Type 0 where
  pub begun : last.time ≤ run.since
  pub not_past : run.since ≤ time
  pub reached : run.point ≡ point_after last changes now (run.since - last.time)
  pub moves : (s : ℕ) → run.since ≤ s → s ≤ time → AreToCome changes now next s → motion_at last changes now s ≡ run.motion
  pub early : (j : ℕ) (d : Change) → next ≤ j → j < length changes → run.since ≤ now + (slice_index_or changes j d).after
  pub is_motion : IsMotion run.motion
  pub was_slow : (s : ℕ) → last.time ≤ s → s < run.since → IsWithin 525763 (motion_at last changes now s).velocity
