-- What is predicted of a vessel from her latest accepted report on: how she moves, and how far.
use Rattle.std.proofs.Common.{◌≡◌, ℕ, ◌+◌, ◌-◌, ◌*◌, ◌<◌, ◌≤◌, List, Option, None, Some, subst, lit≤, arith}
use Rattle.std.specs.Prelude.{IfSome, nat_le}
use Rattle.std.specs.List.{filter}
use Rattle.std.proofs.lemmas.List.Elements.{All-filter}
use Rattle.ais_messages.specs.declared.message.PositionReport.{PositionReport}
use Rattle.fixed_geometry.specs.Sizes.{IsWithin}
use Rattle.motion.specs.Displacement.{displacement}
use Rattle.motion.specs.TickStates.{IsTickState}
use Rattle.plan_situations.specs.Prediction.{AreChanges, change_at, changed_motion, motion_at, motion_by, point_after, predicted_state, reported_motion, velocity_by}
use Rattle.plan_situations.specs.Inner.Runs.{IsMotion}
use Rattle.plan_situations.proofs.SecondBySecond.{moved, near}
use Rattle.predictions.specs.declared.changes.Change.{Change}
use Rattle.tracks.specs.declared.accepted.Accepted.{Accepted}
use Rattle.tracks.proofs.Lasts.{All-last}
use Rattle.laws.proofs.FollowingReports.{IsInRegion}
use Rattle.laws.proofs.JoinedLegs.{heads, limited}
use Rattle.laws.proofs.SentRanges.{IsSaid}
use Rattle.laws.proofs.Velocities.{velocity_small}

-- ---- how she moves

slow_by : (cog sog : Option ℕ) → IfSome sog (λ v. v < 1023) → IsWithin 525763 (velocity_by cog sog)
unfolding velocity_by
slow_by None None h = record { x = lit≤ tt; y = lit≤ tt }
slow_by None (Some v) h = record { x = lit≤ tt; y = lit≤ tt }
slow_by (Some c) None h = record { x = lit≤ tt; y = lit≤ tt }
slow_by (Some c) (Some v) h = velocity_small c v (omega arith)

reported : (report : PositionReport) → IsSaid report → IsMotion (reported_motion report)
unfolding reported_motion
reported report said = record { slow = slow_by report.cog report.sog said.sog; below = heads report said; limited = limited report.sog said.sog }

abbrev IsOrdered : Change → Type 0
IsOrdered change = (change.course ≤ 3599) × (change.speed ≤ 1022)

changed : (change : Change) → IsOrdered change → IsMotion (changed_motion change)
unfolding changed_motion
changed change h = record { slow = velocity_small change.course change.speed h.1; below = let course = h.0 in omega arith; limited = h.1 }

by_change : (report : PositionReport) (o : Option Change) → IsSaid report → IfSome o IsOrdered → IsMotion (motion_by report o)
by_change report None said h = reported report said
by_change report (Some change) said h = changed change h

module _ (last : Accepted) (changes : List Change) (now : ℕ) (in_region : IsInRegion last) (are : AreChanges changes) where
  in_force : (time : ℕ) → IfSome (change_at changes now time) IsOrdered
  in_force time =
      All-last IsOrdered None (filter (λ (change : Change). nat_le (now + change.after) time) changes) tt
      (All-filter (λ (change : Change). nat_le (now + change.after) time) IsOrdered changes (λ k d lt. (are.course k d lt, are.speed k d lt)))

  motion : (time : ℕ) → IsMotion (motion_at last changes now time)
  motion time = by_change last.report (change_at changes now time) in_region.said (in_force time)

  -- ---- how far

  pub predicted_within : (time : ℕ) → IsWithin (2222400000 + (time - last.time) * 525763) (predicted_state last changes now time).point
  unfolding predicted_state
  predicted_within time = near last changes now (time - last.time) 2222400000 in_region.point (λ k lt. (motion (last.time + k)).slow)

  pub predicted_moves : (earlier time : ℕ) → last.time ≤ earlier → earlier ≤ time
      → IsWithin ((time - earlier) * 525763) (displacement (predicted_state last changes now earlier).point (predicted_state last changes now time).point)
  unfolding predicted_state
  predicted_moves earlier time from le =
      let whole : (earlier - last.time) + (time - earlier) ≡ time - last.time = omega arith in
      subst (λ (n : ℕ). IsWithin ((time - earlier) * 525763) (displacement (point_after last changes now (earlier - last.time)) (point_after last changes now n))) whole
      (moved last changes now (earlier - last.time) (time - earlier) (λ k low high. (motion (last.time + k)).slow))

  -- her state, if her point lies within a size
  pub predicted_as : (size time : ℕ) → 2222400000 + (time - last.time) * 525763 ≤ size → IsTickState size (predicted_state last changes now time)
  unfolding predicted_state
  predicted_as size time le =
      let h = predicted_within time in
      let x = h.x in
      let y = h.y in
      record { point = record { x = omega arith; y = omega arith }; direction = (motion time).below; speed = (motion time).limited }
