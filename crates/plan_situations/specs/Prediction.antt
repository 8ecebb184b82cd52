-- What is predicted of another vessel: from her latest accepted report on she goes on as it says, until a change that is
-- predicted of her. Times are seconds since the Unix epoch; now and the changes' times are counted from there.
use Rattle.std.specs.Prelude.{ℕ, zero, suc, ◌+◌, ◌-◌, ◌<◌, ◌≤◌, List, All, AllPairs, Option, Some, None, nat_le, pos, ◌+ℤ◌}
use Rattle.std.specs.List.{filter, last_or}
use Rattle.ais_messages.specs.declared.message.PositionReport.{PositionReport}
use Rattle.fixed_geometry.specs.Velocity.{velocity_of}
use Rattle.fixed_geometry.specs.declared.point.Point.{Point}
use Rattle.motion.specs.declared.leg.TickState.{TickState}
use Rattle.predictions.specs.declared.changes.Change.{Change}
use Rattle.tracks.specs.JoinedReports.{reported_direction}
use Rattle.tracks.specs.declared.accepted.Accepted.{Accepted}
use Rattle.plan_situations.specs.declared.prediction.Motion.{Motion}

-- With a course and a speed a vessel moves; without either she stands still.
unfoldable pub velocity_by : Option ℕ → Option ℕ → Point
velocity_by (Some course) (Some speed) = velocity_of course speed
velocity_by _ _ = record { x = pos 0; y = pos 0 }

-- how she moves by her report, and by a change, whose course is her direction too
unfoldable pub reported_motion : PositionReport → Motion
reported_motion report = record { velocity = velocity_by report.cog report.sog; direction = reported_direction report; speed = report.sog }

unfoldable pub changed_motion : Change → Motion
changed_motion change = record { velocity = velocity_of change.course change.speed; direction = Some change.course; speed = Some change.speed }

abbrev pub motion_by : PositionReport → Option Change → Motion
motion_by report None = reported_motion report
motion_by report (Some change) = changed_motion change

-- the change in force at a time: the last of those whose time has come
abbrev pub change_at : List Change → ℕ → ℕ → Option Change
change_at changes now time = last_or None (filter (λ change. nat_le (now + change.after) time) changes)

module _ (last : Accepted) (changes : List Change) (now : ℕ) where
  -- how she moves in the second that begins at a time
  abbrev pub motion_at : ℕ → Motion
  motion_at time = motion_by last.report (change_at changes now time)

  -- her point this many seconds after the report: its point and the sum of her moves in these seconds
  unfoldable pub point_after : ℕ → Point
  point_after zero = last.point
  point_after (suc seconds) = record {
    x = (point_after seconds).x +ℤ (motion_at (last.time + seconds)).velocity.x;
    y = (point_after seconds).y +ℤ (motion_at (last.time + seconds)).velocity.y;
  }

  -- her state at a time that is not before the report
  unfoldable pub predicted_state : ℕ → TickState
  predicted_state time = record {
    point = point_after (time - last.time);
    direction = (motion_at time).direction;
    speed = (motion_at time).speed;
  }

-- Changes are in the order of their times, and each orders what a report can say.
pub record AreChanges (changes : List Change) : Type 0 where
  pub course : All (λ (c : Change). c.course ≤ 3599) changes
  pub speed : All (λ (c : Change). c.speed ≤ 1022) changes
  pub order : AllPairs (λ (c d : Change). c.after < d.after) changes
