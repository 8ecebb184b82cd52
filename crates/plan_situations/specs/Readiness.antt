-- Whether own ship can be planned for at now: her latest accepted report is at most a gap old, and has a course and a speed.
use Rattle.std.specs.Prelude.{ℕ, ◌+◌, Bool, ◌&&◌, nat_le, List, Option, Some, None, Result, Ok, Err, if◌then◌else◌}
use Rattle.std.specs.List.{last_or}
use Rattle.tracks.specs.AcceptedReports.{JudgingNumbers}
use Rattle.tracks.specs.VesselsHeld.{Sent, accepted_of}
use Rattle.tracks.specs.declared.accepted.Accepted.{Accepted}
use Rattle.plan_situations.specs.declared.readiness.Ready.{Ready}
use Rattle.plan_situations.specs.declared.readiness.Unready.{Unready}
use Rattle.plan_situations.specs.declared.readiness.Unready.TheVariants.{NoPoint, NoCourse, NoSpeed}

-- a vessel's latest accepted report, by the messages
abbrev pub latest_of : JudgingNumbers → List Sent → ℕ → Option Accepted
latest_of numbers messages mmsi = last_or None (accepted_of numbers messages mmsi)

-- A report is fresh at now if it came before then, and at most the gap before.
abbrev pub is_fresh : ℕ → ℕ → Accepted → Bool
is_fresh gap now report = nat_le report.time now && nat_le now (report.time + gap)

abbrev pub with_speed : Accepted → ℕ → Option ℕ → Result Ready Unready
with_speed latest course None = Err (NoSpeed latest.time)
with_speed latest course (Some speed) = Ok (record { latest = latest; course = course; speed = speed })

abbrev pub with_course : Accepted → Option ℕ → Result Ready Unready
with_course latest None = Err (NoCourse latest.time)
with_course latest (Some course) = with_speed latest course latest.report.sog

-- what her latest accepted report, if she has one, results in
abbrev pub readiness_by : ℕ → ℕ → Option Accepted → Result Ready Unready
readiness_by gap now None = Err (NoPoint None)
readiness_by gap now (Some latest) = if is_fresh gap now latest then with_course latest latest.report.cog else Err (NoPoint (Some latest.time))

-- her readiness by the messages
abbrev pub readiness_of : JudgingNumbers → List Sent → ℕ → ℕ → Result Ready Unready
readiness_of numbers messages now mmsi = readiness_by numbers.gap now (latest_of numbers messages mmsi)
