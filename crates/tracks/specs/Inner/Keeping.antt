-- The effect of a message on the stored data of a vessel, and facts about that data.
use Rattle.std.specs.Prelude.{ℕ, ◌≡◌, ◌+◌, ◌-◌, ◌*◌, ◌<◌, ◌≤◌, ◌⊎◌, Bool, ◌||◌, is_some, List, [], ◌∷◌, ◌++◌, length, All, Option, Some, None, IfSome, Result, Ok, Err, if◌then◌else◌}
use Rattle.std.specs.List.{last_or}
use Rattle.std.specs.List.Sorted.{IsNonDecreasingBy}
use Rattle.std.specs.Option.{option_or}
use Rattle.fixed_geometry.specs.declared.point.Point.{Point}
use Rattle.motion.specs.TickStates.{AreJoined}
use Rattle.motion.specs.declared.leg.Leg.{Leg}
use Rattle.ais_messages.specs.MessageFields.{IsShipData}
use Rattle.ais_messages.specs.declared.message.StaticReport.{StaticReport}
use Rattle.tracks.specs.AcceptedReports.{JudgingNumbers, Reported, distance2, judged, square}
use Rattle.tracks.specs.JoinedReports.{joined, legs_between}
use Rattle.tracks.specs.Standing.{BookValue, IsAccepted, IsNumbers, VesselValue, counted, kept_points, points_since}
use Rattle.tracks.specs.VesselsHeld.{Sent, reported_in, static_in}
use Rattle.tracks.specs.Inner.AscendingNumbers.{Ascends}
use Rattle.tracks.specs.declared.accepted.Accepted.{Accepted}
use Rattle.tracks.specs.declared.book.TheConstants.{MOST_VESSELS}
use Rattle.tracks.specs.declared.counts.Counts.{Counts}
use Rattle.tracks.specs.declared.entry.ReportCause.{ReportCause}
use Rattle.tracks.specs.declared.keeping.Keeping.{Keeping}
use Rattle.tracks.specs.declared.keeping.Keeping.TheVariants.{Latest}
use Rattle.tracks.specs.declared.statics.Statics.{Statics}

-- ---- the effect of a message

-- a report at its point, or why it has none
abbrev pub with_point : Reported → Result Point ReportCause → Result Accepted ReportCause
with_point now (Ok point) = Ok (record { time = now.time; point = point; report = now.report })
with_point now (Err cause) = Err cause

abbrev pub accepted_by : Result Accepted ReportCause → Option Accepted
accepted_by (Ok accepted) = Some accepted
accepted_by (Err _) = None

-- the accepted report of a message, after the latest accepted one
abbrev pub accepted_in : JudgingNumbers → Option Accepted → Option Reported → Option Accepted
accepted_in numbers latest None = None
accepted_in numbers latest (Some now) = accepted_by (judged numbers latest now)

abbrev pub points_with : List Accepted → Option Accepted → List Accepted
points_with points None = points
points_with points (Some accepted) = points ++ accepted ∷ []

-- the stored reports, with one more
abbrev pub kept_with : Keeping → List Accepted → Option Accepted → List Accepted
kept_with keeping points None = points
kept_with keeping points (Some accepted) = kept_points keeping (points ++ accepted ∷ [])

abbrev pub statics_with : Statics → Option StaticReport → Statics
statics_with statics None = statics
statics_with statics (Some report) = record { name = option_or report.name statics.name; ship = option_or report.ship statics.ship }

-- the leg to a report from the latest one, if they are joined
abbrev pub joined_after : ℕ → Option Accepted → Accepted → Option Leg
joined_after gap None now = None
joined_after gap (Some latest) now = joined gap latest now

-- the counts with one more report, which is joined to the previous one or not
abbrev pub counts_more : Counts → Bool → Counts
counts_more counts joined = record { reports = counted (counts.reports + 1); legs = if joined then counted (counts.legs + 1) else counts.legs }

abbrev pub counts_with : Keeping → ℕ → VesselValue → Option Accepted → Counts
counts_with keeping gap vessel None = vessel.counts
counts_with Latest gap vessel (Some now) = vessel.counts
counts_with _ gap vessel (Some now) = counts_more vessel.counts (is_some (joined_after gap (last_or None vessel.points) now))

abbrev pub vessel_with : Keeping → ℕ → VesselValue → Option Accepted → VesselValue
vessel_with keeping gap vessel accepted = record {
  points = kept_with keeping vessel.points accepted;
  legs = legs_between gap (kept_with keeping vessel.points accepted);
  counts = counts_with keeping gap vessel accepted;
  statics = vessel.statics;
}

abbrev pub told : VesselValue → Option StaticReport → VesselValue
told vessel report = record vessel { statics = statics_with vessel.statics report }

-- the stored data of a vessel after a message of hers
unfoldable pub vessel_after : Keeping → JudgingNumbers → VesselValue → Sent → VesselValue
vessel_after keeping numbers vessel one =
    told (vessel_with keeping numbers.gap vessel (accepted_in numbers (last_or None vessel.points) (reported_in one))) (static_in one.message)

-- no data yet
abbrev pub untold : VesselValue
untold = record { points = []; legs = []; counts = record { reports = 0; legs = 0 }; statics = record { name = None; ship = None } }

-- The message adds its vessel to the book if there was no data of her.
abbrev pub makes_held : JudgingNumbers → Sent → Bool
makes_held numbers one = is_some (static_in one.message) || is_some (accepted_in numbers None (reported_in one))

-- ---- the forgotten data

-- a vessel after forgetting her reports before a time
abbrev pub vessel_since : ℕ → ℕ → VesselValue → VesselValue
vessel_since gap time vessel = record vessel { points = points_since time vessel.points; legs = legs_between gap (points_since time vessel.points) }

-- ---- facts about the stored data

-- A report accepted after another one is later, and, if it is joined to it, reached at no more than 102.2 knots.
pub record Follows (gap : ℕ) (latest now : Accepted) : Type 0 where
  pub after : latest.time < now.time
  pub slow : now.time ≤ latest.time + gap → 81 * distance2 latest now ≤ square (4630 * 1022 * (now.time - latest.time))

-- Reports are in the order of their times.
abbrev pub AreInOrder : List Accepted → Type 0
AreInOrder reports = IsNonDecreasingBy (λ (report : Accepted). report.time) reports

-- The last leg ends at the latest report, or more than the gap before it.
abbrev pub EndsAt : ℕ → Accepted → Leg → Type 0
EndsAt gap latest leg = ((leg.t2 ≡ latest.time) × (leg.p2 ≡ latest.point)) ⊎ (leg.t2 + gap < latest.time)

pub record IsKept (keeping : Keeping) (gap : ℕ) (vessel : VesselValue) : Type 0 where
  pub points : All IsAccepted vessel.points
  pub in_order : AreInOrder vessel.points
  pub no_others : vessel.points ≡ kept_points keeping vessel.points
  pub legs : vessel.legs ≡ legs_between gap vessel.points
  pub ends : IfSome (last_or None vessel.points) (λ latest. IfSome (last_or None vessel.legs) (EndsAt gap latest))
  pub are_joined : AreJoined gap vessel.legs
  pub ship : IfSome vessel.statics.ship IsShipData

pub record IsBook (book : BookValue) : Type 0 where
  pub numbers : IsNumbers book.numbers
  pub ascends : Ascends book.held
  pub few : length book.held ≤ MOST_VESSELS
  pub each : length book.vessels ≡ length book.held
  pub kept : All (IsKept book.keeping book.numbers.gap) book.vessels
