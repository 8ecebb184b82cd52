-- Shares by time: one log, audited over two windows with ticks of one length. The later window begins some ticks after the earlier.
use Rattle.std.specs.Prelude.{ℕ, ◌≡◌, ◌+◌, ◌-◌, ◌<◌, ◌≤◌, List, filter, length, Option, true}
use Rattle.encounters.specs.Engagement.{IsEngaged}
use Rattle.encounters.specs.declared.pair_step.PairStep.{PairStep}
use Rattle.rule_set.specs.NamedTrees.{rule_at}
use Rattle.meetings.specs.Traces.{IsContactAt, steps_from}
use Rattle.meetings.specs.declared.pair.Pair.{Pair}
use Rattle.audit_rows.specs.declared.row.Row.{Row}
use Rattle.audit_rows.specs.declared.row.Row.TheVariants as row
use Rattle.log_lines.specs.JudgedLines.{numbers_of}
use Rattle.log_lines.specs.LineTimes.{is_in_window}
use Rattle.log_lines.specs.LogLines.{lines_of}
use Rattle.log_lines.specs.SentLines.{sent}
use Rattle.log_lines.specs.ShipTypes.{noted}
use Rattle.ranks.specs.VesselRanks.{rank_by_type}
use Rattle.scenario_values.specs.Ticks.{window_end}
use Rattle.scenario_values.specs.declared.values.Scenario.{Scenario}
use Rattle.tracks.specs.VesselsHeld.{accepted_of}
use Rattle.tracks.specs.declared.accepted.Accepted.{Accepted}
use Rattle.laws.specs.Lookback.{lookback_of}
use Rattle.traces.specs.Audited.{AuditNumbers, Sighting, rank_in, seen_state_at, sighting_at}

-- ---- the windows

-- the same numbers for a window of these ticks
abbrev pub over : List Sighting → AuditNumbers → AuditNumbers
over ticks numbers = record numbers { last_tick = length ticks - 1 }

-- the same scenario with a window that begins and lasts so
abbrev pub with_window : ℕ → ℕ → Scenario → Scenario
with_window start ticks scenario = record scenario { window = record { start = start; tick = scenario.window.tick; ticks = ticks } }

-- the row by the steps of a window that begins so many ticks earlier
abbrev pub moved : ℕ → Row → Row
moved behind (row.Meeting pair kind first last least) = row.Meeting pair kind (behind + first) (behind + last) least
moved behind (row.Verdict pair rule undecided first last) = row.Verdict pair rule undecided (behind + first) (behind + last)

-- It is a meeting's row, and no verdict's.
abbrev pub IsMeeting : Row → Type 0
IsMeeting (row.Meeting pair kind first last least) = Unit {0}
IsMeeting (row.Verdict pair rule undecided first last) = ⊥

-- ---- what both windows have

-- At each tick that both windows have a vessel is seen in the same state, or in neither. The later one's tick 0 is the earlier one's tick `behind`.
abbrev pub IsSeenAlike : ℕ → List Sighting → List Sighting → ℕ → Type 0
IsSeenAlike behind earlier later mmsi = (k : ℕ) → k < length later → behind + k < length earlier
    → seen_state_at earlier mmsi (behind + k) ≡ seen_state_at later mmsi k

-- At each tick that both windows have a vessel has the same rank.
abbrev pub IsRankedAlike : ℕ → List Sighting → List Sighting → ℕ → Type 0
IsRankedAlike behind earlier later mmsi = (k : ℕ) → k < length later → behind + k < length earlier
    → rank_in mmsi (sighting_at earlier (behind + k)) ≡ rank_in mmsi (sighting_at later k)

-- The two vessels are not in contact at any of the first ticks, `behind` of them.
abbrev pub ComeIntoContactBehind : ℕ → AuditNumbers → List Sighting → Pair → Type 0
ComeIntoContactBehind behind numbers ticks pair = (i : ℕ) → i < behind
    → ¬ IsContactAt (seen_state_at ticks pair.subject) (seen_state_at ticks pair.other) numbers.detect.watch i

-- Of a vessel's reports the two scenarios accept the same, as far as these lie in the windows of lines of both.
abbrev pub IsJudgedAlike : Scenario → Scenario → List ℕ → ℕ → Type 0
IsJudgedAlike one two log mmsi =
    filter (λ (report : Accepted). is_in_window two report.time) (accepted_of (numbers_of one) (sent one (lines_of log)) mmsi)
    ≡ filter (λ (report : Accepted). is_in_window one report.time) (accepted_of (numbers_of two) (sent two (lines_of log)) mmsi)

-- Where ranks count, a vessel has the same rank by ship type in both scenarios at each time from the later window's start to the earlier one's end.
abbrev pub IsTypedAlike : Scenario → Scenario → List ℕ → ℕ → Type 0
IsTypedAlike earlier later log mmsi = earlier.ranks ≡ true → (time : ℕ) → later.window.start ≤ time → time ≤ window_end earlier.window
    → rank_by_type (noted (sent earlier (lines_of log))) mmsi time ≡ rank_by_type (noted (sent later (lines_of log))) mmsi time

-- ---- where a meeting begins

-- the steps of two vessels from a window's first tick to its last
abbrev pub window_steps : List Sighting → Pair → List (Option PairStep)
window_steps ticks pair = steps_from (seen_state_at ticks pair.subject) (seen_state_at ticks pair.other) 0 (length ticks - 1)

-- They are engaged at this step of a window.
abbrev pub AreEngagedAt : AuditNumbers → List Sighting → Pair → ℕ → Type 0
AreEngagedAt numbers ticks pair k = IsEngaged numbers.detect (window_steps ticks pair) k

-- None of their meetings is under way where this step begins: they are not engaged at the step before it, if the window has one.
abbrev pub BeginsAnew : AuditNumbers → List Sighting → Pair → ℕ → Type 0
BeginsAnew numbers ticks pair first = 0 < first → ¬ AreEngagedAt numbers ticks pair (first - 1)

-- ---- where a rule's stretch begins

-- The two vessels are in contact at this tick or before.
abbrev pub HaveMetBy : AuditNumbers → List Sighting → Pair → ℕ → Type 0
HaveMetBy numbers ticks pair k = (i : ℕ) × ((i ≤ k) × IsContactAt (seen_state_at ticks pair.subject) (seen_state_at ticks pair.other) numbers.detect.watch i)

-- The row is a verdict's, of a rule that looks back no further than to this step from the one before the row.
abbrev pub LooksBackTo : AuditNumbers → ℕ → Row → Type 0
LooksBackTo numbers step (row.Meeting pair kind first last least) = ⊥
LooksBackTo numbers step (row.Verdict pair rule undecided first last) = step + lookback_of (rule_at numbers.rules rule).tree < first
