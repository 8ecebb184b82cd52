-- The vessels that sent a list of messages, and their data.
use Rattle.std.specs.Prelude.{ℕ, ◌==◌, ◌||◌, Bool, nat_lt, List, [], ◌∷◌, length, filter, fold, Option, Some, None, if◌then◌else◌, Result, Ok, Err}
use Rattle.std.specs.List.{filter_map, last_or}
use Rattle.std.specs.Option.{option_map}
use Rattle.ais_messages.specs.declared.message.Message.{Message}
use Rattle.ais_messages.specs.declared.message.Message.TheVariants as message
use Rattle.ais_messages.specs.declared.message.PositionReport.{PositionReport}
use Rattle.ais_messages.specs.declared.message.StaticReport.{StaticReport}
use Rattle.motion.specs.declared.leg.Leg.{Leg}
use Rattle.tracks.specs.AcceptedReports.{JudgingNumbers, Reported, accepted_list, judged}
use Rattle.tracks.specs.JoinedReports.{legs_between}
use Rattle.tracks.specs.declared.accepted.Accepted.{Accepted}
use Rattle.tracks.specs.declared.entry.Entry.{Entry}
use Rattle.tracks.specs.declared.entry.Entry.TheVariants as entry
use Rattle.tracks.specs.declared.entry.ReportCause.{ReportCause}
use Rattle.tracks.specs.declared.statics.Statics.{Statics}

-- a message, and its time in seconds since 1970
pub record Sent : Type 0 where
  pub message : Message
  pub time : ℕ

-- ---- the parts of a message

abbrev pub report_in : Message → Option PositionReport
report_in (message.Position report) = Some report
report_in (message.Static _) = None
report_in (message.Both report _) = Some report

abbrev pub static_in : Message → Option StaticReport
static_in (message.Position _) = None
static_in (message.Static report) = Some report
static_in (message.Both _ report) = Some report

-- A message has one sender.
abbrev pub sender_of : Message → ℕ
sender_of (message.Position report) = report.mmsi
sender_of (message.Static report) = report.mmsi
sender_of (message.Both report _) = report.mmsi

abbrev pub reported_in : Sent → Option Reported
reported_in sent = option_map (λ report. record { report = report; time = sent.time }) (report_in sent.message)

-- ---- a vessel's messages

abbrev pub messages_of : List Sent → ℕ → List Sent
messages_of sent mmsi = filter (λ one. sender_of one.message == mmsi) sent

-- her accepted reports
unfoldable pub accepted_of : JudgingNumbers → List Sent → ℕ → List Accepted
accepted_of numbers sent mmsi = accepted_list numbers (filter_map reported_in (messages_of sent mmsi))

-- the legs between them
unfoldable pub legs_of : JudgingNumbers → List Sent → ℕ → List Leg
legs_of numbers sent mmsi = legs_between numbers.gap (accepted_of numbers sent mmsi)

abbrev pub static_reports_of : List Sent → ℕ → List StaticReport
static_reports_of sent mmsi = filter_map (λ one. static_in one.message) (messages_of sent mmsi)

-- name, and type and size, each as last reported
abbrev pub last_told : List StaticReport → Statics
last_told reports = record {
  name = last_or None (filter_map (λ report. report.name) reports);
  ship = last_or None (filter_map (λ report. report.ship) reports);
}

-- her static data
unfoldable pub statics_of : List Sent → ℕ → Statics
statics_of sent mmsi = last_told (static_reports_of sent mmsi)

-- ---- the vessels of the book

-- The book has a vessel from her first accepted report or static report.
unfoldable pub is_held : JudgingNumbers → List Sent → ℕ → Bool
is_held numbers sent mmsi = nat_lt 0 (length (accepted_of numbers sent mmsi)) || nat_lt 0 (length (static_reports_of sent mmsi))

-- the ascending numbers with one more, if it is not among them
abbrev pub with_number : ℕ → List ℕ → List ℕ
with_number n [] = n ∷ []
with_number n (m ∷ ms) = if nat_lt n m then n ∷ m ∷ ms else (if n == m then m ∷ ms else m ∷ with_number n ms)

-- all senders, ascending
abbrev pub senders_of : List Sent → List ℕ
senders_of sent = fold (λ ms one. with_number (sender_of one.message) ms) [] sent

-- the vessels of the book, ascending
unfoldable pub held_of : JudgingNumbers → List Sent → List ℕ
held_of numbers sent = filter (is_held numbers sent) (senders_of sent)

-- ---- the result of a message

abbrev pub entry_by : Result Accepted ReportCause → Entry
entry_by (Ok accepted) = entry.Point accepted.point
entry_by (Err cause) = entry.Dropped cause

abbrev pub entry_at : JudgingNumbers → Option Accepted → Option Reported → Entry
entry_at numbers latest None = entry.Static
entry_at numbers latest (Some now) = entry_by (judged numbers latest now)

-- after the messages before it
unfoldable pub entry_of : JudgingNumbers → List Sent → Sent → Entry
entry_of numbers sent one = entry_at numbers (last_or None (accepted_of numbers sent (sender_of one.message))) (reported_in one)
