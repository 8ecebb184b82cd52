-- The results of the lines of a log.
use Rattle.std.specs.Prelude.{ℕ, ◌==◌, ◌∷◌, [], ◌++◌, Bool, count_by, nat_lt, List, length, Option, Some, None, Result, Ok, Err}
use Rattle.std.specs.List.{list_any}
use Rattle.ais_messages.specs.declared.message.PositionReport.{PositionReport}
use Rattle.fixed_geometry.specs.declared.point.Point.{Point}
use Rattle.scenario_values.specs.declared.values.Scenario.{Scenario}
use Rattle.tracks.specs.AcceptedReports.{JudgingNumbers}
use Rattle.tracks.specs.VesselsHeld.{Sent, entry_of, held_of, report_in}
use Rattle.tracks.specs.declared.entry.Entry.{Entry}
use Rattle.tracks.specs.declared.entry.Entry.TheVariants as entry
use Rattle.tracks.specs.declared.book.TheConstants.{MOST_VESSELS}
use Rattle.log_lines.specs.EachLine.{each_line}
use Rattle.log_lines.specs.LineOutcomes.{outcome_index, report_outcome}
use Rattle.log_lines.specs.SentLines.{sent, sent_of}
use Rattle.log_lines.specs.declared.judged.Judged.{Judged}
use Rattle.log_lines.specs.declared.judged.Judged.TheVariants as judged
use Rattle.log_lines.specs.declared.outcome.LineOutcome.{LineOutcome}
use Rattle.log_lines.specs.declared.outcome.LineOutcome.TheVariants as outcome

abbrev pub outcome_of : Judged → LineOutcome
outcome_of (judged.Accepted report) = outcome.Point
outcome_of (judged.Without came) = came

-- the numbers of a scenario for judging reports
abbrev pub numbers_of : Scenario → JudgingNumbers
numbers_of scenario = record { reference = scenario.reference; gap = scenario.log.gap; max_speed = scenario.log.max_speed }

-- The report of a message that has a point. No message without a position report has one.
abbrev pub accepted_at : ℕ → Point → Option PositionReport → Judged
accepted_at time point (Some report) = judged.Accepted (record { time = time; point = point; report = report })
accepted_at time point None = judged.Without outcome.Static

-- the result of a message, from its entry in the book of vessels
abbrev pub judged_entry : Sent → Entry → Judged
judged_entry one (entry.Point point) = accepted_at one.time point (report_in one.message)
judged_entry one entry.Static = judged.Without outcome.Static
judged_entry one (entry.Dropped cause) = judged.Without (report_outcome cause)

-- the result of a message, after the messages before it; or of a line without a message
abbrev pub judged_sent : JudgingNumbers → List Sent → Result Sent LineOutcome → Judged
judged_sent numbers before (Ok one) = judged_entry one (entry_of numbers before one)
judged_sent numbers before (Err came) = judged.Without came

-- the result of a line, after the lines before it
unfoldable pub judged_line : Scenario → List (List ℕ) → List ℕ → Judged
judged_line scenario before line = judged_sent (numbers_of scenario) (sent scenario before) (sent_of scenario before line)

-- the results of lines
unfoldable pub judged_lines : Scenario → List (List ℕ) → List Judged
judged_lines scenario lines = each_line (judged_line scenario) lines

-- the number of lines with an outcome
abbrev pub count_of : LineOutcome → List Judged → ℕ
count_of outcome lines = count_by (λ line. outcome_index (outcome_of line) == outcome_index outcome) lines

-- the number of vessels after a line and the lines before it
unfoldable pub held_behind : Scenario → List (List ℕ) → List ℕ → ℕ
held_behind scenario before line = length (held_of (numbers_of scenario) (sent scenario (before ++ line ∷ [])))

-- the greatest number of vessels in a book
abbrev pub greatest_held : ℕ
greatest_held = MOST_VESSELS

-- Some line adds more vessels than that.
unfoldable pub is_crowded : Scenario → List (List ℕ) → Bool
is_crowded scenario lines = list_any (λ held. nat_lt greatest_held held) (each_line (held_behind scenario) lines)
