-- The sentences of a log's lines that are in time, and the messages that they complete.
use Rattle.std.specs.Prelude.{ℕ, List, [], ◌∷◌, ◌++◌, Option, Some, None, Result, Ok, Err, if◌then◌else◌}
use Rattle.std.specs.List.{filter_map}
use Rattle.aivdm.specs.FragmentJoining.{Taken, joined_of}
use Rattle.aivdm.specs.ReadingOf.{reading_of}
use Rattle.aivdm.specs.Sentences.{SentenceFields}
use Rattle.aivdm.specs.declared.joiner.Joined.{Joined}
use Rattle.aivdm.specs.declared.joiner.Joined.TheVariants as joined
use Rattle.aivdm.specs.declared.sentence.LineCause.{LineCause}
use Rattle.ais_messages.specs.MessageFields.{decoded_of}
use Rattle.ais_messages.specs.declared.message.Decoded.{Decoded}
use Rattle.ais_messages.specs.declared.message.Decoded.TheVariants as decoded
use Rattle.tracks.specs.VesselsHeld.{Sent}
use Rattle.log_lines.specs.EachLine.{each_line, ok_value}
use Rattle.log_lines.specs.LineOutcomes.{line_outcome, message_outcome}
use Rattle.log_lines.specs.LineTimes.{clock_of, is_in_window, is_late, time_of}
use Rattle.log_lines.specs.declared.outcome.LineOutcome.{LineOutcome}
use Rattle.log_lines.specs.declared.outcome.LineOutcome.TheVariants as outcome
use Rattle.scenario_values.specs.declared.values.Scenario.{Scenario}

-- ---- the sentences

-- why a sentence of this time is not heard: it is outside the window of lines, or late
abbrev pub untimely : Scenario → Option ℕ → ℕ → Option LineOutcome
untimely scenario clock time =
    if is_in_window scenario time then (if is_late scenario.log.slack clock time then Some outcome.Late else None)
    else Some outcome.Outside

abbrev pub heard_unless : Option LineOutcome → ℕ → SentenceFields → Result Taken LineOutcome
heard_unless None time sentence = Ok (record { sentence = sentence; time = time })
heard_unless (Some outcome) time sentence = Err outcome

abbrev pub heard_in : Scenario → Option ℕ → ℕ → Result SentenceFields LineCause → Result Taken LineOutcome
heard_in scenario clock time (Ok sentence) = heard_unless (untimely scenario clock time) time sentence
heard_in scenario clock time (Err cause) = Err (line_outcome cause)

-- the sentence of a line that is in time, or the outcome of a line without one
unfoldable pub heard_of : Scenario → List (List ℕ) → List ℕ → Result Taken LineOutcome
heard_of scenario before line =
    heard_in scenario (clock_of scenario before) (time_of scenario (before ++ line ∷ [])) (reading_of line).body

-- the sentences of lines that are in time, with their times
unfoldable pub heard : Scenario → List (List ℕ) → List Taken
heard scenario lines = filter_map ok_value (each_line (heard_of scenario) lines)

-- ---- the messages

abbrev pub sent_decoded : ℕ → Decoded → Result Sent LineOutcome
sent_decoded time (decoded.Message message) = Ok (record { message = message; time = time })
sent_decoded time (decoded.Dropped cause) = Err (message_outcome cause)

abbrev pub sent_joined : ℕ → Joined → Result Sent LineOutcome
sent_joined time (joined.Message bits) = sent_decoded time (decoded_of bits)
sent_joined time joined.Waiting = Err outcome.Part
sent_joined time joined.Orphan = Err outcome.Orphan

abbrev pub sent_heard : List Taken → Result Taken LineOutcome → Result Sent LineOutcome
sent_heard before (Ok taken) = sent_joined taken.time (joined_of before taken)
sent_heard before (Err outcome) = Err outcome

-- the message that a line completes, or the outcome of a line without one
unfoldable pub sent_of : Scenario → List (List ℕ) → List ℕ → Result Sent LineOutcome
sent_of scenario before line = sent_heard (heard scenario before) (heard_of scenario before line)

-- the messages of lines, with their times
unfoldable pub sent : Scenario → List (List ℕ) → List Sent
sent scenario lines = filter_map ok_value (each_line (sent_of scenario) lines)
