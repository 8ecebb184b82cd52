-- The state after one more line of a log.
use Rattle.std.specs.Prelude.{ℕ, ◌≡◌, ◌≤◌, Bool, length, List, [], ◌∷◌, ◌++◌, Option, Some, None, Result, Ok, Err}
use Rattle.aivdm.specs.FragmentJoining.{Taken}
use Rattle.aivdm.specs.OpenMessages.{StandsFor as JoinerStandsFor}
use Rattle.aivdm.specs.Sentences.{SentenceFields}
use Rattle.aivdm.specs.declared.sentence.LineCause.{LineCause}
use Rattle.ranks.specs.declared.change.Change.{Change}
use Rattle.tracks.specs.AcceptedReports.{JudgingNumbers}
use Rattle.tracks.specs.Standing.{BookValue, StandsFor as BookStandsFor}
use Rattle.tracks.specs.VesselsHeld.{Sent, held_of}
use Rattle.tracks.specs.declared.accepted.Accepted.{Accepted}
use Rattle.log_lines.specs.JudgedLines.{greatest_held, judged_sent}
use Rattle.log_lines.specs.LineOutcomes.{line_outcome}
use Rattle.log_lines.specs.SentLines.{heard_unless, sent_heard}
use Rattle.log_lines.specs.ShipTypes.{AreNoted}
use Rattle.log_lines.specs.StaticReports.{told_sent}
use Rattle.log_lines.specs.Inner.Times.{untimely_by}
use Rattle.log_lines.specs.declared.judged.Judged.{Judged}
use Rattle.log_lines.specs.declared.judged.Judged.TheVariants as judged
use Rattle.log_lines.specs.declared.judge.Came.{Came}
use Rattle.log_lines.specs.declared.judge.Came.TheVariants as came
use Rattle.log_lines.specs.declared.judge.Judge.{Judge}
use Rattle.log_lines.specs.declared.line_times.LineTimes.{LineTimes}
use Rattle.log_lines.specs.declared.outcome.LineOutcome.{LineOutcome}
use Rattle.log_lines.specs.declared.outcome.LineOutcome.TheVariants as outcome

-- the result of a line, if this report was accepted last
abbrev pub judged_by : Came → Option Accepted → Judged
judged_by (came.Without outcome) latest = judged.Without outcome
judged_by came.Accepted (Some report) = judged.Accepted report
judged_by came.Accepted None = judged.Without outcome.Point

-- the sentence that is heard on a line of this time, or the outcome of a line without one
abbrev pub heard_by : LineTimes → ℕ → Result SentenceFields LineCause → Result Taken LineOutcome
heard_by times time (Ok sentence) = heard_unless (untimely_by times time) time sentence
heard_by times time (Err cause) = Err (line_outcome cause)

-- the list of the value, if it is one
abbrev pub listed : {A : Type 0} → Result A LineOutcome → List A
listed (Ok value) = value ∷ []
listed (Err came) = []

-- the number of vessels after one more message, if there is one
abbrev pub held_with : JudgingNumbers → List Sent → Result Sent LineOutcome → ℕ
held_with numbers before next = length (held_of numbers (before ++ listed next))

-- The state after these messages: the book's model is these messages, it is within its limit of vessels, and ship types
-- are noted if ranks count.
pub record Keeps (kept : BookValue) (types : Option (List (ℕ × List Change))) (numbers : JudgingNumbers) (ranked : Bool) (messages : List Sent) : Type 0 where
  pub book : BookStandsFor kept numbers messages
  pub few : length (held_of numbers messages) ≤ greatest_held
  pub notes : AreNoted ranked types messages

-- After a message, or a line without one, the longer list and the static report are stored, and this is the result of the line.
pub record Enters (numbers : JudgingNumbers) (ranked : Bool) (judge : Judge) (came : Judged) (before : List Sent) (next : Result Sent LineOutcome) : Type 0 where
  pub is : came ≡ judged_sent numbers before next
  pub told : judge.told ≡ told_sent next
  pub keeps : Keeps judge.book judge.ranks numbers ranked (before ++ listed next)

-- After a line on which this was heard, the joiner stands for the longer list, and its message has entered.
pub record GoesOn (numbers : JudgingNumbers) (ranked : Bool) (judge : Judge) (came : Judged) (taken : List Taken) (messages : List Sent) (heard : Result Taken LineOutcome) : Type 0 where
  pub joiner : JoinerStandsFor judge.joiner (taken ++ listed heard)
  pub enters : Enters numbers ranked judge came messages (sent_heard taken heard)
