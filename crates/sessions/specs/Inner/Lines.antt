-- What a session does with bytes, line by line, whether the log may have so many or not.
use Rattle.std.specs.Prelude.{ℕ, ◌≡◌, ◌≤◌, ◌<◌, ◌+◌, List, ◌++◌, length, false, IsSome, IsTrue}
use Rattle.audit_report.specs.ReportTexts.{HasText}
use Rattle.audit_report.specs.declared.report_text.ReportText.{ReportText}
use Rattle.tasks.specs.declared.mode.Mode.{Mode}
use Rattle.log_lines.specs.GrowingLog.{ended_lines}
use Rattle.log_lines.specs.JudgedLines.{is_crowded}
use Rattle.log_lines.specs.LogLines.{lines_of}
use Rattle.sessions.specs.Inner.Pieces.{IsPiece}
use Rattle.log_lines.specs.Standing.{LinesStandFor, kept_of}
use Rattle.scenario_values.specs.ValueRanges.{IsInRange}
use Rattle.scenario_values.specs.declared.values.Scenario.{Scenario}
use Rattle.sessions.specs.Inner.Working.{IsDone}
use Rattle.tasks.specs.Modes.{needs_own}
use Rattle.sessions.specs.Refusals.{HasManySettled}
use Rattle.sessions.specs.Standing.{KeepsEnough, StandsFor, mode_by, mode_of, session_scenario}
use Rattle.sessions.specs.declared.session.Session.{Session}
use Rattle.sessions.specs.declared.session_fault.SessionFault.{SessionFault}
use Rattle.sessions.specs.declared.session_fault.SessionFault.TheVariants as fault

-- The session has read these bytes, however many they are, and has given what their ended lines decide.
pub record Follows (session : Session) (read given : List ℕ) : Type 0 where
  pub in_range : IsInRange session.scenario
  pub own : IsTrue (needs_own (mode_by session.work)) → IsSome session.scenario.own
  pub lines : LinesStandFor session.lines session.scenario read
  pub kept : KeepsEnough session.work session.scenario (kept_of session.lines)
  pub done : IsDone session.work session.scenario (ended_lines read) given

-- There is room for these bytes behind what was read, but perhaps for the last one, which may be a line feed at the log's end.
abbrev pub HasRoomFor : Session → List ℕ → List ℕ → Type 0
HasRoomFor session read bytes = length read + length bytes ≤ session.scenario.log.max_bytes + 1

pub record IsReadyToTake (session : Session) (bytes : List ℕ) : Type 0 where
  pub read : List ℕ
  pub given : List ℕ
  pub follows : Follows session read given
  pub room : HasRoomFor session read bytes

-- The session took the bytes, and what their lines decided stands in the text behind a front.
pub record TookLines (session session' : Session) (bytes front : List ℕ) (text : ReportText) : Type 0 where
  pub more : List ℕ
  pub has : HasText text (front ++ more)
  pub follows : (read given : List ℕ) → Follows session read given → HasRoomFor session read bytes → Follows session' (read ++ bytes) (given ++ more)

-- why lines are refused
abbrev pub IsCause : SessionFault → Mode → Scenario → List (List ℕ) → Type 0
IsCause fault.Vessels mode scenario lines = IsTrue (is_crowded scenario lines)
IsCause fault.Pairs mode scenario lines = (is_crowded scenario lines ≡ false) × HasManySettled mode scenario lines
IsCause _ mode scenario lines = ⊥

-- The line that the piece ends is refused.
abbrev pub RefusesPiece : Session → List ℕ → SessionFault → Type 0
RefusesPiece session piece why = (read given : List ℕ) → Follows session read given → HasRoomFor session read piece
    → IsCause why (mode_of session) (session_scenario session) (ended_lines (read ++ piece))

-- A line of the bytes is refused, and what the bytes before it decided stands in the text behind a front.
pub record RefusesLine (session : Session) (bytes front : List ℕ) (text : ReportText) (why : SessionFault) : Type 0 where
  pub stopped : Session
  pub same_mode : mode_of stopped ≡ mode_of session
  pub same_scenario : session_scenario stopped ≡ session_scenario session
  pub before : List ℕ
  pub took : TookLines session stopped before front text
  pub piece : List ℕ
  pub behind : List ℕ
  pub is : bytes ≡ (before ++ piece) ++ behind
  pub line : IsPiece piece
  pub some : 0 < length piece
  pub refuses : RefusesPiece stopped piece why

-- The session has read a whole log, and has given what all its lines decide: as many as a line feed ends in what it follows.
pub record IsEnded (session : Session) (log given : List ℕ) : Type 0 where
  pub read : List ℕ
  pub whole : ended_lines read ≡ lines_of log
  pub follows : Follows session read given

-- The session has ended the line that was open, and what is decided by it stands in the text behind a front.
pub record EndedLine (session session' : Session) (front : List ℕ) (text : ReportText) : Type 0 where
  pub more : List ℕ
  pub has : HasText text (front ++ more)
  pub ended : (fed given : List ℕ) → StandsFor session fed given → IsEnded session' fed (given ++ more)
