-- What a session does with a piece of a log.
use Rattle.std.specs.Prelude.{ℕ, List, ◌++◌}
use Rattle.audit_report.specs.ReportTexts.{HasText}
use Rattle.audit_report.specs.declared.report_text.ReportText.{ReportText}
use Rattle.sessions.specs.Refusals.{IsStopped}
use Rattle.sessions.specs.Standing.{StandsFor, mode_of, session_scenario}
use Rattle.sessions.specs.declared.session.Session.{Session}
use Rattle.sessions.specs.declared.session_fault.SessionFault.{SessionFault}
use Rattle.sessions.specs.declared.session_fault.SessionFault.TheVariants as fault

-- The session took the piece, and what was decided by it stands in the text behind a front.
pub record TookPiece (session session' : Session) (piece front : List ℕ) (text : ReportText) : Type 0 where
  pub more : List ℕ
  pub has : HasText text (front ++ more)
  pub stands : (fed given : List ℕ) → StandsFor session fed given → StandsFor session' (fed ++ piece) (given ++ more)

-- The log is refused within the piece, and what the bytes before that place decided stands in the text behind a front.
pub record Refuses (session : Session) (piece front : List ℕ) (text : ReportText) (why : SessionFault) : Type 0 where
  pub more : List ℕ
  pub has : HasText text (front ++ more)
  pub stopped : (fed given : List ℕ) → StandsFor session fed given → IsStopped (mode_of session) (session_scenario session) (fed ++ piece) why (given ++ more)

-- P holds, unless memory ran out.
abbrev pub UnlessMemory : SessionFault → Type 0 → Type 0
UnlessMemory fault.Vessels P = P
UnlessMemory fault.Pairs P = P
UnlessMemory fault.LogBytes P = P
UnlessMemory (fault.Own why) P = P
UnlessMemory fault.Targets P = P
UnlessMemory (fault.Entry k) P = P
UnlessMemory fault.Memory P = Unit {0}
