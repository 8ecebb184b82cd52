-- What holds at a log's end.
use Rattle.std.specs.Prelude.{ℕ, List, ◌++◌, Ok}
use Rattle.audit_report.specs.ReportTexts.{HasText}
use Rattle.audit_report.specs.declared.report_text.ReportText.{ReportText}
use Rattle.audit_rows.specs.declared.row.Row.{Row}
use Rattle.log_lines.specs.LogLines.{lines_of}
use Rattle.log_lines.specs.Standing.{StandsFor as JudgeStandsFor}
use Rattle.log_lines.specs.declared.judge.Judge.{Judge}
use Rattle.scenario_values.specs.declared.values.Scenario.{Scenario}
use Rattle.early_monitor.specs.declared.alarm.Alarm.{Alarm}
use Rattle.settling.specs.Standing.{StandsFor as AuditStandsFor}
use Rattle.settling.specs.WatchStanding.{StandsFor as WatchStandsFor}
use Rattle.settling.specs.declared.settled_audit.SettledAudit.{SettledAudit}
use Rattle.settling.specs.declared.settled_watch.SettledWatch.{SettledWatch}
use Rattle.sessions.specs.Endings.{IsAnswerOf, IsReport}
use Rattle.sessions.specs.Standing.{mode_by}
use Rattle.sessions.specs.Inner.Faults.{EndCause}
use Rattle.sessions.specs.Inner.Working.{IsDone}
use Rattle.sessions.specs.declared.asked.Asked.{Asked}
use Rattle.sessions.specs.declared.ending.Ending.{Ending}
use Rattle.sessions.specs.declared.session_fault.SessionFault.{SessionFault}
use Rattle.sessions.specs.declared.work.Work.{Work}

-- The work was done on all lines of the log, all were judged, and the text that they decide was given.
pub record IsAtEnd (work : Work) (judge : Judge) (scenario : Scenario) (log given : List ℕ) : Type 0 where
  pub done : IsDone work scenario (lines_of log) given
  pub judged : JudgeStandsFor judge scenario (lines_of log)

-- What the end of the work gives for each log that it has reached the end of: the rest of the report that is asked for, after its front in the text, ..
abbrev pub EndsWithReport : Work → Judge → Scenario → Asked → ReportText → Ending → Type 0
EndsWithReport work judge scenario asked text ending = (log given front : List ℕ) → HasText text front → IsAtEnd work judge scenario log (given ++ front)
    → IsReport (mode_by work) asked.why asked.rows.now scenario log (given ++ ending.bytes.items)

-- .. the answer that it is, ..
abbrev pub EndsWithAnswer : Work → Judge → Scenario → Asked → Ending → Type 0
EndsWithAnswer work judge scenario asked ending = (log given : List ℕ) → IsAtEnd work judge scenario log given
    → IsAnswerOf (mode_by work) asked.rows.now scenario log (Ok ending.none)

-- .. or why there is none.
abbrev pub EndsWithCause : Work → Judge → Scenario → Asked → SessionFault → Type 0
EndsWithCause work judge scenario asked why = (log given : List ℕ) → IsAtEnd work judge scenario log given → EndCause (mode_by work) asked.rows.now scenario log why

-- The audit or watch stands for all lines of the log, and has given these items; and the judge has taken the lines.
module _ {Item : Type 0} (Stands : List (List ℕ) → List Item → Type 0) (judge : Judge) (scenario : Scenario) (log : List ℕ) where
  pub record HasGiven (given : List Item) : Type 0 where
    pub stands : Stands (lines_of log) given
    pub judged : JudgeStandsFor judge scenario (lines_of log)

-- An audit, and the rows that it has given.
abbrev pub IsAuditOf : SettledAudit → Judge → Scenario → List ℕ → List Row → Type 0
IsAuditOf audit judge scenario = HasGiven (AuditStandsFor audit scenario) judge scenario

pub record IsAuditAtEnd (audit : SettledAudit) (judge : Judge) (scenario : Scenario) : Type 0 where
  pub log : List ℕ
  pub given : List Row
  pub is : IsAuditOf audit judge scenario log given

-- A watch, and the alarms that it has given.
abbrev pub IsWatchOf : SettledWatch → Judge → Scenario → List ℕ → List Alarm → Type 0
IsWatchOf watch judge scenario = HasGiven (WatchStandsFor watch scenario) judge scenario

pub record IsWatchAtEnd (watch : SettledWatch) (judge : Judge) (scenario : Scenario) : Type 0 where
  pub log : List ℕ
  pub given : List Alarm
  pub is : IsWatchOf watch judge scenario log given
