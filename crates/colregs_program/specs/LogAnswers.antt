-- What a run answers to its log, and what it leaves in the sink.
use Rattle.std.specs.Prelude.{ℕ, ◌≡◌, ◌++◌, Bool, true, false, List, Option, Ok, Err}
use Rattle.std.specs.Io.KnownBytes.{Appends, Consumes}
use Rattle.outside.specs.Streams.{AppendsPart}
use Rattle.tasks.specs.declared.mode.Mode.{Mode}
use Rattle.log_lines.specs.JudgedLines.{greatest_held}
use Rattle.plan_situations.specs.PlanSituations.{greatest_targets}
use Rattle.scenario_values.specs.declared.values.Scenario.{Scenario}
use Rattle.sessions.specs.Endings.{Came, IsEnding}
use Rattle.sessions.specs.Refusals.{IsMet, IsStopped, IsUnrefused}
use Rattle.sessions.specs.SettledText.{IsSettledText}
use Rattle.sessions.specs.declared.session_fault.SessionFault.{SessionFault}
use Rattle.sessions.specs.Tasks.{Task}
use Rattle.sessions.specs.declared.session_fault.SessionFault.TheVariants as fault
use Rattle.traces.specs.declared.all_traces.TheConstants.{MOST_TRACES}
use Rattle.colregs_program.specs.Stages.{is_at_finish, stage_of}
use Rattle.colregs_program.specs.declared.status.Status.{Status}
use Rattle.colregs_program.specs.declared.status.Status.TheVariants as status
use Rattle.colregs_program.specs.declared.status.Which.TheVariants as which

-- the answer of a run that is finished, with a manoeuvre or without one
abbrev pub finished : Bool → Status
finished true = status.NoManoeuvre
finished false = status.Done

-- the answer of a run whose session gives no report, where its log may have so many bytes
abbrev pub answer_without : SessionFault → ℕ → Status
answer_without fault.Vessels most = status.Limit which.Vessels greatest_held
answer_without fault.Pairs most = status.Limit which.Pairs MOST_TRACES
answer_without fault.LogBytes most = status.Limit which.Log most
answer_without (fault.Own why) most = status.OwnUnready why
answer_without fault.Targets most = status.Limit which.Targets greatest_targets
answer_without (fault.Entry index) most = status.BadEntry index
answer_without fault.Memory most = status.Memory

-- the answer of a run whose log comes to this
abbrev pub answer_of : Scenario → Came → Status
answer_of scenario (Ok none) = finished none
answer_of scenario (Err why) = answer_without why scenario.log.max_bytes

-- The run is finished: its report is written.
abbrev pub IsFinished : Status → Bool
IsFinished answer = is_at_finish (stage_of answer)

-- The answer to a log.
pub record IsAnswered (task : Task) (scenario : Scenario) (log : List ℕ) (answer : Status) : Type 0 where
  pub came : Came
  pub met : IsMet task scenario log came
  pub is : answer ≡ answer_of scenario came

-- ---- what is left in the sink

-- The sink gained the report on the log.
pub record GainsReport (task : Task) (scenario : Scenario) (log : List ℕ) (contents contents' : Option (List ℕ)) : Type 0 where
  pub text : List ℕ
  pub is : IsEnding task scenario log text
  pub gained : Appends contents contents' text

-- No refusal is met in the bytes, and the sink gained what they settle.
pub record GainsSettled (mode : Mode) (scenario : Scenario) (read : List ℕ) (contents contents' : Option (List ℕ)) : Type 0 where
  pub unrefused : IsUnrefused mode scenario read
  pub text : List ℕ
  pub settled : IsSettledText mode scenario read text
  pub gained : Appends contents contents' text

-- The log is refused at a place with this answer, and the sink gained what the bytes before it settle.
pub record IsStoppedBy (mode : Mode) (scenario : Scenario) (log : List ℕ) (contents contents' : Option (List ℕ)) (answer : Status) : Type 0 where
  pub why : SessionFault
  pub text : List ℕ
  pub stopped : IsStopped mode scenario log why text
  pub is : answer ≡ answer_of scenario (Err why)
  pub gained : Appends contents contents' text

-- No refusal is met in what was read of the log, and the sink gained what that settles.
pub record LeavesSettled (mode : Mode) (scenario : Scenario) (left left' contents contents' : Option (List ℕ)) : Type 0 where
  pub read : List ℕ
  pub taken : Consumes left left' read
  pub gains : GainsSettled mode scenario read contents contents'

-- The sink gained what a front of the log settles, in which no refusal is met.
pub record GainsFront (mode : Mode) (scenario : Scenario) (log : List ℕ) (contents contents' : Option (List ℕ)) : Type 0 where
  pub front : List ℕ
  pub rest : List ℕ
  pub whole : log ≡ front ++ rest
  pub gains : GainsSettled mode scenario front contents contents'

-- The sink gained a proper front of what a front of the bytes that were read settles, in which no refusal is met.
pub record LeavesPart (mode : Mode) (scenario : Scenario) (left left' contents contents' : Option (List ℕ)) : Type 0 where
  pub front : List ℕ
  pub rest : List ℕ
  pub taken : Consumes left left' (front ++ rest)
  pub unrefused : IsUnrefused mode scenario front
  pub text : List ℕ
  pub settled : IsSettledText mode scenario front text
  pub part : AppendsPart contents contents' text

-- The sink gained a proper front of the report on the log.
pub record GainsPart (task : Task) (scenario : Scenario) (log : List ℕ) (contents contents' : Option (List ℕ)) : Type 0 where
  pub none : Bool
  pub met : IsMet task scenario log (Ok none)
  pub text : List ℕ
  pub is : IsEnding task scenario log text
  pub part : AppendsPart contents contents' text

-- The log comes to a report, and the sink gained it.
pub record Reports (task : Task) (scenario : Scenario) (log : List ℕ) (none : Bool) (contents contents' : Option (List ℕ)) : Type 0 where
  pub met : IsMet task scenario log (Ok none)
  pub gains : GainsReport task scenario log contents contents'
