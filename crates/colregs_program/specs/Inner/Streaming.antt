-- What is read of a log, and what is written of its report, block by block.
use Rattle.std.specs.Prelude.{ℕ, ◌≡◌, ◌≢◌, ◌<◌, ◌⊎◌, ◌++◌, Bool, true, false, IsTrue, List, length, Option, IfSome, Err}
use Rattle.std.specs.Io.KnownBytes.{Appends, Consumes, IsAtEnd, Keeps}
use Rattle.outside.specs.Causes.{one_more}
use Rattle.outside.specs.Streams.{AppendsPart}
use Rattle.outside.specs.WholeReading.{StopsAt}
use Rattle.audit_report.specs.ReportTexts.{HasText}
use Rattle.audit_report.specs.declared.report_text.ReportText.{ReportText}
use Rattle.outside.specs.declared.whole.ReadFault.TheVariants as read
use Rattle.tasks.specs.declared.mode.Mode.{Mode}
use Rattle.command_line.specs.declared.request.ReportRequest.{ReportRequest}
use Rattle.scenario_values.specs.declared.values.Scenario.{Scenario}
use Rattle.sessions.specs.Endings.{IsAnswerTo}
use Rattle.tasks.specs.Modes.{reads_log}
use Rattle.tasks.specs.Tasks.{task_mode}
use Rattle.sessions.specs.Refusals.{IsStopped, IsUnrefused}
use Rattle.sessions.specs.Standing.{StandsFor, mode_of, session_scenario}
use Rattle.sessions.specs.declared.session.Session.{Session}
use Rattle.sessions.specs.declared.session_fault.SessionFault.{SessionFault}
use Rattle.sessions.specs.Tasks.{Task}
use Rattle.sessions.specs.declared.session_fault.SessionFault.TheVariants as why
use Rattle.colregs_program.specs.LogAnswers.{GainsFront, GainsPart, GainsSettled, LeavesPart, LeavesSettled, answer_of, answer_without}
use Rattle.colregs_program.specs.AskedScenarios.{log_of}
use Rattle.colregs_program.specs.Answers.{EndsWith, StopsWith, WritesPart}
use Rattle.colregs_program.specs.declared.status.Status.{Status}
use Rattle.colregs_program.specs.declared.status.Status.TheVariants as status
use Rattle.colregs_program.specs.declared.streaming.StreamFault.{StreamFault}
use Rattle.colregs_program.specs.declared.streaming.StreamFault.TheVariants as fault

abbrev pub no_memory : StreamFault
no_memory = fault.Unreported why.Memory

-- A log that is made cannot be read where there is no memory to make it, and nowhere else.
abbrev pub made_fault : StreamFault → StreamFault
made_fault fault.NotRead = no_memory
made_fault fault.NotWritten = fault.NotWritten
made_fault (fault.Unreported because) = fault.Unreported because

-- the answer of a run that ends with this fault, where its log may have so many bytes
abbrev pub stream_status : StreamFault → ℕ → Status
stream_status fault.NotRead most = status.ReadFault
stream_status fault.NotWritten most = status.WriteFault
stream_status (fault.Unreported because) most = answer_without because most

-- The session was fed what was taken of the log, and the sink gained what it has given.
pub record HasWritten (session : Session) (left left' contents contents' : Option (List ℕ)) : Type 0 where
  pub fed : List ℕ
  pub given : List ℕ
  pub stands : StandsFor session fed given
  pub taken : Consumes left left' fed
  pub gained : Appends contents contents' given

-- All that was before determines what was fed and written, and what was taken of the log since.
abbrev pub FromHere : Session → List ℕ → Option (List ℕ) → (Option (List ℕ) → Option (List ℕ) → Option (List ℕ) → Type 0) → Type 0
FromHere session piece now P =
    (first left left' contents : Option (List ℕ)) → HasWritten session first left contents now → Consumes left left' piece → P first left' contents

-- The log is refused at a place, and the sink gained what the bytes before it settle.
pub record Stops (mode : Mode) (scenario : Scenario) (left contents contents' : Option (List ℕ)) (because : SessionFault) : Type 0 where
  pub stops : IfSome left (λ log. (text : List ℕ) × IsStopped mode scenario log because text × Appends contents contents' text)

-- The log was read to its end and comes to nothing there, and the sink gained what it settles.
pub record Ends (task : Task) (scenario : Scenario) (left left' contents contents' : Option (List ℕ)) (because : SessionFault) : Type 0 where
  pub end : IsAtEnd left'
  pub ends : IfSome left (λ log. IsUnrefused task.mode scenario log × IsAnswerTo task scenario log (Err because) × GainsSettled task.mode scenario log contents contents')

-- what a fault says of a text that was to be written
abbrev pub PutCause : ReportText → Option (List ℕ) → Option (List ℕ) → StreamFault → Type 0
PutCause text now now' fault.NotRead = ⊥
PutCause text now now' fault.NotWritten = (bytes : List ℕ) → HasText text bytes → AppendsPart now now' bytes
PutCause text now now' (fault.Unreported because) = (because ≡ why.Memory) × (now' ≡ now)

-- what a fault says of the text of what was decided before a refusal
abbrev pub RefusedCause : ReportText → SessionFault → Option (List ℕ) → Option (List ℕ) → StreamFault → Type 0
RefusedCause text refusal now now' fault.NotRead = ⊥
RefusedCause text refusal now now' fault.NotWritten = (refusal ≢ why.Memory) × ((bytes : List ℕ) → HasText text bytes → AppendsPart now now' bytes)
RefusedCause text refusal now now' (fault.Unreported because) =
    ((because ≡ why.Memory) × (now' ≡ now))
    ⊎ ((because ≡ refusal) × (refusal ≢ why.Memory) × ((bytes : List ℕ) → HasText text bytes → Appends now now' bytes))

-- what a fault says of a piece that was fed
abbrev pub PieceCause : Session → List ℕ → Option (List ℕ) → Option (List ℕ) → StreamFault → Type 0
PieceCause session piece now now' fault.NotRead = ⊥
PieceCause session piece now now' fault.NotWritten =
    FromHere session piece now (λ first left' contents. LeavesPart (mode_of session) (session_scenario session) first left' contents now')
PieceCause session piece now now' (fault.Unreported why.Memory) =
    FromHere session piece now (λ first left' contents. IfSome first (λ log. GainsFront (mode_of session) (session_scenario session) log contents now'))
PieceCause session piece now now' (fault.Unreported why.Vessels) =
    FromHere session piece now (λ first left' contents. Stops (mode_of session) (session_scenario session) first contents now' why.Vessels)
PieceCause session piece now now' (fault.Unreported why.Pairs) =
    FromHere session piece now (λ first left' contents. Stops (mode_of session) (session_scenario session) first contents now' why.Pairs)
PieceCause session piece now now' (fault.Unreported why.LogBytes) =
    FromHere session piece now (λ first left' contents. Stops (mode_of session) (session_scenario session) first contents now' why.LogBytes)
    × ((fed given : List ℕ) → StandsFor session fed given → (session_scenario session).log.max_bytes < length (fed ++ piece))
PieceCause session piece now now' (fault.Unreported (why.Own lack)) = ⊥
PieceCause session piece now now' (fault.Unreported why.Targets) = ⊥
PieceCause session piece now now' (fault.Unreported (why.Entry index)) = ⊥

-- what a fault says of what was taken of a log from its beginning, and of what the sink gained
abbrev pub StreamCause : Task → Scenario → Option (List ℕ) → Option (List ℕ) → Option (List ℕ) → Option (List ℕ) → StreamFault → Type 0
StreamCause task scenario left left' contents contents' fault.NotRead = LeavesSettled task.mode scenario left left' contents contents'
StreamCause task scenario left left' contents contents' fault.NotWritten =
    LeavesPart task.mode scenario left left' contents contents' ⊎ (IsAtEnd left' × IfSome left (λ log. GainsPart task scenario log contents contents'))
StreamCause task scenario left left' contents contents' (fault.Unreported why.Vessels) =
    Stops task.mode scenario left contents contents' why.Vessels ⊎ Ends task scenario left left' contents contents' why.Vessels
StreamCause task scenario left left' contents contents' (fault.Unreported why.Pairs) =
    Stops task.mode scenario left contents contents' why.Pairs ⊎ Ends task scenario left left' contents contents' why.Pairs
StreamCause task scenario left left' contents contents' (fault.Unreported why.LogBytes) =
    StopsAt scenario.log.max_bytes 0 left left' read.TooLong × Stops task.mode scenario left contents contents' why.LogBytes
StreamCause task scenario left left' contents contents' (fault.Unreported (why.Own lack)) =
    Ends task scenario left left' contents contents' (why.Own lack) × Keeps contents contents'
StreamCause task scenario left left' contents contents' (fault.Unreported why.Targets) =
    Ends task scenario left left' contents contents' why.Targets × Keeps contents contents'
StreamCause task scenario left left' contents contents' (fault.Unreported (why.Entry index)) =
    Ends task scenario left left' contents contents' (why.Entry index) × Keeps contents contents'
StreamCause task scenario left left' contents contents' (fault.Unreported why.Memory) = IfSome left (λ log. GainsFront task.mode scenario log contents contents')

-- what it does to the counts of faults of the log and of the sink
abbrev pub LogCount : ℕ → ℕ → StreamFault → Type 0
LogCount before now fault.NotRead = now ≡ one_more before
LogCount before now fault.NotWritten = now ≡ before
LogCount before now (fault.Unreported because) = now ≡ before

abbrev pub OutCount : ℕ → ℕ → StreamFault → Type 0
OutCount before now fault.NotRead = now ≡ before
OutCount before now fault.NotWritten = now ≡ one_more before
OutCount before now (fault.Unreported because) = now ≡ before

-- ---- of a request

-- what a fault says of the log of a request, and of what the sink gained
abbrev pub ReportCause : ReportRequest → List ℕ → Scenario → Option (List ℕ) → Option (List ℕ) → Option (List ℕ) → Option (List ℕ) → StreamFault → Type 0
ReportCause request rows scenario left left' contents contents' fault.NotRead =
    IsTrue (reads_log (task_mode request.task)) × LeavesSettled (task_mode request.task) scenario left left' contents contents'
ReportCause request rows scenario left left' contents contents' fault.NotWritten = WritesPart request rows scenario left left' contents contents'
ReportCause request rows scenario left left' contents contents' (fault.Unreported why.Vessels) =
    StopsWith request scenario left contents contents' (answer_of scenario (Err why.Vessels)) ⊎ EndsWith request rows scenario left left' contents contents' (answer_of scenario (Err why.Vessels))
ReportCause request rows scenario left left' contents contents' (fault.Unreported why.Pairs) =
    StopsWith request scenario left contents contents' (answer_of scenario (Err why.Pairs)) ⊎ EndsWith request rows scenario left left' contents contents' (answer_of scenario (Err why.Pairs))
ReportCause request rows scenario left left' contents contents' (fault.Unreported why.LogBytes) =
    (IsTrue (reads_log (task_mode request.task)) → StopsAt scenario.log.max_bytes 0 left left' read.TooLong)
    × StopsWith request scenario left contents contents' (answer_of scenario (Err why.LogBytes))
ReportCause request rows scenario left left' contents contents' (fault.Unreported (why.Own lack)) =
    EndsWith request rows scenario left left' contents contents' (answer_of scenario (Err (why.Own lack))) × Keeps contents contents'
ReportCause request rows scenario left left' contents contents' (fault.Unreported why.Targets) =
    EndsWith request rows scenario left left' contents contents' (answer_of scenario (Err why.Targets)) × Keeps contents contents'
ReportCause request rows scenario left left' contents contents' (fault.Unreported (why.Entry index)) =
    EndsWith request rows scenario left left' contents contents' (answer_of scenario (Err (why.Entry index))) × Keeps contents contents'
ReportCause request rows scenario left left' contents contents' (fault.Unreported why.Memory) = IfSome (log_of request scenario left) (λ log. GainsFront (task_mode request.task) scenario log contents contents')

-- A drill ends with these faults alone.
abbrev pub is_of_drill : StreamFault → Bool
is_of_drill fault.NotRead = false
is_of_drill fault.NotWritten = true
is_of_drill (fault.Unreported why.Vessels) = false
is_of_drill (fault.Unreported why.Pairs) = false
is_of_drill (fault.Unreported why.LogBytes) = true
is_of_drill (fault.Unreported (why.Own lack)) = false
is_of_drill (fault.Unreported why.Targets) = false
is_of_drill (fault.Unreported (why.Entry index)) = false
is_of_drill (fault.Unreported why.Memory) = true
