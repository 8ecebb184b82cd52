-- When a run gives which answer.
use Rattle.std.specs.Prelude.{ℕ, ◌≡◌, ◌≤◌, ◌<◌, ◌⊎◌, ◌^◌, Bool, true, false, ◌||◌, not, IsTrue, List, [], length, Option, Some, None, IfSome}
use Rattle.std.specs.Io.KnownBytes.{IsAtEnd}
use Rattle.outside.specs.Shelves.{Files, IsMissing, content_of}
use Rattle.command_line.specs.GivenArguments.{AskForNothing}
use Rattle.command_line.specs.Requests.{AskFor}
use Rattle.tasks.specs.declared.mode.Mode.{Mode}
use Rattle.command_line.specs.declared.request.ReportRequest.{ReportRequest}
use Rattle.command_line.specs.declared.request.Request.{Request}
use Rattle.command_line.specs.declared.request.Request.TheVariants as asked
use Rattle.scenario.specs.Migration.{IsMigrated, IsNotMigrated}
use Rattle.scenario.specs.ScenarioReading.{IsRefused, Means}
use Rattle.scenario_keys.specs.declared.key.Key.{Key}
use Rattle.scenario_keys.specs.declared.cause.Cause.{Cause}
use Rattle.scenario_values.specs.declared.values.Scenario.{Scenario}
use Rattle.colregs_program.specs.LogAnswers.{GainsPart, IsAnswered, IsStoppedBy, GainsSettled, LeavesPart}
use Rattle.colregs_program.specs.Stages.{is_at_end, is_before_log, is_in_log, stage_of}
use Rattle.colregs_program.specs.AskedScenarios.{OfReport, log_of, scenario_name, task_of, with_options}
use Rattle.refutation_check.specs.declared.checked_text.TheConstants.{GREATEST_TEXT}
use Rattle.tasks.specs.Modes.{needs_own, needs_rows, reads_log}
use Rattle.tasks.specs.Tasks.{task_mode, task_rows}
use Rattle.colregs_program.specs.declared.status.Status.{Status}
use Rattle.colregs_program.specs.declared.status.Status.TheVariants as status
use Rattle.colregs_program.specs.declared.status.Which.TheVariants as which

-- the greatest length of a scenario, in bytes
abbrev pub greatest_scenario : ℕ
greatest_scenario = 2 ^ 20

-- The words ask for a request, and P holds of it.
abbrev pub Requested : List (List ℕ) → (Request → Type 0) → Type 0
Requested words P = (request : Request) × AskFor words request × P request

-- The words ask for a report, and P holds of it.
abbrev pub ReportRequested : List (List ℕ) → (ReportRequest → Type 0) → Type 0
ReportRequested words P = (request : ReportRequest) × AskFor words (asked.Report request) × P request

-- The files of the shelf are known, and P holds of the bytes that lie under the name.
abbrev pub LiesUnder : Option Files → List ℕ → (List ℕ → Type 0) → Type 0
LiesUnder files name P = (held : Files) × (text : List ℕ) × (files ≡ Some held) × (content_of name held ≡ Some text) × P text

-- If the files of the shelf are known, P holds of the bytes that lie under the name.
abbrev pub HoldsUnder : Option Files → List ℕ → (List ℕ → Type 0) → Type 0
HoldsUnder None name P = Unit {0}
HoldsUnder (Some held) name P = (text : List ℕ) × (content_of name held ≡ Some text) × P text

-- The request refuses the bytes at a key, for a cause: as a scenario, or as one that is to be migrated.
abbrev pub IsRefusedBy : Request → List ℕ → Key → Cause → Type 0
IsRefusedBy (asked.Migration name) text key cause = IsNotMigrated text key cause
IsRefusedBy (asked.Report request) text key cause = IsRefused (needs_own (task_mode request.task)) text key cause

-- The bytes are those of a scenario, with own ship where the mode needs her, and with the options in place its values are these.
pub record IsScenario (request : ReportRequest) (text : List ℕ) (scenario : Scenario) : Type 0 where
  pub short : length text ≤ greatest_scenario
  pub told : Scenario
  pub means : Means (needs_own (task_mode request.task)) text told
  pub values : scenario ≡ with_options request.window told

-- The rows that a mode needs lie under their name, and are not too long. A mode that needs none has none.
abbrev pub AreRowsWhere : Bool → Option Files → List ℕ → List ℕ → Type 0
AreRowsWhere true files name rows = HoldsUnder files name (λ text. (text ≡ rows) × (length rows ≤ GREATEST_TEXT))
AreRowsWhere false files name rows = rows ≡ []

abbrev pub AreRows : Option Files → ReportRequest → List ℕ → Type 0
AreRows files request rows = AreRowsWhere (needs_rows (task_mode request.task)) files (task_rows request.task) rows

-- The words ask for a report on a log, and Q holds of the request; and if the files of the shelf are known, the bytes under the request's
-- name are those of a scenario, and P holds of the request, of the rows that it needs and of the scenario's values.
abbrev pub Runs : List (List ℕ) → Option Files → (ReportRequest → Type 0) → (ReportRequest → List ℕ → Scenario → Type 0) → Type 0
Runs words files Q P =
    ReportRequested words (λ request. Q request
    × HoldsUnder files request.name (λ text. (scenario : Scenario) × IsScenario request text scenario
    × (rows : List ℕ) × AreRows files request rows × P request rows scenario))

-- The words ask for a migration of the scenario of this name.
abbrev pub AskForMigration : List (List ℕ) → List ℕ → Type 0
AskForMigration words name = AskFor words (asked.Migration name)

-- The words ask for a migration; and if the files of the shelf are known, the bytes under the request's name are those of a scenario of
-- version 1, and P holds of some text that is the same scenario in version 2.
abbrev pub Migrates : List (List ℕ) → Option Files → (List ℕ → Type 0) → Type 0
Migrates words files P =
    (name : List ℕ) × AskForMigration words name × HoldsUnder files name (λ text. (length text ≤ greatest_scenario)
    × (migrated : List ℕ) × IsMigrated text migrated × P migrated)

-- A mode that reads the log has read it to its end.
abbrev pub IsReadBy : Mode → Option (List ℕ) → Type 0
IsReadBy mode left = IsTrue (reads_log mode) → IsAtEnd left

-- The request's log has this answer, if its bytes are known.
abbrev pub MetIn : ReportRequest → List ℕ → Scenario → Option (List ℕ) → Status → Type 0
MetIn request rows scenario given answer = IfSome (log_of request scenario given) (λ bytes. IsAnswered (task_of request rows) scenario bytes answer)

-- The request's log is refused with this answer at a place before its end, and the sink gained what the bytes before the place settle.
abbrev pub StopsWith : ReportRequest → Scenario → Option (List ℕ) → Option (List ℕ) → Option (List ℕ) → Status → Type 0
StopsWith request scenario given contents contents' answer =
    IfSome (log_of request scenario given) (λ bytes. IsStoppedBy (task_mode request.task) scenario bytes contents contents' answer)

-- The request's log was read to its end where it is read, is answered so there, and the sink gained what the log settles.
pub record EndsWith (request : ReportRequest) (rows : List ℕ) (scenario : Scenario) (given left contents contents' : Option (List ℕ)) (answer : Status) : Type 0 where
  pub read : IsReadBy (task_mode request.task) left
  pub ends : IfSome (log_of request scenario given) (λ bytes. IsAnswered (task_of request rows) scenario bytes answer × GainsSettled (task_mode request.task) scenario bytes contents contents')

-- The sink gained a proper front of what was decided so far, or of the report once the log's end was read.
abbrev pub WritesPart : ReportRequest → List ℕ → Scenario → Option (List ℕ) → Option (List ℕ) → Option (List ℕ) → Option (List ℕ) → Type 0
WritesPart request rows scenario given left contents contents' =
    (IsTrue (reads_log (task_mode request.task)) × LeavesPart (task_mode request.task) scenario given left contents contents')
    ⊎ (IsReadBy (task_mode request.task) left × IfSome (log_of request scenario given) (λ bytes. GainsPart (task_of request rows) scenario bytes contents contents'))

-- A known scenario lies under the request's name.
abbrev pub HasScenario : Option Files → ReportRequest → Scenario → Type 0
HasScenario files request scenario = LiesUnder files request.name (λ text. IsScenario request text scenario)

-- The words ask for a report on a log; the scenario under the request's name, the rows that it needs and its log are known.
pub record IsReady (words : List (List ℕ)) (files : Option Files) (given : Option (List ℕ))
    (request : ReportRequest) (rows : List ℕ) (scenario : Scenario) (bytes : List ℕ) : Type 0 where
  pub asked : AskFor words (asked.Report request)
  pub lies : HasScenario files request scenario
  pub are_rows : AreRows files request rows
  pub gives : log_of request scenario given ≡ Some bytes

-- A run that is ready meets this answer in the log.
abbrev pub MeetsAnswer : List (List ℕ) → Option Files → Option (List ℕ) → Status → Type 0
MeetsAnswer words files log answer =
    (request : ReportRequest) × (rows : List ℕ) × (scenario : Scenario) × (bytes : List ℕ)
    × IsReady words files log request rows scenario bytes × IsAnswered (task_of request rows) scenario bytes answer

-- Nothing is against a migration of the bytes.
abbrev pub CanMigrate : List ℕ → Type 0
CanMigrate text = (key : Key) (cause : Cause) → ¬ IsNotMigrated text key cause

-- The words ask for a migration, and the bytes under the request's name are known and can be migrated.
abbrev pub MayMigrate : List (List ℕ) → Option Files → Type 0
MayMigrate words files =
    (name : List ℕ) × AskForMigration words name × LiesUnder files name (λ text. (length text ≤ greatest_scenario) × CanMigrate text)

-- The request's mode needs rows, its scenario is known, and P holds of the rows' name.
abbrev pub LooksForRows : Option Files → ReportRequest → (List ℕ → Type 0) → Type 0
LooksForRows files request P =
    IsTrue (needs_rows (task_mode request.task)) × ((scenario : Scenario) × HasScenario files request scenario) × P (task_rows request.task)

-- Nothing lies under the request's name; or it needs rows, and nothing lies under theirs.
abbrev pub MissesFile : Option Files → Request → Type 0
MissesFile files request =
    IsMissing files (scenario_name request) ⊎ OfReport request (λ report. LooksForRows files report (λ name. IsMissing files name))

-- It needs rows, and they are too long.
abbrev pub HasLongRows : Option Files → ReportRequest → Type 0
HasLongRows files request = LooksForRows files request (λ name. LiesUnder files name (λ text. GREATEST_TEXT < length text))

-- The answer that words, shelf and log call for, if the contents of the shelf and the log are known: the first that stands in
-- the way of a run; and where nothing does, `NoManoeuvre` where every plan fails, and `Done` else.
abbrev pub IsDue : List (List ℕ) → Option Files → Option (List ℕ) → Status → Type 0
IsDue words files log status.Usage = AskForNothing words
IsDue words files log status.ShelfFault = Requested words (MissesFile files)
IsDue words files log (status.Limit which.Scenario most) =
    (most ≡ greatest_scenario) × Requested words (λ request. LiesUnder files (scenario_name request) (λ text. greatest_scenario < length text))
IsDue words files log (status.Limit which.Rows most) = (most ≡ GREATEST_TEXT) × ReportRequested words (HasLongRows files)
IsDue words files log (status.Scenario key cause) =
    Requested words (λ request. LiesUnder files (scenario_name request) (λ text. (length text ≤ greatest_scenario) × IsRefusedBy request text key cause))
IsDue words files log status.Done = MeetsAnswer words files log status.Done ⊎ MayMigrate words files
IsDue words files log status.ReadFault = ⊥
IsDue words files log status.WriteFault = ⊥
IsDue words files log status.Memory = ⊥
IsDue words files log met = MeetsAnswer words files log met

-- A limit that no scenario sets is reported with its number: 2^20 bytes of a scenario, 4096 vessels held, 4096 traces, 64 targets, and 2^24 bytes of rows.
abbrev pub TellsLimit : Status → Type 0
TellsLimit (status.Limit which.Scenario most) = most ≡ 2 ^ 20
TellsLimit (status.Limit which.Vessels most) = most ≡ 4096
TellsLimit (status.Limit which.Pairs most) = most ≡ 4096
TellsLimit (status.Limit which.Targets most) = most ≡ 64
TellsLimit (status.Limit which.Rows most) = most ≡ 2 ^ 24
TellsLimit answer = Unit {0}

-- ---- how far a run has come

-- Nothing of the log is asked for before these answers.
abbrev pub IsBeforeLog : Status → Bool
IsBeforeLog answer = is_before_log (stage_of answer)

-- Nothing is written before these answers.
abbrev pub WritesNothing : Status → Bool
WritesNothing answer = is_before_log (stage_of answer) || is_at_end (stage_of answer)

-- These answers may come before the rows of a request are asked for.
abbrev pub MayPrecedeRows : Status → Bool
MayPrecedeRows status.ShelfFault = true
MayPrecedeRows (status.Limit which.Scenario most) = true
MayPrecedeRows (status.Scenario key cause) = true
MayPrecedeRows status.Memory = true
MayPrecedeRows answer = false

-- A migration gives these answers alone.
abbrev pub IsOfMigration : Status → Bool
IsOfMigration status.NoManoeuvre = false
IsOfMigration (status.Limit which.Rows most) = false
IsOfMigration answer = not (is_in_log (stage_of answer) || is_at_end (stage_of answer))

-- A drill gives these answers alone: its forty vessels meet no limit but that of its log.
abbrev pub IsOfDrill : Status → Bool
IsOfDrill (status.Limit which.Log most) = true
IsOfDrill answer = IsOfMigration answer
