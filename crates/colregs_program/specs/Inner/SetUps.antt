-- Why a scenario is not had from a shelf.
use Rattle.std.specs.Prelude.{ℕ, ◌≡◌, ◌≤◌, ◌<◌, ◌⊎◌, Bool, true, false, IsTrue, List, [], length, Option, Result, Ok, Err, IfSome, Vec}
use Rattle.std.specs.declared.alloc.Global.{Global}
use Rattle.outside.specs.Causes.{one_more}
use Rattle.outside.specs.Shelves.{Files, IsMissing}
use Rattle.scenario_values.specs.declared.values.Scenario.{Scenario}
use Rattle.scenario_keys.specs.declared.fault.ScenarioFault.{ScenarioFault}
use Rattle.scenario_keys.specs.declared.fault.ScenarioFault.TheVariants as refusal
use Rattle.scenario.specs.ScenarioReading.{IsRefused}
use Rattle.colregs_program.specs.Answers.{HasScenario, HoldsUnder, LiesUnder, greatest_scenario}
use Rattle.refutation_check.specs.declared.checked_text.TheConstants.{GREATEST_TEXT}
use Rattle.tasks.specs.Modes.{needs_own, needs_rows}
use Rattle.tasks.specs.Tasks.{task_mode, task_rows}
use Rattle.colregs_program.specs.declared.set_up.SetUp.{SetUp}
use Rattle.command_line.specs.declared.request.WindowOptions.{WindowOptions}
use Rattle.command_line.specs.declared.request.ReportRequest.{ReportRequest}
use Rattle.colregs_program.specs.declared.fetching.FetchFault.{FetchFault}
use Rattle.colregs_program.specs.declared.fetching.FetchFault.TheVariants as fetch
use Rattle.colregs_program.specs.declared.set_up.SetUpFault.{SetUpFault}
use Rattle.colregs_program.specs.declared.set_up.SetUpFault.TheVariants as fault
use Rattle.colregs_program.specs.declared.status.Status.{Status}
use Rattle.colregs_program.specs.declared.status.Status.TheVariants as status
use Rattle.colregs_program.specs.declared.status.Which.TheVariants as which

-- The numbers that are given lie in their ranges.
pub record AreOptions (options : WindowOptions) : Type 0 where
  pub start : IfSome options.start (λ n. n ≤ 9999999999)
  pub ticks : IfSome options.ticks (λ n. (1 ≤ n) × (n ≤ 20000))

-- the fault of a scenario that was had
abbrev pub set_up_fault : ScenarioFault → SetUpFault
set_up_fault (refusal.Fault key cause) = fault.Refused key cause
set_up_fault refusal.Memory = fault.Memory

-- the fault of a scenario that was not had, and that of rows
abbrev pub unhad_fault : FetchFault → SetUpFault
unhad_fault fetch.NotHad = fault.NotHad
unhad_fault fetch.TooLong = fault.LongScenario
unhad_fault fetch.Memory = fault.Memory

abbrev pub rows_fault : FetchFault → SetUpFault
rows_fault fetch.NotHad = fault.NotHad
rows_fault fetch.TooLong = fault.LongRows
rows_fault fetch.Memory = fault.Memory

-- the answer of a run that ends with this fault
abbrev pub answer_of : SetUpFault → Status
answer_of fault.NotHad = status.ShelfFault
answer_of fault.LongScenario = status.Limit which.Scenario greatest_scenario
answer_of fault.LongRows = status.Limit which.Rows GREATEST_TEXT
answer_of (fault.Refused key cause) = status.Scenario key cause
answer_of fault.Memory = status.Memory

-- what the fault says of the bytes under the names, and of the shelf's count of faults
abbrev pub SetUpCause : ReportRequest → Option Files → ℕ → ℕ → SetUpFault → Type 0
SetUpCause request files before now fault.NotHad =
    (now ≡ one_more before) ⊎ (IsMissing files request.name ⊎ (IsTrue (needs_rows (task_mode request.task)) × IsMissing files (task_rows request.task)))
SetUpCause request files before now fault.LongScenario = HoldsUnder files request.name (λ text. greatest_scenario < length text)
SetUpCause request files before now fault.LongRows =
    IsTrue (needs_rows (task_mode request.task)) × HoldsUnder files (task_rows request.task) (λ text. GREATEST_TEXT < length text)
SetUpCause request files before now (fault.Refused key cause) =
    HoldsUnder files request.name (λ text. (length text ≤ greatest_scenario) × IsRefused (needs_own (task_mode request.task)) text key cause)
SetUpCause request files before now fault.Memory = Unit {0}

-- ---- what is called for

-- the scenario and the rows that were set up
abbrev pub SetFor : Type 0
SetFor = Scenario × List ℕ

abbrev pub came_of : Result SetUp SetUpFault → Result SetFor SetUpFault
came_of (Ok made) = Ok (made.scenario, made.rows.items)
came_of (Err why) = Err why

-- the rows that were had
abbrev pub rows_had : Result (Vec ℕ Global) SetUpFault → Result (List ℕ) SetUpFault
rows_had (Ok rows) = Ok rows.items
rows_had (Err why) = Err why

-- what the bytes under the request's name call for, if they are known
abbrev pub IsScenarioDue : ReportRequest → Option Files → Result Scenario SetUpFault → Type 0
IsScenarioDue request files (Ok scenario) = HasScenario files request scenario
IsScenarioDue request files (Err fault.NotHad) = IsMissing files request.name
IsScenarioDue request files (Err fault.LongScenario) = LiesUnder files request.name (λ text. greatest_scenario < length text)
IsScenarioDue request files (Err fault.LongRows) = ⊥
IsScenarioDue request files (Err (fault.Refused key cause)) =
    LiesUnder files request.name (λ text. (length text ≤ greatest_scenario) × IsRefused (needs_own (task_mode request.task)) text key cause)
IsScenarioDue request files (Err fault.Memory) = ⊥

-- what those under the rows' name call for, where they are needed
abbrev pub AreRowsDueWhere : Bool → Option Files → List ℕ → Result (List ℕ) SetUpFault → Type 0
AreRowsDueWhere false files name due = due ≡ Ok []
AreRowsDueWhere true files name (Ok rows) = LiesUnder files name (λ text. (text ≡ rows) × (length rows ≤ GREATEST_TEXT))
AreRowsDueWhere true files name (Err fault.NotHad) = IsMissing files name
AreRowsDueWhere true files name (Err fault.LongRows) = LiesUnder files name (λ text. GREATEST_TEXT < length text)
AreRowsDueWhere true files name (Err _) = ⊥

abbrev pub AreRowsDue : ReportRequest → Option Files → Result (List ℕ) SetUpFault → Type 0
AreRowsDue request files = AreRowsDueWhere (needs_rows (task_mode request.task)) files (task_rows request.task)

-- what both call for
abbrev pub IsSetUpDue : ReportRequest → Option Files → Result SetFor SetUpFault → Type 0
IsSetUpDue request files (Ok (scenario, rows)) = IsScenarioDue request files (Ok scenario) × AreRowsDue request files (Ok rows)
IsSetUpDue request files (Err why) =
    IsScenarioDue request files (Err why) ⊎ (((scenario : Scenario) × HasScenario files request scenario) × AreRowsDue request files (Err why))

-- ---- how often the shelf was asked

-- the faults that may come before the rows are asked for
abbrev pub precedes_rows : SetUpFault → Bool
precedes_rows fault.LongRows = false
precedes_rows _ = true

-- Once for the scenario, and again if rows are needed; only once if it ended with a fault that may come before.
abbrev pub HaveFetchedBy : Bool → ℕ → ℕ → Result SetUp SetUpFault → Type 0
HaveFetchedBy false before now came = now ≡ one_more before
HaveFetchedBy true before now (Ok made) = now ≡ one_more (one_more before)
HaveFetchedBy true before now (Err why) = (now ≡ one_more (one_more before)) ⊎ (IsTrue (precedes_rows why) × (now ≡ one_more before))

abbrev pub HaveFetched : ReportRequest → ℕ → ℕ → Result SetUp SetUpFault → Type 0
HaveFetched request = HaveFetchedBy (needs_rows (task_mode request.task))
