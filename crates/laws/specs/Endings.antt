-- When a log has a report, and a front of it settled bytes: that there is none is refuted. And which scenarios are in their ranges.
use Rattle.std.specs.Prelude.{ℕ, Bool, IfSome, IsSome, IsTrue, List, Ok, Option}
use Rattle.colregs_program.specs.Answers.{IsReady, IsScenario}
use Rattle.colregs_program.specs.AskedScenarios.{task_of}
use Rattle.command_line.specs.Requests.{AskFor}
use Rattle.command_line.specs.declared.request.ReportRequest.{ReportRequest}
use Rattle.command_line.specs.declared.request.Request.TheVariants as asked
use Rattle.hull_domains.specs.Shapes.{IsShape}
use Rattle.lattice.specs.Grids.{IsGrid}
use Rattle.outside.specs.Shelves.{Files}
use Rattle.scenario.specs.ScenarioReading.{Means}
use Rattle.scenario_values.specs.ValueRanges.{IsInRange}
use Rattle.scenario_values.specs.declared.values.Scenario.{Scenario}
use Rattle.sessions.specs.Endings.{IsEnding}
use Rattle.sessions.specs.Refusals.{IsMet}
use Rattle.sessions.specs.SettledText.{IsSettledText}
use Rattle.sessions.specs.Tasks.{Task}
use Rattle.tasks.specs.Modes.{needs_own}
use Rattle.tasks.specs.Tasks.{task_mode}
use Rattle.tasks.specs.declared.mode.Mode.{Mode}

-- ---- settled bytes

abbrev pub SomeSettledText : Type 0
SomeSettledText = (mode : Mode) (scenario : Scenario) (front : List ℕ) → ¬ ((text : List ℕ) → ¬ IsSettledText mode scenario front text)

-- ---- a report

-- A scenario is as one that is read for a mode: its values are in their ranges, also own ship's lattice and shape, and if the mode needs
-- own ship, it has her.
pub record IsScenarioFor (mode : Mode) (scenario : Scenario) : Type 0 where
  pub in_range : IsInRange scenario
  pub lattice : IfSome scenario.own (λ own. IsGrid own.lattice)
  pub shape : IfSome scenario.own (λ own. IfSome own.shape IsShape)
  pub own : IsTrue (needs_own mode) → IsSome scenario.own

-- Each scenario that bytes mean for a mode is so.
abbrev pub ReadInRange : Type 0
ReadInRange = (mode : Mode) (bytes : List ℕ) (scenario : Scenario) → Means (needs_own mode) bytes scenario → IsScenarioFor mode scenario

-- Each scenario that a run asks about is so, with the window that its options give.
abbrev pub AskedInRange : Type 0
AskedInRange = (words : List (List ℕ)) (request : ReportRequest) (bytes : List ℕ) (scenario : Scenario) → AskFor words (asked.Report request)
    → IsScenario request bytes scenario → IsScenarioFor (task_mode request.task) scenario

-- A log that meets no refusal, so that its task comes to a report, has that report.
abbrev pub SomeEnding : Type 0
SomeEnding = (task : Task) (scenario : Scenario) (log : List ℕ) (none : Bool) → IsScenarioFor task.mode scenario → IsMet task scenario log (Ok none)
    → ¬ ((text : List ℕ) → ¬ IsEnding task scenario log text)

-- The log of a run that meets no refusal has the report that the run asks for.
abbrev pub SomeEndingOfRun : Type 0
SomeEndingOfRun = (words : List (List ℕ)) (files : Option Files) (given : Option (List ℕ)) (request : ReportRequest) (rows : List ℕ) (scenario : Scenario)
    (log : List ℕ) (none : Bool) → IsReady words files given request rows scenario log → IsMet (task_of request rows) scenario log (Ok none)
    → ¬ ((text : List ℕ) → ¬ IsEnding (task_of request rows) scenario log text)
