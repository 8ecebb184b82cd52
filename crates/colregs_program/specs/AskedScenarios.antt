-- The scenario that a request asks about, the files that it names, and the log that it is asked of.
use Rattle.std.specs.Prelude.{ℕ, Bool, false, List, Option, Some, unwrap_or, if◌then◌else◌}
use Rattle.command_line.specs.declared.request.WindowOptions.{WindowOptions}
use Rattle.command_line.specs.declared.request.ReportRequest.{ReportRequest}
use Rattle.command_line.specs.declared.request.Request.{Request}
use Rattle.command_line.specs.declared.request.Request.TheVariants as asked
use Rattle.drill_log.specs.DrillLog.{drill_log_of}
use Rattle.scenario_values.specs.declared.values.Scenario.{Scenario}
use Rattle.scenario_values.specs.declared.values.Window.{Window}
use Rattle.tasks.specs.Modes.{needs_rows, reads_log}
use Rattle.tasks.specs.Tasks.{says_why, task_mode, task_seed}
use Rattle.sessions.specs.Tasks.{Task}

-- the window, with the start and the length that are given instead of its own
abbrev pub window_with : WindowOptions → Window → Window
window_with options window = record window { start = unwrap_or options.start window.start; ticks = unwrap_or options.ticks window.ticks }

-- the values of a scenario, with the options in place
abbrev pub with_options : WindowOptions → Scenario → Scenario
with_options options scenario = record scenario { window = window_with options scenario.window }

-- the log that a report is asked of: the one that is given, or the one that the drill makes
abbrev pub log_of : ReportRequest → Scenario → Option (List ℕ) → Option (List ℕ)
log_of request scenario given =
    if reads_log (task_mode request.task) then given else Some (drill_log_of scenario (task_seed request.task))

-- what a report asks of its log, with these rows
abbrev pub task_of : ReportRequest → List ℕ → Task
task_of request rows = record { mode = task_mode request.task; why = says_why request.task; rows = rows }

-- ---- of each request

-- the name of the scenario that it asks about
abbrev pub scenario_name : Request → List ℕ
scenario_name (asked.Migration name) = name
scenario_name (asked.Report request) = request.name

-- whether it needs rows, and whether it reads the log that is given: a migration does neither
abbrev pub asks_rows : Request → Bool
asks_rows (asked.Migration name) = false
asks_rows (asked.Report request) = needs_rows (task_mode request.task)

abbrev pub asks_log : Request → Bool
asks_log (asked.Migration name) = false
asks_log (asked.Report request) = reads_log (task_mode request.task)

-- P holds of the report that it is for.
abbrev pub OfReport : Request → (ReportRequest → Type 0) → Type 0
OfReport (asked.Migration name) P = ⊥
OfReport (asked.Report request) P = P request
