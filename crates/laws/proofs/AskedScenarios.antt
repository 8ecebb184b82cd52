-- The scenario that a run asks about is in its ranges, also with the window that the options give.
use Rattle.std.proofs.Common.{ℕ, ◌≤◌, List, Option, Some, None, subst, sym, arith}
use Rattle.std.specs.Prelude.{unwrap_or, IfSome}
use Rattle.command_line.specs.Requests.{AskFor}
use Rattle.command_line.specs.declared.request.ReportRequest.{ReportRequest}
use Rattle.command_line.specs.declared.request.Request.TheVariants as request
use Rattle.command_line.specs.declared.request.WindowOptions.{WindowOptions}
use Rattle.command_line.proofs.ForCallers.{start_in_range, ticks_in_range}
use Rattle.colregs_program.specs.Answers.{IsScenario}
use Rattle.colregs_program.specs.AskedScenarios.{window_with, with_options}
use Rattle.scenario_values.specs.ValueRanges.{IsInRange, IsWindow}
use Rattle.scenario_values.specs.declared.values.Scenario.{Scenario}
use Rattle.scenario_values.specs.declared.values.Window.{Window}
use Rattle.tasks.specs.Tasks.{task_mode}
use Rattle.tasks.specs.declared.mode.Mode.{Mode}
use Rattle.laws.specs.Endings.{IsScenarioFor}
use Rattle.laws.proofs.ReadScenarios.{read_scenario}

abbrev IsBetween : ℕ → ℕ → ℕ → Type 0
IsBetween low high n = (low ≤ n) × (n ≤ high)

-- the given number, or the scenario's
either : (low high own : ℕ) (given : Option ℕ) → IsBetween low high own → IfSome given (IsBetween low high) → IsBetween low high (unwrap_or given own)
either low high own None h k = h
either low high own (Some n) h k = k

module _ (options : WindowOptions) (start : IfSome options.start (IsBetween 0 9999999999)) (ticks : IfSome options.ticks (IsBetween 1 20000)) where
  window_asked : (window : Window) → IsWindow window → IsWindow (window_with options window)
  window_asked window h =
      let from : IsBetween 0 9999999999 window.start = (omega arith, h.start) in
      let first = either 0 9999999999 window.start options.start from start in
      let count = either 1 20000 window.ticks options.ticks (h.ticks_from, h.ticks_to) ticks in
      record { start = first.1; tick_from = h.tick_from; tick_to = h.tick_to; ticks_from = count.0; ticks_to = count.1 }

  asked_in_range : (scenario : Scenario) → IsInRange scenario → IsInRange (with_options options scenario)
  asked_in_range scenario h = record {
    window = window_asked scenario.window h.window;
    log = h.log;
    detect = h.detect;
    act = h.act;
    rules = h.rules;
    subjects = h.subjects;
    few_subjects = h.few_subjects;
    own = h.own;
  }

  asked_for : (mode : Mode) (scenario : Scenario) → IsScenarioFor mode scenario → IsScenarioFor mode (with_options options scenario)
  asked_for mode scenario h = record { in_range = asked_in_range scenario h.in_range; lattice = h.lattice; shape = h.shape; own = h.own }

pub asked_scenario : (words : List (List ℕ)) (asked : ReportRequest) (bytes : List ℕ) (scenario : Scenario) → AskFor words (request.Report asked)
    → IsScenario asked bytes scenario → IsScenarioFor (task_mode asked.task) scenario
asked_scenario words asked bytes scenario asks is =
    subst (IsScenarioFor (task_mode asked.task)) (sym is.values)
    (asked_for asked.window (start_in_range words asked asks) (ticks_in_range words asked asks) (task_mode asked.task) is.told
    (read_scenario (task_mode asked.task) bytes is.told is.means))
