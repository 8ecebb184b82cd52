-- The case that settled ticks begin too many traces.
use Rattle.std.specs.Prelude.{ℕ, ◌<◌, List}
use Rattle.traces.specs.ManyTraces.{HaveMoreThan}
use Rattle.traces.specs.declared.all_traces.TheConstants.{MOST_TRACES}
use Rattle.log_lines.specs.SentLines.{sent}
use Rattle.scenario_values.specs.declared.values.Scenario.{Scenario}
use Rattle.settled_ticks.specs.Settled.{IsSettled}
use Rattle.settled_ticks.specs.Sightings.{seen_first}
use Rattle.settling.specs.ScenarioAudit.{audit_numbers}

-- At the first ticks, which are settled, more traces begin than allowed.
pub record HaveManySettled (scenario : Scenario) (lines : List (List ℕ)) : Type 0 where
  pub count : ℕ
  pub settled : (i : ℕ) → i < count → IsSettled scenario lines i
  pub many : HaveMoreThan MOST_TRACES (audit_numbers scenario) (seen_first scenario (sent scenario lines) count)
