-- The limits of vessels and traces for a log.
use Rattle.std.specs.Prelude.{ℕ, ◌≡◌, List, false, take}
use Rattle.log_lines.specs.GrowingLog.{ended_lines}
use Rattle.log_lines.specs.JudgedLines.{is_crowded}
use Rattle.log_lines.specs.LogLines.{lines_of}
use Rattle.log_lines.specs.SentLines.{sent}
use Rattle.scenario_values.specs.declared.values.Scenario.{Scenario}
use Rattle.settled_ticks.specs.Sightings.{sighted}
use Rattle.settling.specs.ManySettled.{HaveManySettled}
use Rattle.settling.specs.ScenarioAudit.{audit_numbers}
use Rattle.traces.specs.ManyTraces.{HaveMoreThan}
use Rattle.traces.specs.declared.all_traces.TheConstants.{MOST_TRACES}

-- Neither the limit of vessels in a book nor the limit of traces is exceeded: in the whole log, and in the ended lines
-- of each of its prefixes.
pub record MeetsNoLimit (scenario : Scenario) (log : List ℕ) : Type 0 where
  pub calm : is_crowded scenario (lines_of log) ≡ false
  pub few : HaveMoreThan MOST_TRACES (audit_numbers scenario) (sighted scenario (sent scenario (lines_of log))) → ⊥
  pub front_calm : (place : ℕ) → is_crowded scenario (ended_lines (take place log)) ≡ false
  pub front_few : (place : ℕ) → HaveManySettled scenario (ended_lines (take place log)) → ⊥
