-- No line decides no row and no alarm, and at no tick that it settles too many traces begin.
use Rattle.std.proofs.Common.{ℕ, ◌+◌, ◌<◌, zero, suc, [], arith}
use Rattle.std.specs.List.Sorted.{IsStrictlySortedBy}
use Rattle.audit_rows.specs.Order.{last_step_of}
use Rattle.auditor.specs.SettledRows.{audit_reach}
use Rattle.scenario_values.specs.declared.values.Scenario.{Scenario}
use Rattle.settling.specs.DecidedAlarms.{AreDecidedAlarms}
use Rattle.settling.specs.DecidedRows.{AreDecided}
use Rattle.settling.specs.ManySettled.{HaveManySettled}
use Rattle.settling.specs.ScenarioAudit.{audit_numbers}
use Rattle.settling.proofs.TakenTicks.{none_begin}
use Rattle.settled_ticks.specs.Settled.{IsSettled}
use Rattle.settled_ticks.specs.Sightings.{seen_first}
use Rattle.settled_ticks.proofs.ForCallers.{none_settled}
use Rattle.log_lines.specs.SentLines.{sent}
use Rattle.traces.specs.ManyTraces.{HaveMoreThan}
use Rattle.traces.specs.declared.all_traces.TheConstants.{MOST_TRACES}

pub none_decided : (scenario : Scenario) → AreDecided scenario [] []
unfolding IsStrictlySortedBy
none_decided scenario = record {
  each = λ row. ((λ i. absurd (let lt = i.1 in omega arith)), (λ h. absurd (none_settled scenario (last_step_of row + audit_reach (audit_numbers scenario) + 2) h.1)));
  ordered = tt;
}

pub no_alarms_decided : (scenario : Scenario) → AreDecidedAlarms scenario [] []
unfolding IsStrictlySortedBy
no_alarms_decided scenario = record {
  each = λ alarm. ((λ i. absurd (let lt = i.1 in omega arith)), (λ h. absurd (none_settled scenario (alarm.decided + 1) h.1)));
  ordered = tt;
}

pub none_many : (scenario : Scenario) → HaveManySettled scenario [] → ⊥
none_many scenario many = among many.count many.settled many.many
  where
    among : (count : ℕ) → ((i : ℕ) → i < count → IsSettled scenario [] i) → HaveMoreThan MOST_TRACES (audit_numbers scenario) (seen_first scenario (sent scenario []) count) → ⊥
    among zero settled more = none_begin (audit_numbers scenario) more
    among (suc count) settled more = none_settled scenario 0 (settled 0 (omega arith))
