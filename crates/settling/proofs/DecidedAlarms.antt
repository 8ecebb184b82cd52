-- The alarms that the lines so far decide are those of the settled ticks, and a front of all.
use Rattle.std.proofs.Common.{◌≡◌, ℕ, ◌+◌, ◌<◌, ◌≤◌, List, ◌++◌, arith}
use Rattle.std.specs.Prelude.{◌↔◌}
use Rattle.std.specs.List.{Contains}
use Rattle.std.specs.declared.cmp.Ordering.TheVariants.{Less}
use Rattle.early_monitor.specs.Alarms.{AreAlarms, InOrder, IsAlarm, alarm_cmp}
use Rattle.early_monitor.specs.declared.alarm.Alarm.{Alarm}
use Rattle.early_monitor.proofs.ForCallers.{alarm_total, decided_within, earlier_first, in_order, itself, same_alarms}
use Rattle.log_lines.specs.SentLines.{sent}
use Rattle.scenario_values.specs.declared.values.Scenario.{Scenario}
use Rattle.settled_ticks.specs.Settled.{IsSettled}
use Rattle.settled_ticks.specs.Sightings.{seen_first, sighted}
use Rattle.settled_ticks.proofs.ForCallers.{settled_ticks_stay}
use Rattle.traces.specs.Audited.{Sighting}
use Rattle.settling.specs.DecidedAlarms.{AreDecidedAlarms}
use Rattle.settling.specs.ScenarioAudit.{audit_numbers}
use Rattle.settling.proofs.DecidedItems.{begin_all, by_all, by_first}
use Rattle.settling.proofs.Fronts.{no_later}
use Rattle.settling.proofs.SameAlarms.{same_alarm}
use Rattle.settling.proofs.Seen.{first_count}

module _ (scenario : Scenario) where
  abbrev IsAlarmBy : List Sighting → Alarm → Type 0
  IsAlarmBy = IsAlarm (audit_numbers scenario)

  -- the tick at which its deciding step ends
  abbrev decided_at : Alarm → ℕ
  decided_at alarm = alarm.decided + 1

  earlier : (x y : Alarm) → alarm_cmp y x ≡ Less → decided_at y ≤ decided_at x
  earlier x y before =
      let le : y.decided ≤ x.decided = no_later alarm_cmp alarm_total (λ (alarm : Alarm). alarm.decided) earlier_first y x before in
      omega (arith, le)

  alarms_begin : (lines more : List (List ℕ)) (alarms all : List Alarm) → AreDecidedAlarms scenario lines alarms → InOrder all
      → ((alarm : Alarm) → IsAlarmBy (sighted scenario (sent scenario (lines ++ more))) alarm → IsSettled scenario lines (decided_at alarm) → Contains all alarm)
      → ((alarm : Alarm) → Contains all alarm → IsAlarmBy (sighted scenario (sent scenario (lines ++ more))) alarm) → (rest : List Alarm) × (all ≡ alarms ++ rest)
  alarms_begin lines more alarms all h ordered =
      begin_all scenario IsAlarmBy decided_at (same_alarm (audit_numbers scenario)) alarm_cmp alarm_total itself earlier lines more alarms all h.each
      (in_order alarms h.ordered) (in_order all ordered)

-- ---- the laws

pub alarms_by_settled_ticks : (scenario : Scenario) (lines : List (List ℕ)) (s : ℕ) (alarms : List Alarm) → ((i : ℕ) → IsSettled scenario lines i ↔ (i < s))
    → AreAlarms (audit_numbers scenario) (seen_first scenario (sent scenario lines) s) alarms → AreDecidedAlarms scenario lines alarms
alarms_by_settled_ticks scenario lines s alarms settled h = record {
  each = λ alarm. (
    λ i. let is = (h.each alarm).0 i in
        let within = decided_within (audit_numbers scenario) (seen_first scenario (sent scenario lines) s) alarm is in
        let count = first_count scenario (sent scenario lines) s in
        let lt : decided_at scenario alarm < s = omega (arith, within, count) in
        let at = (settled (decided_at scenario alarm)).1 lt in
        (by_all scenario (IsAlarmBy scenario) (decided_at scenario) (same_alarm (audit_numbers scenario)) lines s alarm at lt is, at),
    λ is. let lt : decided_at scenario alarm < s = (settled (decided_at scenario alarm)).0 is.1 in
        (h.each alarm).1 (by_first scenario (IsAlarmBy scenario) (decided_at scenario) (same_alarm (audit_numbers scenario)) lines s alarm is.1 lt is.0),
  );
  ordered = h.ordered;
}

pub one_list_of_decided_alarms : (scenario : Scenario) (lines : List (List ℕ)) (alarms others : List Alarm) → AreDecidedAlarms scenario lines alarms
    → AreDecidedAlarms scenario lines others → alarms ≡ others
one_list_of_decided_alarms scenario lines alarms others h k =
    same_alarms alarms others h.ordered k.ordered (λ alarm i. (k.each alarm).1 ((h.each alarm).0 i)) (λ alarm i. (h.each alarm).1 ((k.each alarm).0 i))

pub decided_alarms_are_a_front : (scenario : Scenario) (lines more : List (List ℕ)) (alarms later : List Alarm) → AreDecidedAlarms scenario lines alarms
    → AreDecidedAlarms scenario (lines ++ more) later → (rest : List Alarm) × (later ≡ alarms ++ rest)
decided_alarms_are_a_front scenario lines more alarms later h k =
    alarms_begin scenario lines more alarms later h k.ordered
    (λ alarm is settled. (k.each alarm).1 (is, settled_ticks_stay scenario lines more (decided_at scenario alarm) settled))
    (λ alarm i. ((k.each alarm).0 i).0)

pub decided_alarms_begin_the_report : (scenario : Scenario) (lines more : List (List ℕ)) (alarms all : List Alarm) → AreDecidedAlarms scenario lines alarms
    → AreAlarms (audit_numbers scenario) (sighted scenario (sent scenario (lines ++ more))) all → (rest : List Alarm) × (all ≡ alarms ++ rest)
decided_alarms_begin_the_report scenario lines more alarms all h k =
    alarms_begin scenario lines more alarms all h k.ordered (λ alarm is settled. (k.each alarm).1 is) (λ alarm i. (k.each alarm).0 i)
