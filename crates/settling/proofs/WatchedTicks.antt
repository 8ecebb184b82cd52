-- A watch as one who takes ticks.
use Rattle.std.proofs.Common.{ℕ, ◌≡◌, ◌+◌, [], ◌∷◌, ◌++◌, List, Vec, Global}
use Rattle.std.specs.Prelude.{Result, Ok, Err, IfOk, OnOk}
use Rattle.early_monitor.specs.Alarms.{AreAlarms}
use Rattle.early_monitor.specs.Watching.{IsSound, StandsFor as WatchStandsFor, given_of, last_tick_of}
use Rattle.early_monitor.specs.declared.alarm.Alarm.{Alarm}
use Rattle.early_monitor.specs.declared.watch.Watch.{Watch}
use Rattle.scenario_values.specs.declared.values.Scenario.{Scenario}
use Rattle.settled_ticks.specs.Standing.{handed_out}
use Rattle.settled_ticks.specs.declared.settled_ticks.SettledTicks.{SettledTicks}
use Rattle.settling.specs.DecidedAlarms.{AreDecidedAlarms}
use Rattle.settling.specs.Inner.TakenTicks.{HasTakenSettled, TakesNext}
use Rattle.settling.specs.Inner.WatchedTicks.{watch_taker}
use Rattle.settling.proofs.DecidedAlarms.{alarms_by_settled_ticks}
use Rattle.traces.specs.Audited.{AuditNumbers, Sighting}
use Rattle.traces.specs.declared.fault.TickFault.{TickFault}
use Rattle.traces.specs.ManyTraces.{HaveMoreThan}
use Rattle.traces.specs.declared.all_traces.TheConstants.{MOST_TRACES}

-- One more tick, by the clauses of the watch's step.
watch_takes : (old new : Watch) (seen : Sighting) (alarms : List Alarm) → IsSound new → given_of new ≡ given_of old + 1 → last_tick_of new ≡ last_tick_of old
    → ((numbers : AuditNumbers) (ticks : List Sighting) → WatchStandsFor old numbers ticks → WatchStandsFor new numbers (ticks ++ seen ∷ []))
    → ((numbers : AuditNumbers) (ticks : List Sighting) (given : List Alarm) → WatchStandsFor old numbers ticks → AreAlarms numbers ticks given
    → AreAlarms numbers (ticks ++ seen ∷ []) (given ++ alarms))
    → ((numbers : AuditNumbers) (ticks : List Sighting) → WatchStandsFor old numbers ticks → HaveMoreThan MOST_TRACES numbers (ticks ++ seen ∷ []) → ⊥)
    → TakesNext (watch_taker old) (watch_taker new) seen alarms
watch_takes old new seen alarms sound count last_tick stands all few = record {
  sound = sound;
  count = count;
  last_tick = last_tick;
  stands = λ numbers ticks given up. record { stands = stands numbers ticks up.stands; alarms = all numbers ticks given up.stands up.alarms };
  few = λ numbers ticks given up. few numbers ticks up.stands;
}

pub watch_step : (old new : Watch) (seen : Sighting) (result : Result (Vec Alarm Global) TickFault) → OnOk result (IsSound new)
    → OnOk result (given_of new ≡ given_of old + 1) → OnOk result (last_tick_of new ≡ last_tick_of old)
    → OnOk result ((numbers : AuditNumbers) (ticks : List Sighting) → WatchStandsFor old numbers ticks → WatchStandsFor new numbers (ticks ++ seen ∷ []))
    → IfOk result (λ alarms. (numbers : AuditNumbers) (ticks : List Sighting) (given : List Alarm) → WatchStandsFor old numbers ticks
    → AreAlarms numbers ticks given → AreAlarms numbers (ticks ++ seen ∷ []) (given ++ alarms.items))
    → OnOk result ((numbers : AuditNumbers) (ticks : List Sighting) → WatchStandsFor old numbers ticks
    → HaveMoreThan MOST_TRACES numbers (ticks ++ seen ∷ []) → ⊥)
    → IfOk result (λ alarms. TakesNext (watch_taker old) (watch_taker new) seen alarms.items)
watch_step old new seen (Ok alarms) sound count last_tick stands all few = watch_takes old new seen alarms.items sound count last_tick stands all few
watch_step old new seen (Err fault) sound count last_tick stands all few = tt

-- ---- the alarms that it has given

pub given_are_decided : (scenario : Scenario) (watch : Watch) (ticks : SettledTicks) (lines : List (List ℕ)) (given : List Alarm)
    → HasTakenSettled (watch_taker watch) ticks scenario lines given → AreDecidedAlarms scenario lines given
given_are_decided scenario watch ticks lines given up =
    alarms_by_settled_ticks scenario lines (handed_out ticks) given up.settled up.taken.stands.alarms
