-- That a watch has no list of alarms is refuted: an alarm names a pair that is seen, and its position and its deciding step are steps of the window.
use Rattle.std.proofs.Common.{ℕ, ◌≡◌, ◌∙◌, ◌-◌, ◌<◌, List, length, map, map-id, ap, subst, sym, arith}
use Rattle.std.specs.Prelude.{Option, flat_map}
use Rattle.std.specs.List.{Contains}
use Rattle.std.specs.List.Sorted.{IsStrictlySortedBy}
use Rattle.encounters.specs.declared.pair_step.PairStep.{PairStep}
use Rattle.meetings.specs.declared.pair.Pair.{Pair}
use Rattle.meetings.proofs.ForCallers.{steps_from-length}
use Rattle.traces.specs.Audited.{AuditNumbers, Sighting, seen_state_at}
use Rattle.traces.specs.Known.{IsKnown, Known}
use Rattle.early_monitor.specs.Alarms.{AreAlarms, InOrder, IsAlarm, alarm_cmp}
use Rattle.early_monitor.specs.declared.alarm.Alarm.{Alarm}
use Rattle.early_monitor.proofs.Alarms.{alarm_exact, alarm_total}
use Rattle.early_monitor.proofs.ForCallers.{itself}
use Rattle.traces.proofs.ForCallers.{in_map}
use Rattle.laws.proofs.Candidates.{begun, below, in_below, in_each, pairs_seen}
use Rattle.laws.proofs.Sorting.{AreSorted, some_sorted}

-- the alarms that have a property, in their order
pub record AreListed (Property : Alarm → Type 0) : Type 0 where
  pub alarms : List Alarm
  pub ordered : InOrder alarms
  pub sound : (alarm : Alarm) → Contains alarms alarm → Property alarm
  pub complete : (alarm : Alarm) → Property alarm → Contains alarms alarm

module _ (numbers : AuditNumbers) (ticks : List Sighting) where
  -- ---- all that alarms can be

  decided_at : Pair → ℕ → ℕ → List Alarm
  decided_at pair rule position = map (λ (decided : ℕ). record { decided = decided; pair = pair; rule = rule; position = position }) (below (length ticks))

  of_rule : Pair → ℕ → List Alarm
  of_rule pair rule = flat_map (decided_at pair rule) (below (length ticks))

  of_pair : Pair → List Alarm
  of_pair pair = flat_map (of_rule pair) (below (length numbers.rules))

  candidates : List Alarm
  candidates = flat_map of_pair (pairs_seen ticks)

  rows_left : (known : Known) → IsKnown numbers ticks known → length known.trace ≡ length ticks - 1 - known.start
  rows_left known is =
      is.rows.count
      ∙ (ap (λ (steps : List (Option PairStep)). length steps) is.steps
      ∙ steps_from-length (seen_state_at ticks known.pair.subject) (seen_state_at ticks known.pair.other) known.start (length ticks - 1 - known.start))

  alarm_known : (alarm : Alarm) → IsAlarm numbers ticks alarm → Contains candidates alarm
  unfolding candidates of_pair of_rule decided_at
  alarm_known alarm is =
      let known = begun ticks numbers is.known.pair is.known.start is.of.begins in
      let start = known.1 in
      let left = rows_left is.known is.of in
      let inside = is.decided.inside in
      let among = is.decided.among in
      let place = is.position in
      let deciding = is.deciding in
      let position : alarm.position < length ticks = omega arith in
      let decided : alarm.decided < length ticks = omega arith in
      in_each of_pair (pairs_seen ticks) alarm.pair alarm (subst (Contains (pairs_seen ticks)) (sym is.pair) known.0)
      (in_each (of_rule alarm.pair) (below (length numbers.rules)) alarm.rule alarm (in_below (length numbers.rules) alarm.rule is.within)
      (in_each (decided_at alarm.pair alarm.rule) (below (length ticks)) alarm.position alarm (in_below (length ticks) alarm.position position)
      (in_map (λ (decided : ℕ). record { decided = decided; pair = alarm.pair; rule = alarm.rule; position = alarm.position }) (below (length ticks)) alarm.decided
      (in_below (length ticks) alarm.decided decided))))

  -- ---- the alarms that have a property, as those that lines decide

  listed : (Property : Alarm → Type 0) → AreSorted itself alarm_cmp Property → AreListed Property
  listed Property all = record {
    alarms = all.items;
    ordered = subst (IsStrictlySortedBy alarm_cmp) (map-id all.items) all.ordered;
    sound = all.sound;
    complete = all.complete;
  }

  pub some_alarms_with : (Property : Alarm → Type 0) → ((alarm : Alarm) → Property alarm → IsAlarm numbers ticks alarm) → ¬ ¬ AreListed Property
  some_alarms_with Property told none =
      some_sorted itself alarm_cmp alarm_total alarm_exact Property (λ a b x y same. same) candidates (λ alarm x. alarm_known alarm (told alarm x))
      (λ all. none (listed Property all))

  pub some_alarms : ¬ ((alarms : List Alarm) → ¬ AreAlarms numbers ticks alarms)
  some_alarms none = some_alarms_with (IsAlarm numbers ticks) (λ alarm is. is) (λ all.
      none all.alarms (record { each = λ alarm. (all.sound alarm, all.complete alarm); ordered = all.ordered }))
