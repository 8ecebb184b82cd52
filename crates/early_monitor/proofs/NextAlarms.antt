-- The alarms of the traces that the ticks have begun, as each has taken its step.
use Rattle.std.proofs.Common.{◌≡◌, ℕ, ◌+◌, ◌-◌, ◌⊎◌, ◌↔◌, inl, inr, List, [], ◌∷◌, ◌++◌, length, length-append, refl, sym, ap, ap₂, subst, ◌∙◌, arith}
use Rattle.std.specs.Prelude.{Option}
use Rattle.std.specs.List.{Contains}
use Rattle.std.proofs.lemmas.List.Elements.{Contains-append_cases, Contains-append_left, Contains-append_right}
use Rattle.encounters.specs.declared.pair_step.PairStep.{PairStep}
use Rattle.meetings.specs.Atoms.{AreRankedRows}
use Rattle.meetings.specs.declared.pair.Pair.{Pair}
use Rattle.meetings.proofs.ForCallers.{one_list}
use Rattle.outside.proofs.Members.{in_cons, in_head, in_none}
use Rattle.traces.specs.Audited.{AuditNumbers, Begins, Sighting, terms_of, trace_ranks, trace_steps}
use Rattle.traces.specs.Known.{AreKnown, AreOpened, IsKnown, Known}
use Rattle.traces.proofs.ForCallers.{from_map, known_within, one_beginning, steps_count}
use Rattle.early_monitor.specs.declared.alarm.Alarm.{Alarm}
use Rattle.early_monitor.specs.Alarms.{AreAlarmsNow, InOrder, IsAlarm, tree_of_rule}
use Rattle.mtl_early.specs.Decided.{IsDecided}
use Rattle.early_monitor.specs.Inner.Breaches.{IsBreachOf}
use Rattle.early_monitor.specs.Inner.TracesWatched.{IsBreachAmong}

-- One more trace has taken its step.
pub among_more : (numbers : AuditNumbers) (step : ℕ) (done : List Known) (known : Known) (a : Alarm)
    → (IsBreachAmong numbers step done a ⊎ IsBreachOf numbers step known a) ↔ IsBreachAmong numbers step (done ++ known ∷ []) a
among_more numbers step done known a = (
  λ h. elim h [
    | inl before ↦ record { known = before.known; among = Contains-append_left done (known ∷ []) before.known before.among; breach = before.breach }
    | inr here ↦ record { known = known; among = Contains-append_right done (known ∷ []) known (in_head known []); breach = here }
  ],
  λ h. elim (Contains-append_cases done (known ∷ []) h.known h.among) [
    | inl before ↦ inl (record { known = h.known; among = before; breach = h.breach })
    | inr last ↦ elim (in_cons known [] h.known last) [
      | inl same ↦ inr (subst (λ (k : Known). IsBreachOf numbers step k a) (sym same) h.breach)
      | inr none ↦ in_none h.known none
    ]
  ],
)

pub among_none : (numbers : AuditNumbers) (step : ℕ) (a : Alarm) → IsBreachAmong numbers step [] a → ⊥
among_none numbers step a h = in_none h.known h.among

-- A pair has one trace.
module _ (numbers : AuditNumbers) (ticks : List Sighting) where
  pub same_known : (k l : Known) → IsKnown numbers ticks k → IsKnown numbers ticks l → k.pair ≡ l.pair → k ≡ l
  same_known k l is is' pair =
      let start : k.start ≡ l.start = one_beginning numbers ticks l.pair k.start l.start (subst (λ (p : Pair). Begins numbers ticks p k.start) pair is.begins) is'.begins in
      let steps : k.steps ≡ l.steps = is.steps ∙ (ap₂ (trace_steps numbers ticks) pair start ∙ sym is'.steps) in
      let rows : AreRankedRows (terms_of numbers) (trace_ranks ticks l.pair l.start) l.steps k.trace =
      subst (λ (p : Pair). AreRankedRows (terms_of numbers) (trace_ranks ticks p l.start) l.steps k.trace) pair
      (subst (λ (n : ℕ). AreRankedRows (terms_of numbers) (trace_ranks ticks k.pair n) l.steps k.trace) start
      (subst (λ (s : List (Option PairStep)). AreRankedRows (terms_of numbers) (trace_ranks ticks k.pair k.start) s k.trace) steps is.rows)) in
      let trace : k.trace ≡ l.trace = one_list (terms_of numbers) (trace_ranks ticks l.pair l.start) l.steps k.trace l.trace rows is'.rows in
      λ i. record { pair = pair i; start = start i; steps = steps i; trace = trace i }

  -- A trace has a row for each step up to the last of the ticks.
  pub rows_count : (k : Known) → IsKnown numbers ticks k → length k.trace ≡ length ticks - 1 - k.start
  rows_count k is = is.rows.count ∙ steps_count numbers ticks k is

-- an opened trace has no rows
opened_rows : (start : ℕ) (knowns : List Known) (known : Known) → AreOpened start knowns → Contains knowns known → length known.trace ≡ 0
opened_rows start [] known all i = in_none known i
opened_rows start (k ∷ ks) known all i = elim (in_cons k ks known i) [
  | inl same ↦ subst (λ (m : Known). length m.trace ≡ 0) same (ap (λ (m : Known). length m.trace) all.0)
  | inr later ↦ opened_rows start ks known all.1 later
]

module _ (numbers : AuditNumbers) (ticks : List Sighting) (seen : Sighting) (after new : List Known) (are : AreKnown numbers (ticks ++ seen ∷ []) (after ++ new))
    (opened_now : AreOpened (length ticks) new) (step : ℕ) (is_step : step ≡ length ticks - 1) where
  one_more : length (ticks ++ seen ∷ []) ≡ length ticks + 1
  one_more = length-append ticks (seen ∷ [])

  is_alarm : (a : Alarm) → IsBreachAmong numbers step after a → IsAlarm numbers (ticks ++ seen ∷ []) a × (a.decided + 2 ≡ length (ticks ++ seen ∷ []))
  is_alarm a h =
      let known = h.known in
      let b = h.breach.breach in
      let of = are.each known (Contains-append_left after new known h.among) in
      let count = rows_count numbers (ticks ++ seen ∷ []) known of in
      let inside = b.decided.inside in
      subst (λ (x : Alarm). IsAlarm numbers (ticks ++ seen ∷ []) x × (x.decided + 2 ≡ length (ticks ++ seen ∷ []))) (sym b.is) (
        record {
          within = h.breach.below;
          known = known;
          of = of;
          pair = refl;
          at = b.at;
          position = refl;
          broken = b.broken;
          count = length known.trace;
          deciding = omega (arith, one_more, count, inside, is_step);
          decided = b.decided;
        },
        omega (arith, one_more, count, inside, is_step),
      )

  -- The trace of an alarm is among those that have taken their step.
  pub stepped : (a : Alarm) (alarm : IsAlarm numbers (ticks ++ seen ∷ []) a) → Contains after alarm.known
  stepped a alarm =
      let l = alarm.known in
      let (k, i, pair) = from_map (λ (m : Known). m.pair) (after ++ new) l.pair (are.all l.pair l.start alarm.of.begins) in
      let same : k ≡ l = same_known numbers (ticks ++ seen ∷ []) k l (are.each k i) alarm.of pair in
      elim (Contains-append_cases after new k i) [
        | inl there ↦ subst (λ (m : Known). Contains after m) same there
        | inr opened_one ↦ absurd (
            let none = opened_rows (length ticks) new k opened_now opened_one in
            let count : length l.trace ≡ 0 = subst (λ (m : Known). length m.trace ≡ 0) same none in
            let inside = alarm.decided.inside in
            let among = alarm.decided.among in
            omega (arith, count, inside, among))
      ]

  is_breach : (a : Alarm) → IsAlarm numbers (ticks ++ seen ∷ []) a → a.decided + 2 ≡ length (ticks ++ seen ∷ []) → IsBreachAmong numbers step after a
  is_breach a alarm now =
      let known = alarm.known in
      let t = tree_of_rule numbers.rules a.rule in
      let count = rows_count numbers (ticks ++ seen ∷ []) known alarm.of in
      let within = known_within numbers (ticks ++ seen ∷ []) known alarm.of in
      let deciding = alarm.deciding in
      let decided : a.decided ≡ step = omega (arith, now, one_more, is_step) in
      let all : alarm.count ≡ length known.trace = omega (arith, now, one_more, deciding, count, within) in
      let pair = alarm.pair in
      let position = alarm.position in
      record {
        known = known;
        among = stepped a alarm;
        breach = record {
          rule = a.rule;
          below = alarm.within;
          breach = record {
            at = alarm.at;
            is = λ i. record { decided = decided i; pair = pair i; rule = a.rule; position = position i };
            broken = alarm.broken;
            decided = subst (λ (m : ℕ). IsDecided t known.trace alarm.at m) all alarm.decided;
          };
        };
      }

  pub alarms_now : (alarms : List Alarm) → ((a : Alarm) → Contains alarms a ↔ IsBreachAmong numbers step after a) → InOrder alarms → AreAlarmsNow numbers (ticks ++ seen ∷ []) alarms
  alarms_now alarms h ordered = record {
    each = λ a. (λ i. is_alarm a ((h a).0 i), λ both. (h a).1 (is_breach a both.0 both.1));
    ordered = ordered;
  }
