-- All alarms so far, from one tick to the next.
use Rattle.std.proofs.Common.{◌≡◌, ℕ, ◌+◌, ◌-◌, ◌<◌, ◌≤◌, inl, inr, List, [], ◌∷◌, ◌++◌, length, length-append, refl, sym, ap, subst, ◌∙◌, arith}
use Rattle.std.specs.List.{AllByRecursion, AllZip, Contains}
use Rattle.std.specs.List.Sorted.{IsStrictlySortedBy}
use Rattle.std.specs.Ordering.{nat_cmp, ordering_then}
use Rattle.std.specs.declared.cmp.Ordering.{Ordering}
use Rattle.std.specs.declared.cmp.Ordering.TheVariants.{Less}
use Rattle.std.proofs.lemmas.Bool.{cases_lt}
use Rattle.std.proofs.lemmas.Bool.Decides.{nat_tests}
use Rattle.std.proofs.lemmas.List.{take-append-le}
use Rattle.std.proofs.lemmas.List.Elements.{Contains-append_cases, Contains-append_left, Contains-append_right}
use Rattle.mtl_formulas.specs.declared.verdict.Verdict.TheVariants.{No}
use Rattle.mtl_formulas.specs.FormulaTree.{FormulaTree}
use Rattle.mtl_formulas.specs.Traces.{Trace, value_in}
use Rattle.outside.proofs.Members.{in_cons, in_head, in_none, in_tail}
use Rattle.traces.specs.Audited.{AuditNumbers, Sighting}
use Rattle.traces.specs.Known.{AreKnown, AreOpened, IsFollowed, Known}
use Rattle.traces.proofs.ForCallers.{from_map, known_within, zip_member}
use Rattle.early_monitor.specs.declared.alarm.Alarm.{Alarm}
use Rattle.audit_rows.specs.Order.{pair_cmp}
use Rattle.early_monitor.specs.Alarms.{AreAlarms, AreAlarmsNow, InOrder, IsAlarm, alarm_cmp, tree_of_rule}
use Rattle.mtl_early.specs.Decided.{IsDecided}
use Rattle.mtl_early.proofs.ForCallers.{decided_front, decided_still, decided_value}
use Rattle.early_monitor.proofs.NextAlarms.{rows_count, same_known, stepped}

-- ---- a longer trace

module _ (rows more : Trace) (t : FormulaTree) (i m : ℕ) where
  same_value : IsDecided t rows i m → value_in (rows ++ more) t i ≡ value_in rows t i
  same_value h =
      decided_value (rows ++ more) t i m (decided_still rows t i m h more)
      ∙ (ap (λ (front : Trace). value_in front t i) (take-append-le m rows more h.among) ∙ sym (decided_value rows t i m h))

-- ---- lists of alarms in order

pub earlier_first : (a b : Alarm) → a.decided < b.decided → alarm_cmp a b ≡ Less
earlier_first a b lt =
    let e : nat_cmp a.decided b.decided ≡ Less = grind (arith, nat_tests) in
    ap (λ (o : Ordering). ordering_then o (ordering_then (pair_cmp a.pair b.pair) (ordering_then (nat_cmp a.rule b.rule) (nat_cmp a.position b.position)))) e

all_after : (a : Alarm) (xs ys : List Alarm) → AllByRecursion (λ b. alarm_cmp a b ≡ Less) xs → ((b : Alarm) → Contains ys b → alarm_cmp a b ≡ Less)
    → AllByRecursion (λ b. alarm_cmp a b ≡ Less) (xs ++ ys)
all_after a [] [] h k = tt
all_after a [] (y ∷ ys) h k = (k y (in_head y ys), all_after a [] ys tt (λ b i. k b (in_tail y ys b i)))
all_after a (x ∷ xs) ys h k = (h.0, all_after a xs ys h.1 k)

in_order : (xs ys : List Alarm) → InOrder xs → InOrder ys → ((a b : Alarm) → Contains xs a → Contains ys b → alarm_cmp a b ≡ Less) → InOrder (xs ++ ys)
unfolding IsStrictlySortedBy
in_order [] ys s u h = u
in_order (x ∷ xs) ys s u h = (all_after x xs ys s.0 (λ b i. h x b (in_head x xs) i), in_order xs ys s.1 u (λ a b i j. h a b (in_tail x xs a i) j))

-- ---- members of lists that go together

zip_forward : {X Y : Type 0} (R : X → Y → Type 0) (xs : List X) (ys : List Y) (x : X) → AllZip R xs ys → Contains xs x → (y : Y) × Contains ys y × R x y
zip_forward R [] [] x z i = in_none x i
zip_forward R [] (w ∷ ws) x z i = absurd z
zip_forward R (v ∷ vs) [] x z i = absurd z
zip_forward {X} {Y} R (v ∷ vs) (w ∷ ws) x z i =
    elim (in_cons v vs x i) [
      | inl same ↦ (w, in_head w ws, subst (λ (u : X). R u w) same z.0)
      | inr later ↦ (let (y, j, r) = zip_forward R vs ws x z.1 later in (y, in_tail w ws y j, r))
    ]

module _ (numbers : AuditNumbers) (ticks : List Sighting) (seen : Sighting) (knowns after new : List Known) (were : AreKnown numbers ticks knowns)
    (followed : AllZip (IsFollowed numbers ticks seen.vessels) knowns after) (are : AreKnown numbers (ticks ++ seen ∷ []) (after ++ new)) (opened_now : AreOpened (length ticks) new) where
  one_more : length (ticks ++ seen ∷ []) ≡ length ticks + 1
  one_more = length-append ticks (seen ∷ [])

  -- An alarm stays.
  grown : (a : Alarm) (alarm : IsAlarm numbers ticks a) (k l : Known) → k ≡ alarm.known → Contains after l → IsFollowed numbers ticks seen.vessels k l → IsAlarm numbers (ticks ++ seen ∷ []) a
  grown a alarm k l same i f =
      let t = tree_of_rule numbers.rules a.rule in
      let rows = alarm.known.trace in
      let more = f.answers ∷ [] in
      let trace : l.trace ≡ rows ++ more = ap (λ (m : Known). m.trace) f.is ∙ ap (λ (m : Known). m.trace ++ more) same in
      let pair : l.pair ≡ alarm.known.pair = ap (λ (m : Known). m.pair) f.is ∙ ap (λ (m : Known). m.pair) same in
      let start : l.start ≡ alarm.known.start = ap (λ (m : Known). m.start) f.is ∙ ap (λ (m : Known). m.start) same in
      record {
        within = alarm.within;
        known = l;
        of = are.each l (Contains-append_left after new l i);
        pair = alarm.pair ∙ sym pair;
        at = alarm.at;
        position = alarm.position ∙ ap (λ (n : ℕ). n + alarm.at) (sym start);
        broken = subst (λ (r : Trace). value_in r t alarm.at ≡ No) (sym trace) (same_value rows more t alarm.at alarm.count alarm.decided ∙ alarm.broken);
        count = alarm.count;
        deciding = alarm.deciding ∙ ap (λ (n : ℕ). n + alarm.count) (sym start);
        decided = subst (λ (r : Trace). IsDecided t r alarm.at alarm.count) (sym trace) (decided_still rows t alarm.at alarm.count alarm.decided more);
      }

  still : (a : Alarm) → IsAlarm numbers ticks a → IsAlarm numbers (ticks ++ seen ∷ []) a
  still a alarm =
      let m = alarm.known in
      let (k, i, pair) = from_map (λ (o : Known). o.pair) knowns m.pair (were.all m.pair m.start alarm.of.begins) in
      let same : k ≡ m = same_known numbers ticks k m (were.each k i) alarm.of pair in
      let (l, j, f) = zip_forward (IsFollowed numbers ticks seen.vessels) knowns after k followed i in
      grown a alarm k l same j f

  -- One that an earlier step decides was there.
  shrunk : (a : Alarm) (alarm : IsAlarm numbers (ticks ++ seen ∷ []) a) (k : Known) → Contains knowns k → IsFollowed numbers ticks seen.vessels k alarm.known
      → a.decided + 2 < length (ticks ++ seen ∷ []) → IsAlarm numbers ticks a
  shrunk a alarm k i f before =
      let t = tree_of_rule numbers.rules a.rule in
      let l = alarm.known in
      let more = f.answers ∷ [] in
      let trace : l.trace ≡ k.trace ++ more = ap (λ (m : Known). m.trace) f.is in
      let pair : l.pair ≡ k.pair = ap (λ (m : Known). m.pair) f.is in
      let start : l.start ≡ k.start = ap (λ (m : Known). m.start) f.is in
      let rows = rows_count numbers ticks k (were.each k i) in
      let deciding = alarm.deciding in
      let few : alarm.count ≤ length k.trace = omega (arith, one_more, before, deciding, start, rows) in
      let decided : IsDecided t k.trace alarm.at alarm.count =
      decided_front k.trace more t alarm.at alarm.count (subst (λ (r : Trace). IsDecided t r alarm.at alarm.count) trace alarm.decided) few in
      record {
        within = alarm.within;
        known = k;
        of = were.each k i;
        pair = alarm.pair ∙ pair;
        at = alarm.at;
        position = alarm.position ∙ ap (λ (n : ℕ). n + alarm.at) start;
        broken = sym (same_value k.trace more t alarm.at alarm.count decided) ∙ subst (λ (r : Trace). value_in r t alarm.at ≡ No) trace alarm.broken;
        count = alarm.count;
        deciding = alarm.deciding ∙ ap (λ (n : ℕ). n + alarm.count) start;
        decided = decided;
      }

  was : (a : Alarm) → IsAlarm numbers (ticks ++ seen ∷ []) a → a.decided + 2 < length (ticks ++ seen ∷ []) → IsAlarm numbers ticks a
  was a alarm before =
      let there = stepped numbers ticks seen after new are opened_now (length ticks - 1) refl a alarm in
      let (k, i, f) = zip_member (IsFollowed numbers ticks seen.vessels) knowns after alarm.known followed there in
      shrunk a alarm k i f before

-- The step that decides an alarm is one of the ticks'.
pub decided_within : (numbers : AuditNumbers) (ticks : List Sighting) (a : Alarm) → IsAlarm numbers ticks a → a.decided + 2 ≤ length ticks
decided_within numbers ticks a alarm =
    let rows = rows_count numbers ticks alarm.known alarm.of in
    let within = known_within numbers ticks alarm.known alarm.of in
    let deciding = alarm.deciding in
    let among = alarm.decided.among in
    let inside = alarm.decided.inside in
    omega (arith, rows, within, deciding, among, inside)

module _ (numbers : AuditNumbers) (ticks : List Sighting) (seen : Sighting) (knowns after new : List Known) (were : AreKnown numbers ticks knowns)
    (followed : AllZip (IsFollowed numbers ticks seen.vessels) knowns after) (are : AreKnown numbers (ticks ++ seen ∷ []) (after ++ new)) (opened_now : AreOpened (length ticks) new) where
  pub all_alarms : (given more : List Alarm) → AreAlarms numbers ticks given → AreAlarmsNow numbers (ticks ++ seen ∷ []) more → AreAlarms numbers (ticks ++ seen ∷ []) (given ++ more)
  all_alarms given more g m = record {
    each = λ a. (
      λ i. elim (Contains-append_cases given more a i) [
        | inl there ↦ still numbers ticks seen knowns after new were followed are opened_now a ((g.each a).0 there)
        | inr now ↦ ((m.each a).0 now).0
      ],
      λ alarm. elim (cases_lt (a.decided + 2) (length (ticks ++ seen ∷ []))) [
        | inl before ↦ Contains-append_left given more a ((g.each a).1 (was numbers ticks seen knowns after new were followed are opened_now a alarm before))
        | inr last ↦ (let most = decided_within numbers (ticks ++ seen ∷ []) a alarm in
            let now : a.decided + 2 ≡ length (ticks ++ seen ∷ []) = omega (arith, last, most) in
            Contains-append_right given more a ((m.each a).1 (alarm, now)))
      ],
    );
    ordered = in_order given more g.ordered m.ordered (λ a b i j.
        let before = decided_within numbers ticks a ((g.each a).0 i) in
        let now = ((m.each b).0 j).1 in
        earlier_first a b (omega (arith, before, now, length-append ticks (seen ∷ []))));
  }

none_in_order : InOrder []
unfolding IsStrictlySortedBy
none_in_order = tt

-- Before the first tick there is none.
pub no_alarms : (numbers : AuditNumbers) → AreAlarms numbers [] []
no_alarms numbers = record {
  each = λ a. (λ i. in_none a i, λ alarm. let most = decided_within numbers [] a alarm in absurd (omega (arith, most)));
  ordered = none_in_order;
}
