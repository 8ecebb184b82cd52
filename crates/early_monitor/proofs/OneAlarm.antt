-- A breach has one alarm.
use Rattle.std.proofs.Common.{◌≡◌, ℕ, ◌+◌, ◌-◌, ◌<◌, List, length, refl, sym, ap, subst, ◌∙◌, arith}
use Rattle.mtl_formulas.specs.declared.verdict.Verdict.{Verdict}
use Rattle.mtl_formulas.specs.declared.verdict.Verdict.TheVariants.{No, Open}
use Rattle.mtl_formulas.specs.Traces.{value_in}
use Rattle.traces.specs.Audited.{AuditNumbers, Sighting}
use Rattle.traces.specs.Known.{IsKnown, Known}
use Rattle.early_monitor.specs.declared.alarm.Alarm.{Alarm}
use Rattle.early_monitor.specs.Alarms.{IsAlarm, tree_of_rule}
use Rattle.mtl_early.specs.Decided.{IsDecided}
use Rattle.mtl_early.proofs.ForCallers.{one_number, some_number}
use Rattle.early_monitor.proofs.NextAlarms.{same_known}

not_open : (v : Verdict) → v ≡ No → v ≡ Open → ⊥
not_open v broken undecided = let bad : No ≡ Open = sym broken ∙ undecided in cc bad

module _ (numbers : AuditNumbers) (ticks : List Sighting) where
  pub some_alarm : (known : Known) (rule at : ℕ) → IsKnown numbers ticks known → rule < length numbers.rules
      → value_in known.trace (tree_of_rule numbers.rules rule) at ≡ No
      → (alarm : Alarm) × IsAlarm numbers ticks alarm × (alarm.pair ≡ known.pair) × (alarm.rule ≡ rule) × (alarm.position ≡ known.start + at)
  some_alarm known rule at of within broken =
      let (m, decided) = some_number known.trace (tree_of_rule numbers.rules rule) at (not_open _ broken) in
      let inside = decided.inside in (
        record { decided = known.start + m - 1; pair = known.pair; rule = rule; position = known.start + at },
        record {
          within = within;
          known = known;
          of = of;
          pair = refl;
          at = at;
          position = refl;
          broken = broken;
          count = m;
          deciding = omega (arith, inside);
          decided = decided;
        },
        refl,
        refl,
        refl,
      )

  pub one_alarm : (a b : Alarm) → IsAlarm numbers ticks a → IsAlarm numbers ticks b → a.pair ≡ b.pair → a.rule ≡ b.rule → a.position ≡ b.position → a ≡ b
  one_alarm a b h k pairs rules positions =
      let same : h.known ≡ k.known = same_known numbers ticks h.known k.known h.of k.of (sym h.pair ∙ pairs ∙ k.pair) in
      let start : h.known.start ≡ k.known.start = ap (λ (x : Known). x.start) same in
      let place = h.position in
      let other_place = k.position in
      let at : h.at ≡ k.at = omega (arith, start, positions, place, other_place) in
      let there : IsDecided (tree_of_rule numbers.rules b.rule) k.known.trace k.at h.count =
      subst (λ (n : ℕ). IsDecided (tree_of_rule numbers.rules b.rule) k.known.trace n h.count) at
      (subst (λ (x : Known). IsDecided (tree_of_rule numbers.rules b.rule) x.trace h.at h.count) same
      (subst (λ (r : ℕ). IsDecided (tree_of_rule numbers.rules r) h.known.trace h.at h.count) rules h.decided)) in
      let count : h.count ≡ k.count = one_number k.known.trace (tree_of_rule numbers.rules b.rule) k.at h.count k.count there k.decided in
      let deciding = h.deciding in
      let other_deciding = k.deciding in
      let step : a.decided ≡ b.decided = omega (arith, start, count, deciding, other_deciding) in
      λ i. record { decided = step i; pair = pairs i; rule = rules i; position = positions i }
