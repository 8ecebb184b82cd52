-- Which alarms a row brings for one rule.
use Rattle.std.proofs.Common.{◌≡◌, ℕ, ◌+◌, ◌⊎◌, ◌↔◌, inl, inr, List, [], length, append-nil, sym, ap, subst, ◌∙◌, arith, Option, Some, None}
use Rattle.std.proofs.lemmas.Bool.{cases_lt}
use Rattle.mtl_formulas.specs.declared.verdict.Verdict.{Verdict}
use Rattle.mtl_formulas.specs.declared.verdict.Verdict.TheVariants.{No}
use Rattle.mtl_formulas.specs.FormulaTree.{FormulaTree}
use Rattle.mtl_formulas.specs.FormulaMeasures.{HasValidParts, reach_of}
use Rattle.mtl_monitor.specs.Following.{IsFed}
use Rattle.mtl_formulas.specs.Traces.{Trace, value_in}
use Rattle.early_monitor.specs.declared.alarm.Alarm.{Alarm}
use Rattle.early_monitor.specs.declared.alarm_set.Place.{Place}
use Rattle.mtl_early.specs.Decided.{IsDecided, IsDecidedNow, IsFirstDecided, IsNextDecided}
use Rattle.traces.specs.Audited.{AuditNumbers}
use Rattle.traces.specs.Known.{Known}
use Rattle.early_monitor.specs.Alarms.{tree_of_rule}
use Rattle.rule_program.specs.Lags.{lags_of}
use Rattle.early_monitor.specs.Inner.Breaches.{Adds, IsBreach, IsBreachBefore, IsBreachBelow, Tells, alarm_at}
use Rattle.mtl_early.proofs.ForCallers.{one_number}
use Rattle.early_monitor.proofs.LastNo.{no_last}

-- ---- what is added, one after the other

pub adds_same : (P Q : Alarm → Type 0) (x y : List Alarm) → ((a : Alarm) → P a ↔ Q a) → Adds P x y → Adds Q x y
adds_same P Q x y same h a = (
  λ i. elim ((h a).0 i) [ inl old ↦ inl old | inr new ↦ inr ((same a).0 new) ],
  λ i. (h a).1 (elim i [ inl old ↦ inl old | inr new ↦ inr ((same a).1 new) ]),
)

pub adds_none : (P : Alarm → Type 0) (x : List Alarm) → ((a : Alarm) → P a → ⊥) → Adds P x x
adds_none P x none a = (λ i. inl i, λ i. elim i [ inl old ↦ old | inr new ↦ absurd (none a new) ])

pub adds_then : (P Q : Alarm → Type 0) (x y z : List Alarm) → Adds P x y → Adds Q y z → Adds (λ a. P a ⊎ Q a) x z
adds_then P Q x y z h k a = (
  λ i. elim ((k a).0 i) [
    | inl before ↦ elim ((h a).0 before) [ inl old ↦ inl old | inr first ↦ inr (inl first) ]
    | inr second ↦ inr (inr second)
  ],
  λ i. elim i [
    | inl old ↦ (k a).1 (inl ((h a).1 (inl old)))
    | inr new ↦ elim new [ inl first ↦ (k a).1 (inl ((h a).1 (inr first))) | inr second ↦ (k a).1 (inr second) ]
  ],
)

pub told : (place : Place) (position : ℕ) (value : Verdict) → value ≡ No → (a : Alarm) → (a ≡ alarm_at place position) ↔ Tells (Some (position, value)) place a
told place position value is a = (λ e. (is, e), λ h. h.1)

-- ---- a rule whose breaches the last row decides that it reaches

module _ (place : Place) (t : FormulaTree) (rows : Trace) (valid : HasValidParts t) (last : (lags_of t).no ≡ reach_of t) where
  pub reached : (i : ℕ) → value_in rows t i ≡ No → IsDecidedNow t rows i → length rows ≡ i + reach_of t + 1
  reached i broken decided = one_number rows t i (length rows) (i + reach_of t + 1) decided (no_last rows t i valid last broken)

  decided_at : (i : ℕ) → value_in rows t i ≡ No → i + 1 + reach_of t ≡ length rows → IsDecidedNow t rows i
  decided_at i broken at =
      let all : i + reach_of t + 1 ≡ length rows = omega (arith, at) in
      subst (λ (m : ℕ). IsDecided t rows i m) all (no_last rows t i valid last broken)

  pub late_breach : (answer : Option (ℕ × Verdict)) → IsFed answer t rows → (a : Alarm) → Tells answer place a ↔ IsBreach place t rows a
  late_breach None fed a = (λ h. absurd h, λ b. let e = reached b.at b.broken b.decided in absurd (omega (arith, e, fed)))
  late_breach (Some answer) fed a = (
    λ h. record { at = answer.0; is = h.1; broken = is_no h.0; decided = decided_at answer.0 (is_no h.0) fed.0 },
    λ b.
        let e = reached b.at b.broken b.decided in
        let at : b.at ≡ answer.0 = omega (arith, e, fed.0) in (
          value_now ∙ subst (λ (i : ℕ). value_in rows t i ≡ No) at b.broken,
          b.is ∙ ap (alarm_at place) at,
        ),
  )
    where
      value_now : answer.1 ≡ value_in rows t answer.0
      value_now = fed.1 [] ∙ ap (λ (r : Trace). value_in r t answer.0) (append-nil rows)

      is_no : answer.1 ≡ No → value_in rows t answer.0 ≡ No
      is_no value = sym value_now ∙ value

-- ---- a rule whose breaches may be decided before: answer after answer

pub none_given : (place : Place) (t : FormulaTree) (rows : Trace) (a : Alarm) → IsBreachBefore 0 place t rows a → ⊥
none_given place t rows a b = let below = b.1 in absurd (omega (arith, below))

module _ (place : Place) (t : FormulaTree) (rows : Trace) (from : ℕ) where
  -- with an answer more
  pub more_given : (i : ℕ) (v : Verdict) → IsFirstDecided t rows from i v → (a : Alarm)
      → (IsBreachBefore from place t rows a ⊎ Tells (Some (i, v)) place a) ↔ IsBreachBefore (i + 1) place t rows a
  more_given i v next a = (
    λ h. elim h [
      | inl before ↦ (before.0, let below = before.1 in let after = next.after in omega (arith, below, after))
      | inr told ↦ (record { at = i; is = told.1; broken = sym next.value ∙ told.0; decided = next.decided }, omega arith)
    ],
    λ b. elim (cases_lt b.0.at from) [
      | inl before ↦ inl (b.0, before)
      | inr since ↦ elim (cases_lt b.0.at i) [
        | inl between ↦ absurd (next.first b.0.at since between b.0.decided)
        | inr not_below ↦
            let at : b.0.at ≡ i = (let below = b.1 in omega (arith, below, not_below)) in
            inr (next.value ∙ subst (λ (j : ℕ). value_in rows t j ≡ No) at b.0.broken, b.0.is ∙ ap (alarm_at place) at)
      ]
    ],
  )

  -- where there is no further one
  pub all_given : IsNextDecided None t rows from → (a : Alarm) → IsBreachBefore from place t rows a ↔ IsBreach place t rows a
  all_given none a = (
    λ b. b.0,
    λ b. elim (cases_lt b.at from) [ inl before ↦ (b, before) | inr since ↦ absurd (none b.at since b.decided) ],
  )

-- ---- one rule more

pub below_more : (numbers : AuditNumbers) (step rule : ℕ) (known : Known) (a : Alarm)
    → (IsBreachBelow numbers step rule known a ⊎ IsBreach (record { pair = known.pair; start = known.start; rule = rule; step = step }) (tree_of_rule numbers.rules rule) known.trace a)
    ↔ IsBreachBelow numbers step (rule + 1) known a
below_more numbers step rule known a = (
  λ h. elim h [
    | inl before ↦ (let below = before.below in record { rule = before.rule; below = omega (arith, below); breach = before.breach })
    | inr here ↦ record { rule = rule; below = omega arith; breach = here }
  ],
  λ b. let below = b.below in elim (cases_lt b.rule rule) [
    | inl before ↦ inl (record { rule = b.rule; below = before; breach = b.breach })
    | inr after ↦ (let same : b.rule ≡ rule = omega (arith, below, after) in
        inr (subst (λ (n : ℕ). IsBreach (record { pair = known.pair; start = known.start; rule = n; step = step }) (tree_of_rule numbers.rules n) known.trace a) same b.breach))
  ],
)

pub below_none : (numbers : AuditNumbers) (step : ℕ) (known : Known) (a : Alarm) → IsBreachBelow numbers step 0 known a → ⊥
below_none numbers step known a b = let below = b.below in absurd (omega (arith, below))
