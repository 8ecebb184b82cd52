-- The first good entry of a prefix: the first reason towards the first target that has one.
use Rattle.std.proofs.Common.{◌≡◌, ◌∙◌, ℕ, ◌<◌, ◌≤◌, ◌⊎◌, inl, inr, List, length, take, get_or, refl, sym, ap, subst, arith, Some, None}
use Rattle.std.specs.Prelude.{Option, AllPairs, IsSome, IsSomeAnd, MatchOption, slice_index}
use Rattle.std.proofs.lemmas.Bool.{cases_lt}
use Rattle.std.proofs.lemmas.List.{get_or-take, length-take-le}
use Rattle.closest_approach.specs.declared.nearest.Moment.{Moment}
use Rattle.encounters.specs.declared.pair_step.PairStep.{PairStep}
use Rattle.meetings.specs.Traces.{step_at}
use Rattle.mtl_formulas.specs.FormulaTree.{FormulaTree}
use Rattle.plan_situations.specs.Domains.{moment_of, Enters, IsEntry as IsDomainEntry, IsInsideAt}
use Rattle.plan_situations.specs.FailingPlans.{BreaksARule, BreaksAt, EntersAt, EntersDomain, FailsBy, FailsTowards}
use Rattle.plan_situations.specs.Prefixes.{reached, steps_told, PrefixFails}
use Rattle.plan_situations.specs.Reasons.{HasReason, IsFirstBroken, IsFirstEntry, RuleBreaksAt}
use Rattle.plan_situations.specs.Situations.{own_at, target_at}
use Rattle.plan_situations.specs.declared.reasons.BrokenRule.{BrokenRule}
use Rattle.plan_situations.specs.declared.reasons.DomainEntry.{DomainEntry}
use Rattle.plan_situations.specs.declared.situation.Situation.{Situation}
use Rattle.plan_situations.specs.declared.situation.Target.{Target}
use Rattle.plan_situations.proofs.ForCallers.{and_weaker, fails_too, rule_reason, rule_there, same_step, shared, some_at, some_here}
use Rattle.refutation_search.specs.CanonicalLists.{IsEarlier, IsFirstGood, TellsMoment}
use Rattle.refutations.specs.GoodEntries.{Holds, HoldsFor, IsInsideIn, IsInstant}
use Rattle.refutation_search.specs.Inner.Walks.{IsFirstTowards}
use Rattle.refutations.specs.declared.entry.Reason.{Reason}
use Rattle.refutations.specs.declared.entry.Reason.TheVariants.{Domain, Rule}
use Rattle.refutations.proofs.HeldReasons.{alike, has_reason, reasons_agree}

-- ---- the first reason towards a target

module _ (s : Situation) (X : List ℕ) (last : ℕ) (T : Target) where
  enters_at : (step : ℕ) (moment : Moment) → IsInsideIn s X last T step moment → EntersAt s X T step
  enters_at step moment h =
      and_weaker (λ (pair : PairStep). IsInsideAt s T pair moment.a moment.b) (Enters s T) (step_at (own_at s X) (target_at s T) step)
      (λ pair inside. record { a = moment.a; b = moment.b; within = h.instant.within; some = h.instant.some; inside = inside }) h.inside

  -- the moment of an entry is an instant of the step
  instant_of : (o : Option PairStep) (moment : Moment) → IsSomeAnd o (λ pair. IsDomainEntry s T pair moment) → IsInstant moment
  instant_of None moment h = absurd h
  instant_of (Some pair) moment h = record { within = h.within; some = h.some; small = h.small }

  pub entry_first : (entry : DomainEntry) → IsFirstEntry s X last T entry → IsFirstTowards s X last T (Domain entry.step entry.moment)
  entry_first entry h = record {
    holds = record {
      from_now = h.from_now;
      planned = h.planned;
      instant = instant_of (step_at (own_at s X) (target_at s T) entry.step) entry.moment h.enters;
      inside = and_weaker (λ (pair : PairStep). IsDomainEntry s T pair entry.moment) (λ (pair : PairStep). IsInsideAt s T pair entry.moment.a entry.moment.b)
          (step_at (own_at s X) (target_at s T) entry.step) (λ pair is. is.inside) h.enters;
    };
    known = tt;
    moment = and_weaker (λ (pair : PairStep). IsDomainEntry s T pair entry.moment) (λ (pair : PairStep). entry.moment ≡ moment_of s T pair)
        (step_at (own_at s X) (target_at s T) entry.step) (λ pair is. is.is) h.enters;
    first = before;
  }
    where
      before : (other : Reason) → Holds s X last T other → ¬ IsEarlier other (Domain entry.step entry.moment)
      before (Domain step moment) holds less = h.no_step_before step holds.from_now less (enters_at step moment holds)
      before (Rule index step) holds less = less

  pub broken_first : (broken : BrokenRule) → (¬ EntersDomain s X last T) → IsFirstBroken s X last T broken → IsFirstTowards s X last T (Rule broken.rule broken.step)
  broken_first broken none h = record {
    holds = h.breaks;
    known = (rule_there s.rules (λ (f : FormulaTree). BreaksAt s X last T f broken.step) broken.rule h.breaks).0;
    moment = tt;
    first = before;
  }
    where
      before : (other : Reason) → Holds s X last T other → ¬ IsEarlier other (Rule broken.rule broken.step)
      before (Domain step moment) holds less =
          none (record { step = step; from_now = holds.from_now; planned = holds.planned; enters = enters_at step moment holds })
      before (Rule index step) holds less = elim less [
        | inl earlier ↦ h.no_step_before step index earlier holds
        | inr both ↦ h.no_rule_before index both.1 (subst (λ (k : ℕ). RuleBreaksAt s X last T k index) both.0 holds)
      ]

  -- if the plan fails towards the target and no domain is entered, a rule is newly broken
  pub some_broken : (found : Option BrokenRule) → (¬ EntersDomain s X last T) → FailsTowards s X last T → MatchOption found (¬ BreaksARule s X last T) (IsFirstBroken s X last T)
      → IsSome found
  some_broken None none (inl enters) h = absurd (none enters)
  some_broken None none (inr breaks) h = absurd (h breaks)
  some_broken (Some broken) none fails h = refl

  pub holds_fails : (reason : Reason) → Holds s X last T reason → FailsTowards s X last T
  holds_fails reason h = by (has_reason s X last T reason h)
    where
      by : HasReason s X last T → FailsTowards s X last T
      by (inl enters) = inl enters
      by (inr found) = inr (rule_reason s X T last found.step found.rule found.breaks)

-- ---- the first good entry

module _ (s : Situation) (some : 1 ≤ s.lattice.legs) (prefix plan : List ℕ) (extends : take (length prefix) plan ≡ prefix) where
  pub prefix_fails_too : PrefixFails s prefix → FailsBy s (reached s (length prefix)) plan
  prefix_fails_too h =
      fails_too s prefix plan (steps_told s.lattice (length prefix))
      (shared s.lattice prefix plan (length prefix) some (λ i lt. ap (λ (ds : List ℕ). slice_index ds i) (sym extends) ∙ get_or-take (length prefix) plan i 0 lt))
      (reached s (length prefix)) (omega arith) (reached s (length prefix)) (omega arith) (omega arith) h

  moment_too : (T : Target) (reason : Reason) → Holds s plan (reached s (length prefix)) T reason → TellsMoment s plan T reason → TellsMoment s prefix T reason
  moment_too T (Domain step moment) holds h =
      subst (λ (o : Option PairStep). IsSomeAnd o (λ pair. moment ≡ moment_of s T pair))
      (same_step s plan prefix (steps_told s.lattice (length prefix)) (λ k lt. sym (alike s some prefix plan extends T k lt)) T step holds.planned) h
  moment_too T (Rule index step) holds h = tt

  first_towards_too : (T : Target) (reason : Reason) → IsFirstTowards s plan (reached s (length prefix)) T reason → IsFirstTowards s prefix (reached s (length prefix)) T reason
  first_towards_too T reason h = record {
    holds = (reasons_agree s some prefix plan extends T reason).1 h.holds;
    known = h.known;
    moment = moment_too T reason h.holds h.moment;
    first = λ other holds. h.first other ((reasons_agree s some prefix plan extends T other).0 holds);
  }

  module _ (k : ℕ) (T : Target) (reason : Reason) (lt : k < length s.targets) (is : T ≡ get_or s.targets k T)
      (ascending : AllPairs (λ (a b : Target). a.mmsi < b.mmsi) s.targets)
      (before : (i : ℕ) (d : Target) → i < k → ¬ FailsTowards s plan (reached s (length prefix)) (get_or s.targets i d))
      (h : IsFirstTowards s plan (reached s (length prefix)) T reason) where
    here_first : IsFirstTowards s prefix (reached s (length prefix)) T reason
    here_first = first_towards_too T reason h

    -- no reason towards another target, and no earlier one towards this
    none_before : (target : ℕ) (other : Reason) (j : ℕ) → (get_or s.targets j T).mmsi ≡ target → j < length s.targets → HoldsFor s prefix (get_or s.targets j T) other
        → (target < T.mmsi) ⊎ ((target ≡ T.mmsi) × IsEarlier other reason) → ⊥
    none_before target other j mmsi within holds precedes = elim (cases_lt j k) [
      | inl less ↦ before j T less (holds_fails s plan (reached s (length prefix)) (get_or s.targets j T) other
          ((reasons_agree s some prefix plan extends (get_or s.targets j T) other).0 holds))
      | inr from ↦ elim (cases_lt k j) [
        | inl more ↦ (let further : (get_or s.targets k T).mmsi < (get_or s.targets j T).mmsi = ascending k j T more within in
            let own : T.mmsi ≡ (get_or s.targets k T).mmsi = ap (λ (t : Target). t.mmsi) is in
            elim precedes [ inl less ↦ absurd (omega arith) | inr both ↦ (let same = both.0 in absurd (omega arith)) ])
        | inr to ↦ (let e : j ≡ k = omega arith in
            let same : get_or s.targets j T ≡ T = ap (λ (i : ℕ). get_or s.targets i T) e ∙ sym is in
            let own : (get_or s.targets j T).mmsi ≡ T.mmsi = ap (λ (t : Target). t.mmsi) same in
            elim precedes [
              | inl less ↦ absurd (omega arith)
              | inr both ↦ here_first.first other (subst (λ (t : Target). HoldsFor s prefix t other) same holds) both.1
            ])
      ]
    ]

    pub first_good : IsFirstGood s (record { prefix = prefix; target = T.mmsi; reason = reason })
    first_good = record {
      good = some_here (λ (t : Target). (t.mmsi ≡ T.mmsi) × HoldsFor s prefix t reason) s.targets k T lt
          (ap (λ (t : Target). t.mmsi) (sym is), subst (λ (t : Target). HoldsFor s prefix t reason) is here_first.holds);
      moment = some_here (λ (t : Target). (t.mmsi ≡ T.mmsi) × TellsMoment s prefix t reason) s.targets k T lt
          (ap (λ (t : Target). t.mmsi) (sym is), subst (λ (t : Target). TellsMoment s prefix t reason) is here_first.moment);
      first = λ other same good precedes.
          let found = some_at (λ (t : Target). (t.mmsi ≡ other.target) × HoldsFor s other.prefix t other.reason) s.targets good in
          let facts = found.1.1 T in
          none_before other.target other.reason found.0 facts.0 found.1.0 (subst (λ (p : List ℕ). HoldsFor s p (get_or s.targets found.0 T) other.reason) same facts.1) precedes;
    }

-- ---- if the prefix is the first legs of the plan

module _ (s : Situation) (some : 1 ≤ s.lattice.legs) (plan prefix : List ℕ) (legs until : ℕ) (is : prefix ≡ take legs plan) (le : legs ≤ length plan) (told : until ≡ reached s legs) where
  lasts : length prefix ≡ legs
  lasts = ap length is ∙ length-take-le legs plan le

  extends : take (length prefix) plan ≡ prefix
  extends = ap (λ (n : ℕ). take n plan) lasts ∙ sym is

  same : until ≡ reached s (length prefix)
  same = told ∙ ap (reached s) (sym lasts)

  pub passes_at : (¬ FailsBy s until plan) → ¬ PrefixFails s prefix
  passes_at passes h = passes (subst (λ (last : ℕ). FailsBy s last plan) (sym same) (prefix_fails_too s some prefix plan extends h))

  pub first_good_at : (k : ℕ) (T : Target) (reason : Reason) → k < length s.targets → T ≡ get_or s.targets k T → AllPairs (λ (a b : Target). a.mmsi < b.mmsi) s.targets
      → ((i : ℕ) (d : Target) → i < k → ¬ FailsTowards s plan until (get_or s.targets i d)) → IsFirstTowards s plan until T reason
      → IsFirstGood s (record { prefix = prefix; target = T.mmsi; reason = reason })
  first_good_at k T reason lt at ascending before h =
      first_good s some prefix plan extends k T reason lt at ascending
      (subst (λ (last : ℕ). (i : ℕ) (d : Target) → i < k → ¬ FailsTowards s plan last (get_or s.targets i d)) same before)
      (subst (λ (last : ℕ). IsFirstTowards s plan last T reason) same h)
