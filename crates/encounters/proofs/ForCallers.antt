-- Lemmas for the crates above: what is known of the steps up to one of them stays if further steps come.
use Rattle.std.proofs.Common.{◌≡◌, ℕ, zero, suc, ◌+◌, ◌-◌, ◌<◌, ◌≤◌, inl, inr, List, [], ◌∷◌, ◌++◌, length, IfSome, IsSome, refl, sym, ap, subst, ◌∙◌, arith}
use Rattle.std.proofs.lemmas.Bool.{cases_lt}
use Rattle.std.specs.Prelude.{Option, None, Some, IsSomeAnd}
use Rattle.encounters.specs.Risk.{HasRisk, IsPastClear}
use Rattle.encounters.specs.Engagement.{IsBeginning, IsEngaged, IsState, seen_at}
use Rattle.encounters.specs.declared.detect.Detect.{Detect}
use Rattle.encounters.specs.declared.pair_step.PairStep.{PairStep}
use Rattle.encounters.specs.declared.engagement_state.EngagementState.{EngagementState}
use Rattle.encounters.specs.declared.engagement_state.EngagementState.TheVariants.{Apart, Engaged}

pub seen_at-front : (steps more : List (Option PairStep)) (k : ℕ) → k < length steps → seen_at (steps ++ more) k ≡ seen_at steps k
seen_at-front [] more k lt = absurd (omega arith)
seen_at-front (x ∷ steps) more zero lt = refl
seen_at-front (x ∷ steps) more (suc k) lt = seen_at-front steps more k (omega arith)

pub seen_at-last : (steps : List (Option PairStep)) (x : Option PairStep) → seen_at (steps ++ x ∷ []) (length steps) ≡ x
seen_at-last [] x = refl
seen_at-last (y ∷ steps) x = seen_at-last steps x

-- ---- two lists that agree on the steps up to i

pub Agree : List (Option PairStep) → List (Option PairStep) → ℕ → Type 0
Agree xs ys i = (k : ℕ) → k ≤ i → seen_at xs k ≡ seen_at ys k

pub agree_front : (steps more : List (Option PairStep)) (i : ℕ) → i < length steps → Agree steps (steps ++ more) i
unfolding Agree
agree_front steps more i lt k le = sym (seen_at-front steps more k (omega arith))

pub agree_back : (xs ys : List (Option PairStep)) (i : ℕ) → Agree xs ys i → Agree ys xs i
unfolding Agree
agree_back xs ys i same k le = sym (same k le)

pub agree_earlier : (xs ys : List (Option PairStep)) (i k : ℕ) → Agree xs ys i → k ≤ i → Agree xs ys k
unfolding Agree
agree_earlier xs ys i k same le j below = same j (omega arith)

module _ (detect : Detect) where
  pub engaged_of-agree : (xs ys : List (Option PairStep)) (i : ℕ) → Agree xs ys i → IsEngaged detect xs i → IsEngaged detect ys i
  unfolding Agree
  engaged_of-agree xs ys i same h = record {
    start = h.start;
    until = h.until;
    risk = subst (λ (o : Option PairStep). IsSomeAnd o (λ pair. HasRisk detect pair.step)) (same h.start h.until) h.risk;
    seen = λ k from to. subst (λ (o : Option PairStep). IsSome o) (same k to) (h.seen k from to);
    not_clear = λ k from to. subst (λ (o : Option PairStep). IfSome o (λ pair. ¬ IsPastClear detect pair.step)) (same k to) (h.not_clear k from to);
  }

  pub beginning_of-agree : (xs ys : List (Option PairStep)) (i first : ℕ) → Agree xs ys i → IsBeginning detect xs i first → IsBeginning detect ys i first
  beginning_of-agree xs ys i first same h = record {
    until = h.until;
    engaged = λ k from to. engaged_of-agree xs ys k (agree_earlier xs ys i k same to) (h.engaged k from to);
    least = λ other le all. h.least other le
        (λ k from to. engaged_of-agree ys xs k (agree_back xs ys k (agree_earlier xs ys i k same to)) (all k from to));
  }

  pub engagement_of-agree : (xs ys : List (Option PairStep)) (i : ℕ) (state : EngagementState) → Agree xs ys i → IsState detect xs i state → IsState detect ys i state
  unfolding Agree
  engagement_of-agree xs ys i Apart same h = λ engaged. h (engaged_of-agree ys xs i (agree_back xs ys i same) engaged)
  engagement_of-agree xs ys i (Engaged kind age a b) same h = record {
    beginning = h.beginning;
    begins = beginning_of-agree xs ys i h.beginning same h.begins;
    pair = h.pair;
    first = sym (same h.beginning h.begins.until) ∙ h.first;
    class = h.class;
    since = h.since;
    state_a = h.state_a;
    state_b = h.state_b;
  }

  -- The state at a step is the same whatever steps come after it.
  pub state_over_more : (steps more : List (Option PairStep)) (i : ℕ) (state : EngagementState) → i < length steps
      → IsState detect steps i state → IsState detect (steps ++ more) i state
  state_over_more steps more i state lt = engagement_of-agree steps (steps ++ more) i state (agree_front steps more i lt)

-- ---- steps without risk before the others, as those of a pair before she is watched

pub seen_at-behind : (front steps : List (Option PairStep)) (k : ℕ) → seen_at (front ++ steps) (length front + k) ≡ seen_at steps k
seen_at-behind [] steps k = ap (seen_at steps) (omega arith)
seen_at-behind (x ∷ front) steps k =
    let e : length (x ∷ front) + k ≡ suc (length front + k) = omega arith in
    ap (seen_at (x ∷ (front ++ steps))) e ∙ seen_at-behind front steps k

no_risk : (detect : Detect) (o : Option PairStep) → IfSome o (λ pair. ¬ HasRisk detect pair.step) → IsSomeAnd o (λ pair. HasRisk detect pair.step) → ⊥
no_risk detect None not h = h
no_risk detect (Some pair) not h = not h

module _ (detect : Detect) (front steps : List (Option PairStep)) where
  -- No step of the front has risk.
  abbrev pub IsRiskless : Type 0
  IsRiskless = (k : ℕ) → k < length front → IfSome (seen_at front k) (λ pair. ¬ HasRisk detect pair.step)

  -- what holds of a step is the same if it is counted from the front's end
  shifted : (P : Option PairStep → Type 0) (k : ℕ) → length front ≤ k → P (seen_at steps (k - length front)) → P (seen_at (front ++ steps) k)
  shifted P k le h =
      let e : length front + (k - length front) ≡ k = omega arith in
      subst P (sym (seen_at-behind front steps (k - length front)) ∙ ap (seen_at (front ++ steps)) e) h

  pub engaged_behind : (i : ℕ) → IsEngaged detect steps i → IsEngaged detect (front ++ steps) (length front + i)
  engaged_behind i h =
      let until = h.until in
      record {
        start = length front + h.start;
        until = omega arith;
        risk = subst (λ (o : Option PairStep). IsSomeAnd o (λ pair. HasRisk detect pair.step)) (sym (seen_at-behind front steps h.start)) h.risk;
        seen = λ k from to. shifted (λ o. IsSome o) k (omega arith) (h.seen (k - length front) (omega arith) (omega arith));
        not_clear = λ k from to. shifted (λ o. IfSome o (λ pair. ¬ IsPastClear detect pair.step)) k (omega arith)
            (h.not_clear (k - length front) (omega arith) (omega arith));
      }

  start_behind : IsRiskless → (i : ℕ) (h : IsEngaged detect (front ++ steps) i) → length front ≤ h.start
  start_behind free i h =
      elim (cases_lt h.start (length front)) [
        | inl lt ↦ absurd (no_risk detect (seen_at front h.start) (free h.start lt)
            (subst (λ (o : Option PairStep). IsSomeAnd o (λ pair. HasRisk detect pair.step)) (seen_at-front front steps h.start lt) h.risk))
        | inr le ↦ le
      ]

  pub engaged_from : IsRiskless → (i : ℕ) → IsEngaged detect (front ++ steps) (length front + i) → IsEngaged detect steps i
  engaged_from free i h =
      let le : length front ≤ h.start = start_behind free (length front + i) h in
      let until = h.until in
      let e : h.start ≡ length front + (h.start - length front) = omega arith in
      record {
        start = h.start - length front;
        until = omega arith;
        risk = subst (λ (o : Option PairStep). IsSomeAnd o (λ pair. HasRisk detect pair.step))
            (ap (seen_at (front ++ steps)) e ∙ seen_at-behind front steps (h.start - length front)) h.risk;
        seen = λ k from to. subst (λ (o : Option PairStep). IsSome o) (seen_at-behind front steps k) (h.seen (length front + k) (omega arith) (omega arith));
        not_clear = λ k from to. subst (λ (o : Option PairStep). IfSome o (λ pair. ¬ IsPastClear detect pair.step)) (seen_at-behind front steps k)
            (h.not_clear (length front + k) (omega arith) (omega arith));
      }

  pub beginning_behind : IsRiskless → (i first : ℕ) → IsBeginning detect steps i first → IsBeginning detect (front ++ steps) (length front + i) (length front + first)
  beginning_behind free i first h =
      let until = h.until in
      record {
        until = omega arith;
        engaged = λ k from to. let e : length front + (k - length front) ≡ k = omega arith in
            subst (λ (n : ℕ). IsEngaged detect (front ++ steps) n) e (engaged_behind (k - length front) (h.engaged (k - length front) (omega arith) (omega arith)));
        least = λ other le all.
            let here : IsEngaged detect (front ++ steps) other = all other (omega arith) le in
            let late : length front ≤ here.start = start_behind free other here in
            let until = here.until in
            let least : first ≤ other - length front = h.least (other - length front) (omega arith)
            (λ k from to. engaged_from free k (all (length front + k) (omega arith) (omega arith))) in
            omega arith;
      }

  -- The state at a step is the same if steps without risk come before, as those at which the vessels are not watched.
  pub state_behind : IsRiskless → (i : ℕ) (state : EngagementState) → IsState detect steps i state → IsState detect (front ++ steps) (length front + i) state
  state_behind free i Apart h = λ engaged. h (engaged_from free i engaged)
  state_behind free i (Engaged kind age a b) h =
      let since = h.since in
      record {
        beginning = length front + h.beginning;
        begins = beginning_behind free i h.beginning h.begins;
        pair = h.pair;
        first = seen_at-behind front steps h.beginning ∙ h.first;
        class = h.class;
        since = omega arith;
        state_a = h.state_a;
        state_b = h.state_b;
      }
