-- How engagements begin, last and end from one step to the next.
use Rattle.std.proofs.Common.{◌≡◌, ℕ, zero, suc, ◌+◌, ◌-◌, ◌^◌, ◌<◌, ◌≤◌, ◌⊎◌, inl, inr, List, [], ◌∷◌, ◌++◌, length, length-append, IfSome, IsSome, refl, sym, ap, subst, arith}
use Rattle.std.specs.Prelude.{Option, None, Some, IsSomeAnd, is_some, true, false}
use Rattle.motion.specs.declared.leg.TickState.{TickState}
use Rattle.sectors.specs.declared.class.Class.{Class}
use Rattle.encounters.specs.Risk.{HasRisk, IsPastClear}
use Rattle.encounters.specs.Engagement.{IsBeginning, IsEngaged, IsEngagement, IsState, class_at, seen_at}
use Rattle.encounters.specs.Standing.{IsStateAfter}
use Rattle.encounters.specs.Inner.Following.{Follows}
use Rattle.encounters.specs.declared.detect.Detect.{Detect}
use Rattle.encounters.specs.declared.pair_step.PairStep.{PairStep}
use Rattle.encounters.specs.declared.engagement_state.EngagementState.{EngagementState}
use Rattle.encounters.specs.declared.engagement_state.EngagementState.TheVariants.{Apart, Engaged}
use Rattle.encounters.proofs.Decided.{clear_or_not, risk_or_not}
use Rattle.encounters.proofs.ForCallers.{seen_at-last, agree_front, agree_back, engaged_of-agree, engagement_of-agree}

same_or_earlier : (k n : ℕ) → k ≤ n → (k ≡ n) ⊎ (k < n)
same_or_earlier k n le = grind arith

module _ (detect : Detect) (steps : List (Option PairStep)) where
  -- ---- engaged or not

  unseen : (n : ℕ) → seen_at steps n ≡ None → ¬ IsEngaged detect steps n
  unseen n here h = let yes : IsSome (seen_at steps n) = h.seen n h.until (omega arith) in let no : is_some (seen_at steps n) ≡ false = ap is_some here in cc

  begins : (n : ℕ) (pair : PairStep) → seen_at steps n ≡ Some pair → HasRisk detect pair.step → IsEngaged detect steps n
  begins n pair here risk = record {
    start = n;
    until = omega arith;
    risk = subst (λ (o : Option PairStep). IsSomeAnd o (λ pair. HasRisk detect pair.step)) (sym here) risk;
    seen = λ k from to. let same : n ≡ k = omega arith in
        subst (λ (i : ℕ). IsSome (seen_at steps i)) same (ap is_some here);
    not_clear = λ k from to. absurd (omega arith);
  }

  lasts : (m : ℕ) (pair : PairStep) → seen_at steps (suc m) ≡ Some pair → ¬ IsPastClear detect pair.step → IsEngaged detect steps m → IsEngaged detect steps (suc m)
  lasts m pair here not h = record {
    start = h.start;
    until = (let before = h.until in omega arith);
    risk = h.risk;
    seen = λ k from to. elim (same_or_earlier k (suc m) to) [
      | inl same ↦ subst (λ (i : ℕ). IsSome (seen_at steps i)) (sym same) (ap is_some here)
      | inr earlier ↦ h.seen k from (omega arith)
    ];
    not_clear = λ k from to. elim (same_or_earlier k (suc m) to) [
      | inl same ↦ subst (λ (i : ℕ). IfSome (seen_at steps i) (λ pair. ¬ IsPastClear detect pair.step)) (sym same)
          (subst (λ (o : Option PairStep). IfSome o (λ pair. ¬ IsPastClear detect pair.step)) (sym here) not)
      | inr earlier ↦ h.not_clear k from (omega arith)
    ];
  }

  -- The step before n, if there is one, is not engaged.
  Free : ℕ → Type 0
  Free n = (m : ℕ) → n ≡ suc m → ¬ IsEngaged detect steps m

  at_risk : (n : ℕ) (pair : PairStep) → seen_at steps n ≡ Some pair → (h : IsEngaged detect steps n) → h.start ≡ n → HasRisk detect pair.step
  at_risk n pair here h same =
      subst (λ (o : Option PairStep). IsSomeAnd o (λ pair. HasRisk detect pair.step)) here
      (subst (λ (i : ℕ). IsSomeAnd (seen_at steps i) (λ pair. HasRisk detect pair.step)) same h.risk)

  stays_free : (n : ℕ) (pair : PairStep) → seen_at steps n ≡ Some pair → ¬ HasRisk detect pair.step → Free n → ¬ IsEngaged detect steps n
  unfolding Free
  stays_free n pair here not free h =
      elim (same_or_earlier h.start n h.until) [
        | inl same ↦ not (at_risk n pair here h same)
        | inr earlier ↦ (let e : n ≡ suc (n - 1) = omega arith in free (n - 1) e (record {
          start = h.start;
          until = omega arith;
          risk = h.risk;
          seen = λ k from to. h.seen k from (omega arith);
          not_clear = λ k from to. h.not_clear k from (omega arith);
        }))
      ]

  ends : (n : ℕ) (pair : PairStep) → seen_at steps n ≡ Some pair → IsPastClear detect pair.step → ¬ IsEngaged detect steps n
  ends n pair here clear h =
      elim (same_or_earlier h.start n h.until) [
        | inl same ↦ clear.riskless (at_risk n pair here h same)
        | inr earlier ↦ subst (λ (o : Option PairStep). IfSome o (λ pair. ¬ IsPastClear detect pair.step)) here (h.not_clear n earlier (omega arith)) clear
      ]

  -- ---- the beginning

  begins_here : (n : ℕ) → IsEngaged detect steps n → Free n → IsBeginning detect steps n n
  unfolding Free
  begins_here n h free = record {
    until = omega arith;
    engaged = λ k from to. let same : n ≡ k = omega arith in subst (λ (i : ℕ). IsEngaged detect steps i) same h;
    least = λ other le all. elim (same_or_earlier other n le) [
      | inl same ↦ omega arith
      | inr earlier ↦ (let e : n ≡ suc (n - 1) = omega arith in absurd (free (n - 1) e (all (n - 1) (omega arith) (omega arith))))
    ];
  }

  begins_as_before : (m first : ℕ) → IsBeginning detect steps m first → IsEngaged detect steps (suc m) → IsBeginning detect steps (suc m) first
  begins_as_before m first h engaged = record {
    until = (let before = h.until in omega arith);
    engaged = λ k from to. elim (same_or_earlier k (suc m) to) [
      | inl same ↦ subst (λ (i : ℕ). IsEngaged detect steps i) (sym same) engaged
      | inr earlier ↦ h.engaged k from (omega arith)
    ];
    least = λ other le all. elim (same_or_earlier other (suc m) le) [
      | inl same ↦ (let before = h.until in omega arith)
      | inr earlier ↦ h.least other (omega arith) (λ k from to. all k from (omega arith))
    ];
  }

-- ---- each step has a state

module _ (detect : Detect) (steps : List (Option PairStep)) where
  abbrev pub HasState : ℕ → Type 0
  HasState n = (state : EngagementState) × IsState detect steps n state

  -- if the step before is not engaged
  state_begins : (n : ℕ) (pair : PairStep) → seen_at steps n ≡ Some pair → Free detect steps n → HasState n
  state_begins n pair here free =
      elim (risk_or_not detect pair.step) [
        | inl risk ↦ (
          Engaged (class_at detect pair) 0 pair.a pair.b,
          record {
            beginning = n;
            begins = begins_here detect steps n (begins detect steps n pair here risk) free;
            pair = pair;
            first = here;
            class = refl;
            since = omega arith;
            state_a = refl;
            state_b = refl;
          },
        )
        | inr riskless ↦ (Apart, stays_free detect steps n pair here riskless free)
      ]

  -- if it is
  state_lasts : (m : ℕ) (pair : PairStep) (kind : Class) (age : ℕ) (a b : TickState) → seen_at steps (suc m) ≡ Some pair → IsEngagement detect steps m kind age a b
      → HasState (suc m)
  state_lasts m pair kind age a b here h =
      elim (clear_or_not detect pair.step) [
        | inl clear ↦ (Apart, ends detect steps (suc m) pair here clear)
        | inr not ↦ (let until = h.begins.until in
            let since = h.since in
            let engaged : IsEngaged detect steps (suc m) = lasts detect steps m pair here not (h.begins.engaged m until (omega arith)) in (
              Engaged kind (age + 1) a b,
              record {
                beginning = h.beginning;
                begins = begins_as_before detect steps m h.beginning h.begins engaged;
                pair = h.pair;
                first = h.first;
                class = h.class;
                since = omega arith;
                state_a = h.state_a;
                state_b = h.state_b;
              },
            ))
      ]

  none_before : Free detect steps 0
  unfolding Free
  none_before m e = absurd (omega arith)

  none_at : (m : ℕ) → (¬ IsEngaged detect steps m) → Free detect steps (suc m)
  unfolding Free
  none_at m h k e engaged = let same : k ≡ m = omega arith in h (subst (λ (i : ℕ). IsEngaged detect steps i) same engaged)

  state_first : (o : Option PairStep) → seen_at steps 0 ≡ o → HasState 0
  state_first None here = (Apart, unseen detect steps 0 here)
  state_first (Some pair) here = state_begins 0 pair here none_before

  state_next : (m : ℕ) (o : Option PairStep) → seen_at steps (suc m) ≡ o → (state : EngagementState) → IsState detect steps m state → HasState (suc m)
  state_next m None here state h = (Apart, unseen detect steps (suc m) here)
  state_next m (Some pair) here Apart h = state_begins (suc m) pair here (none_at m h)
  state_next m (Some pair) here (Engaged kind age a b) h = state_lasts m pair kind age a b here h

  pub some_state : (n : ℕ) → HasState n
  some_state zero = state_first (seen_at steps 0) refl
  some_state (suc m) = let (state, is) = some_state m in state_next m (seen_at steps (suc m)) refl state is

-- ---- one step more

last_index : (steps : List (Option PairStep)) (x : Option PairStep) → length (steps ++ x ∷ []) - 1 ≡ length steps
last_index steps x = omega (arith, length-append steps (x ∷ []))

pub to_last : (detect : Detect) (steps : List (Option PairStep)) (x : Option PairStep) (state : EngagementState)
    → IsState detect (steps ++ x ∷ []) (length steps) state → IsStateAfter detect (steps ++ x ∷ []) state
to_last detect steps x state h = subst (λ (i : ℕ). IsState detect (steps ++ x ∷ []) i state) (sym (last_index steps x)) h

seen_within : (steps : List (Option PairStep)) (k : ℕ) (pair : PairStep) → seen_at steps k ≡ Some pair → k < length steps
seen_within [] k pair h = cc
seen_within (x ∷ steps) zero pair h = omega arith
seen_within (x ∷ steps) (suc k) pair h = let lt = seen_within steps k pair h in omega arith

pub apart_at_first : (detect : Detect) → IsStateAfter detect [] Apart
apart_at_first detect = λ h. let yes : false ≡ true = h.seen h.start (omega arith) h.until in cc

pub after_unseen : (detect : Detect) (steps : List (Option PairStep)) → IsState detect (steps ++ None ∷ []) (length steps) Apart
after_unseen detect steps = unseen detect (steps ++ None ∷ []) (length steps) (seen_at-last steps None)

module _ (detect : Detect) (steps : List (Option PairStep)) (pair : PairStep) where
  free_of : IsStateAfter detect steps Apart → Free detect (steps ++ Some pair ∷ []) (length steps)
  unfolding Free
  free_of h m e engaged =
      let i : ℕ = length steps - 1 in
      let same : m ≡ i = omega arith in
      h (engaged_of-agree detect (steps ++ Some pair ∷ []) steps i (agree_back steps (steps ++ Some pair ∷ []) i (agree_front steps (Some pair ∷ []) i (omega arith)))
      (subst (λ (k : ℕ). IsEngaged detect (steps ++ Some pair ∷ []) k) same engaged))

  after_apart : (next : EngagementState) → IsStateAfter detect steps Apart → Follows detect Apart pair next → IsState detect (steps ++ Some pair ∷ []) (length steps) next
  after_apart next h (inl (risk, is)) =
      let all : List (Option PairStep) = steps ++ Some pair ∷ [] in
      let n : ℕ = length steps in
      let here : seen_at all n ≡ Some pair = seen_at-last steps (Some pair) in
      subst (IsState detect all n) (sym is) (record {
        beginning = n;
        begins = begins_here detect all n (begins detect all n pair here risk) (free_of h);
        pair = pair;
        first = here;
        class = refl;
        since = omega arith;
        state_a = refl;
        state_b = refl;
      })
  after_apart next h (inr (not, is)) =
      let all : List (Option PairStep) = steps ++ Some pair ∷ [] in
      subst (IsState detect all (length steps)) (sym is) (stays_free detect all (length steps) pair (seen_at-last steps (Some pair)) not (free_of h))

  pub after_seen : (state next : EngagementState) → length steps < 2 ^ 31 → IsStateAfter detect steps state → Follows detect state pair next → IsState detect (steps ++ Some pair ∷ []) (length steps) next
  after_seen Apart next short h follows = after_apart next h follows
  after_seen (Engaged kind age a b) next short h (inl (clear, is)) =
      let all : List (Option PairStep) = steps ++ Some pair ∷ [] in
      subst (IsState detect all (length steps)) (sym is) (ends detect all (length steps) pair (seen_at-last steps (Some pair)) clear)
  after_seen (Engaged kind age a b) next short h (inr (not, is)) =
      let all : List (Option PairStep) = steps ++ Some pair ∷ [] in
      let n : ℕ = length steps in
      let m : ℕ = length steps - 1 in
      let some : h.beginning < length steps = seen_within steps h.beginning h.pair h.first in
      let e : n ≡ suc m = omega arith in
      let here : seen_at all (suc m) ≡ Some pair = subst (λ (i : ℕ). seen_at all i ≡ Some pair) e (seen_at-last steps (Some pair)) in
      let before : IsEngagement detect all m kind age a b =
      engagement_of-agree detect steps all m (Engaged kind age a b) (agree_front steps (Some pair ∷ []) m (omega arith)) h in
      let engaged : IsEngaged detect all (suc m) = lasts detect all m pair here not (before.begins.engaged m before.begins.until (omega arith)) in
      let until = before.begins.until in
      let since = before.since in
      subst (IsState detect all n) (sym is) (record {
        beginning = before.beginning;
        begins = subst (λ (i : ℕ). IsBeginning detect all i before.beginning) (sym e) (begins_as_before detect all m before.beginning before.begins engaged);
        pair = before.pair;
        first = before.first;
        class = before.class;
        since = omega arith;
        state_a = before.state_a;
        state_b = before.state_b;
      })
