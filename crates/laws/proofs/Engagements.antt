-- Two lists of steps that agree from a step of each on, before which neither has an engagement under way, have the same engagements there.
use Rattle.std.proofs.Common.{◌≡◌, ℕ, ◌+◌, ◌-◌, ◌<◌, ◌≤◌, ◌⊎◌, inl, inr, List, IfSome, IsSome, sym, ap, subst, ◌∙◌, arith}
use Rattle.std.specs.Prelude.{Option, Some, IsSomeAnd}
use Rattle.motion.specs.declared.leg.TickState.{TickState}
use Rattle.sectors.specs.declared.class.Class.{Class}
use Rattle.encounters.specs.Engagement.{IsBeginning, IsEngaged, IsEngagedFrom, IsState, seen_at}
use Rattle.encounters.specs.Risk.{HasRisk, IsPastClear}
use Rattle.encounters.specs.declared.detect.Detect.{Detect}
use Rattle.encounters.specs.declared.pair_step.PairStep.{PairStep}
use Rattle.encounters.specs.declared.engagement_state.EngagementState.{EngagementState}
use Rattle.encounters.specs.declared.engagement_state.EngagementState.TheVariants.{Apart, Engaged}

early : (m n : ℕ) → (m < n) ⊎ (n ≤ m)
early m n = grind arith

-- The steps of the one from p on are those of the other from q on, up to m further ones.
pub record AgreeFrom (xs ys : List (Option PairStep)) (p q m : ℕ) : Type 0 where
  pub each : (j : ℕ) → j ≤ m → seen_at xs (p + j) ≡ seen_at ys (q + j)

pub agree_back : (xs ys : List (Option PairStep)) (p q m : ℕ) → AgreeFrom xs ys p q m → AgreeFrom ys xs q p m
agree_back xs ys p q m same = record { each = λ j le. sym (same.each j le) }

pub agree_for : (xs ys : List (Option PairStep)) (p q m n : ℕ) → n ≤ m → AgreeFrom xs ys p q m → AgreeFrom xs ys p q n
agree_for xs ys p q m n le same = record { each = λ j below. same.each j (omega arith) }

module _ (detect : Detect) where
  -- No engagement is under way at the step before.
  pub record IsNew (steps : List (Option PairStep)) (p : ℕ) : Type 0 where
    pub quiet : 0 < p → ¬ IsEngaged detect steps (p - 1)

  -- what holds of a step of the one holds of the other's
  moved : (P : Option PairStep → Type 0) (xs ys : List (Option PairStep)) (p q m k : ℕ) → AgreeFrom xs ys p q m → q ≤ k → k ≤ q + m
      → P (seen_at xs (p + (k - q))) → P (seen_at ys k)
  moved P xs ys p q m k same from until h =
      let j : ℕ = k - q in
      let le : j ≤ m = omega arith in
      let there : q + j ≡ k = omega arith in
      subst P (same.each j le ∙ ap (seen_at ys) there) h

  -- an engagement that began at p or later
  pub engaged_part : (xs ys : List (Option PairStep)) (p q m : ℕ) → AgreeFrom xs ys p q m → (h : IsEngaged detect xs (p + m)) → p ≤ h.start → IsEngaged detect ys (q + m)
  engaged_part xs ys p q m same h le =
      let until = h.until in
      let back : p + ((q + (h.start - p)) - q) ≡ h.start = omega arith in
      record {
        start = q + (h.start - p);
        until = omega arith;
        risk = moved (λ o. IsSomeAnd o (λ pair. HasRisk detect pair.step)) xs ys p q m (q + (h.start - p)) same (omega arith) (omega arith)
            (subst (λ (k : ℕ). IsSomeAnd (seen_at xs k) (λ pair. HasRisk detect pair.step)) (sym back) h.risk);
        seen = λ k from to. moved (λ o. IsSome o) xs ys p q m k same (omega arith) (omega arith) (h.seen (p + (k - q)) (omega arith) (omega arith));
        not_clear = λ k from to. moved (λ o. IfSome o (λ pair. ¬ IsPastClear detect pair.step)) xs ys p q m k same (omega arith) (omega arith)
            (h.not_clear (p + (k - q)) (omega arith) (omega arith));
      }

  -- one that is under way at a step was at each earlier one back to its beginning
  pub engaged_before : (xs : List (Option PairStep)) (i k : ℕ) (h : IsEngaged detect xs i) → h.start ≤ k → k ≤ i → IsEngaged detect xs k
  engaged_before xs i k h le to = record {
    start = h.start;
    until = le;
    risk = h.risk;
    seen = λ n from until. h.seen n from (omega arith);
    not_clear = λ n from until. h.not_clear n from (omega arith);
  }

  pub began_since : (xs : List (Option PairStep)) (p i : ℕ) → IsNew xs p → p ≤ i → (h : IsEngaged detect xs i) → p ≤ h.start
  began_since xs p i new le h =
      elim (early h.start p) [
        | inl before ↦ absurd (new.quiet (omega arith) (engaged_before xs i (p - 1) h (omega arith) (omega arith)))
        | inr since ↦ since
      ]

  pub engaged_moved : (xs ys : List (Option PairStep)) (p q m : ℕ) → AgreeFrom xs ys p q m → IsNew xs p → IsEngaged detect xs (p + m) → IsEngaged detect ys (q + m)
  engaged_moved xs ys p q m same new h = engaged_part xs ys p q m same h (began_since xs p (p + m) new (omega arith) h)

  -- the same at a step between
  engaged_within : (xs ys : List (Option PairStep)) (p q m k : ℕ) → AgreeFrom xs ys p q m → IsNew xs p → q ≤ k → k ≤ q + m → IsEngaged detect xs (p + (k - q)) → IsEngaged detect ys k
  engaged_within xs ys p q m k same new from to h =
      let there : q + (k - q) ≡ k = omega arith in
      subst (IsEngaged detect ys) there (engaged_moved xs ys p q (k - q) (agree_for xs ys p q m (k - q) (omega arith) same) new h)

  from_since : (xs : List (Option PairStep)) (p i first : ℕ) → IsNew xs p → p ≤ i → first ≤ i → IsEngagedFrom detect xs first i → p ≤ first
  from_since xs p i first new le until all =
      elim (early first p) [
        | inl before ↦ absurd (new.quiet (omega arith) (all (p - 1) (omega arith) (omega arith)))
        | inr since ↦ since
      ]

  beginning_moved : (xs ys : List (Option PairStep)) (p q m first : ℕ) → AgreeFrom xs ys p q m → IsNew xs p → IsNew ys q
      → IsBeginning detect xs (p + m) first → IsBeginning detect ys (q + m) (q + (first - p))
  beginning_moved xs ys p q m first same new fresh h =
      let until = h.until in
      let since : p ≤ first = from_since xs p (p + m) first new (omega arith) until h.engaged in
      record {
        until = omega arith;
        engaged = λ k from to. engaged_within xs ys p q m k same new (omega arith) (omega arith) (h.engaged (p + (k - q)) (omega arith) (omega arith));
        least = λ other le all.
            let late : q ≤ other = from_since ys q (q + m) other fresh (omega arith) le all in
            let least : first ≤ p + (other - q) = h.least (p + (other - q)) (omega arith)
            (λ k from to. engaged_within ys xs q p m k (agree_back xs ys p q m same) fresh (omega arith) (omega arith) (all (q + (k - p)) (omega arith) (omega arith))) in
            omega arith;
      }

  pub state_moved : (xs ys : List (Option PairStep)) (p q m : ℕ) (state : EngagementState) → AgreeFrom xs ys p q m → IsNew xs p → IsNew ys q
      → IsState detect xs (p + m) state → IsState detect ys (q + m) state
  state_moved xs ys p q m Apart same new fresh h = λ engaged. h (engaged_moved ys xs q p m (agree_back xs ys p q m same) fresh engaged)
  state_moved xs ys p q m (Engaged kind age a b) same new fresh h =
      let since = h.since in
      let until = h.begins.until in
      let late : p ≤ h.beginning = from_since xs p (p + m) h.beginning new (omega arith) until h.begins.engaged in
      let back : p + ((q + (h.beginning - p)) - q) ≡ h.beginning = omega arith in
      record {
        beginning = q + (h.beginning - p);
        begins = beginning_moved xs ys p q m h.beginning same new fresh h.begins;
        pair = h.pair;
        first = moved (λ o. o ≡ Some h.pair) xs ys p q m (q + (h.beginning - p)) same (omega arith) (omega arith)
            (subst (λ (k : ℕ). seen_at xs k ≡ Some h.pair) (sym back) h.first);
        class = h.class;
        since = omega arith;
        state_a = h.state_a;
        state_b = h.state_b;
      }

  -- An engagement there has lasted no longer than since then.
  pub begun_since : (xs : List (Option PairStep)) (p m : ℕ) (kind : Class) (age : ℕ) (a b : TickState) → IsNew xs p → IsState detect xs (p + m) (Engaged kind age a b) → age ≤ m
  begun_since xs p m kind age a b new h =
      let since = h.since in
      let until = h.begins.until in
      let late : p ≤ h.beginning = from_since xs p (p + m) h.beginning new (omega arith) until h.begins.engaged in
      omega arith
