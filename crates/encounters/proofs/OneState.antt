-- At most one state is that of a step, and while an engagement lasts only its age changes.
use Rattle.std.proofs.Common.{◌≡◌, ℕ, ◌+◌, ◌≤◌, ◌⊎◌, inl, inr, List, refl, sym, ap, ◌∙◌, arith}
use Rattle.std.specs.Prelude.{Option, Some}
use Rattle.std.proofs.lemmas.Option.{same_Some}
use Rattle.encounters.specs.Engagement.{class_at, IsBeginning, IsEngagedFrom, IsState, later_by, seen_at}
use Rattle.encounters.specs.declared.detect.Detect.{Detect}
use Rattle.encounters.specs.declared.pair_step.PairStep.{PairStep}
use Rattle.encounters.specs.declared.engagement_state.EngagementState.{EngagementState}
use Rattle.encounters.specs.declared.engagement_state.EngagementState.TheVariants.{Apart, Engaged}

module _ (detect : Detect) (steps : List (Option PairStep)) where
  both_ways : (x y : ℕ) → x ≤ y → y ≤ x → x ≡ y
  both_ways x y h k = omega arith

  -- An engagement that lasts from i to j has one beginning.
  one_beginning : (i j first other : ℕ) → i ≤ j → IsEngagedFrom detect steps i j → IsBeginning detect steps i first → IsBeginning detect steps j other → first ≡ other
  one_beginning i j first other le all h k =
      let early : other ≤ i = k.least i le all in
      both_ways first other
      (h.least other early (λ n from to. k.engaged n from (omega arith)))
      (k.least first (let until = h.until in omega arith) (λ n from to. elim (earlier_or_later n i) [
        | inl earlier ↦ h.engaged n from earlier
        | inr later ↦ all n later to
      ]))
    where
      earlier_or_later : (n i : ℕ) → (n ≤ i) ⊎ (i ≤ n)
      earlier_or_later n i = grind arith

  same_pair : (first other : ℕ) (p q : PairStep) → first ≡ other → seen_at steps first ≡ Some p → seen_at steps other ≡ Some q → p ≡ q
  same_pair first other p q e h k = same_Some p q (sym h ∙ (ap (seen_at steps) e ∙ k))

  pub while_it_lasts : (i n : ℕ) (state later : EngagementState) → IsEngagedFrom detect steps i (i + n)
      → IsState detect steps i state → IsState detect steps (i + n) later → later ≡ later_by n state
  while_it_lasts i n Apart later all h k = absurd (h (all i (omega arith) (omega arith)))
  while_it_lasts i n (Engaged kind age a b) Apart all h k = absurd (k (all (i + n) (omega arith) (omega arith)))
  while_it_lasts i n (Engaged kind age a b) (Engaged kind' age' a' b') all h k =
      let e : h.beginning ≡ k.beginning = one_beginning i (i + n) h.beginning k.beginning (omega arith) all h.begins k.begins in
      let p : h.pair ≡ k.pair = same_pair h.beginning k.beginning h.pair k.pair e h.first k.first in
      let of_kind : kind' ≡ kind = k.class ∙ (sym (ap (class_at detect) p) ∙ sym h.class) in
      let of_a : a' ≡ a = k.state_a ∙ (sym (ap (λ (x : PairStep). x.a) p) ∙ sym h.state_a) in
      let of_b : b' ≡ b = k.state_b ∙ (sym (ap (λ (x : PairStep). x.b) p) ∙ sym h.state_b) in
      let until = h.begins.until in
      let since = h.since in
      let later_since = k.since in
      let of_age : age' ≡ age + n = omega arith in
      cc

  pub one_state : (i : ℕ) (state other : EngagementState) → IsState detect steps i state → IsState detect steps i other → state ≡ other
  one_state i Apart Apart h k = refl
  one_state i Apart (Engaged kind age a b) h k = absurd (h (k.begins.engaged i k.begins.until (omega arith)))
  one_state i (Engaged kind age a b) Apart h k = absurd (k (h.begins.engaged i h.begins.until (omega arith)))
  one_state i (Engaged kind age a b) (Engaged kind' age' a' b') h k =
      let e : h.beginning ≡ k.beginning = both_ways h.beginning k.beginning
      (h.begins.least k.beginning k.begins.until k.begins.engaged) (k.begins.least h.beginning h.begins.until h.begins.engaged) in
      let p : h.pair ≡ k.pair = same_pair h.beginning k.beginning h.pair k.pair e h.first k.first in
      let of_kind : kind ≡ kind' = h.class ∙ (ap (class_at detect) p ∙ sym k.class) in
      let of_a : a ≡ a' = h.state_a ∙ (ap (λ (x : PairStep). x.a) p ∙ sym k.state_a) in
      let of_b : b ≡ b' = h.state_b ∙ (ap (λ (x : PairStep). x.b) p ∙ sym k.state_b) in
      let since = h.since in
      let other_since = k.since in
      let of_age : age ≡ age' = omega arith in
      cc
