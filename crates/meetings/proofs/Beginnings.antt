-- Where engagements began, as steps come.
use Rattle.std.proofs.Common.{◌≡◌, ℕ, zero, suc, ◌+◌, ◌-◌, ◌≤◌, ◌<◌, List, [], ◌∷◌, ◌++◌, length, refl, sym, ap, subst, ◌∙◌, arith}
use Rattle.std.specs.Prelude.{Option, Some, IsSome}
use Rattle.motion.specs.declared.leg.TickState.{TickState}
use Rattle.sectors.specs.declared.class.Class.{Class}
use Rattle.encounters.specs.Engagement.{IsState, later_by}
use Rattle.encounters.specs.Standing.{IsStateAfter}
use Rattle.encounters.specs.declared.detect.Detect.{Detect}
use Rattle.encounters.specs.declared.pair_step.PairStep.{PairStep}
use Rattle.encounters.specs.declared.engagement_state.EngagementState.{EngagementState}
use Rattle.encounters.specs.declared.engagement_state.EngagementState.TheVariants.{Apart, Engaged}
use Rattle.encounters.proofs.ForCallers.{state_over_more}
use Rattle.encounters.proofs.Lasting.{apart_at_first}
use Rattle.encounters.proofs.OneState.{one_state, while_it_lasts}
use Rattle.meetings.specs.Inner.Beginning.{since_beginning}
use Rattle.meetings.specs.Ranks.{beginning_at}
use Rattle.meetings.specs.SinceBeginning.{age_of}
use Rattle.meetings.specs.declared.by_rank.ByRank.{ByRank}

-- No engagement began later than the step.
pub begun_by : (i : ℕ) (state : EngagementState) → beginning_at i state ≤ i
begun_by i Apart = omega arith
begun_by i (Engaged kind age a b) = omega arith

-- ---- if they are engaged there are steps

-- Nobody is engaged before the first step.
not_at_first : (state : EngagementState) → state ≡ Apart → IsSome (age_of state) → ⊥
not_at_first Apart same some = cc
not_at_first (Engaged kind age a b) same some = cc

pub some_steps : (detect : Detect) (steps : List (Option PairStep)) (state : EngagementState) → IsStateAfter detect steps state → IsSome (age_of state) → 0 < length steps
some_steps detect [] state is some = absurd (not_at_first state (one_state detect [] 0 state Apart is (apart_at_first detect)) some)
some_steps detect (x ∷ xs) state is some = omega arith

-- ---- one step more

module _ (detect : Detect) (steps : List (Option PairStep)) (seen : Option PairStep) where
  -- An engagement that has lasted was the one at the step before.
  before_it : (kind : Class) (age : ℕ) (a b : TickState) (state : EngagementState) → IsStateAfter detect steps state
      → IsState detect (steps ++ seen ∷ []) (length steps) (Engaged kind (suc age) a b) → Engaged kind (suc age) a b ≡ later_by 1 state
  before_it kind age a b state was is =
      let since = is.since in
      let last = length steps - 1 in
      let some : 0 < length steps = omega arith in
      let next : last + 1 ≡ length steps = omega arith in
      while_it_lasts detect (steps ++ seen ∷ []) last 1 state (Engaged kind (suc age) a b)
      (λ k from until. is.begins.engaged k (omega arith) (omega arith))
      (state_over_more detect steps (seen ∷ []) last state (omega arith) was)
      (subst (λ (k : ℕ). IsState detect (steps ++ seen ∷ []) k (Engaged kind (suc age) a b)) (sym next) is)

  same_begun : (kind : Class) (age : ℕ) (a b : TickState) (state : EngagementState) → Engaged kind (suc age) a b ≡ later_by 1 state
      → IsSome (age_of state) × (beginning_at (length steps - 1) state ≡ length steps - suc age)
  same_begun kind age a b Apart same = cc
  same_begun kind age a b (Engaged kind' age' a' b') same =
      let ages : Some (suc age) ≡ Some (age' + 1) = ap age_of same in
      let now : suc age ≡ age' + 1 = cc in
      (refl, omega arith)

  -- If they are engaged, what is kept is what the ranks said when the engagement began.
  pub kept_since : (ranks : ℕ → ByRank) (state later : EngagementState) (before : ByRank) → IsStateAfter detect steps state
      → IsState detect (steps ++ seen ∷ []) (length steps) later
      → (IsSome (age_of state) → before ≡ ranks (beginning_at (length steps - 1) state)) → IsSome (age_of later)
      → since_beginning later before (ranks (length steps)) ≡ ranks (beginning_at (length steps) later)
  kept_since ranks state Apart before was is begun engaged = cc
  kept_since ranks state (Engaged kind zero a b) before was is begun engaged =
      let same : length steps ≡ length steps - 0 = omega arith in
      ap ranks same
  kept_since ranks state (Engaged kind (suc age) a b) before was is begun engaged =
      let (some, same) = same_begun kind age a b state (before_it kind age a b state was is) in
      begun some ∙ ap ranks same
