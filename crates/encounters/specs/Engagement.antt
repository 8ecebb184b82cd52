-- Engagements of an ordered pair of vessels, by the list of its steps: at each step both vessels are seen, or not.
use Rattle.std.specs.Prelude.{ℕ, ◌≡◌, ◌+◌, ◌-◌, ◌≤◌, ◌<◌, List, Option, Some, None, slice_get, unwrap_or, IsSome, IsSomeAnd, IfSome}
use Rattle.motion.specs.declared.leg.TickState.{TickState}
use Rattle.sectors.specs.Class.{class_of}
use Rattle.sectors.specs.declared.class.Class.{Class}
use Rattle.encounters.specs.Risk.{HasRisk, IsPastClear}
use Rattle.encounters.specs.declared.detect.Detect.{Detect}
use Rattle.encounters.specs.declared.pair_step.PairStep.{PairStep}
use Rattle.encounters.specs.declared.engagement_state.EngagementState.{EngagementState}
use Rattle.encounters.specs.declared.engagement_state.EngagementState.TheVariants.{Apart, Engaged}

-- the step at an index, if there is one and it is seen
abbrev pub seen_at : List (Option PairStep) → ℕ → Option PairStep
seen_at steps k = unwrap_or (slice_get steps k) None

-- Some step up to i has risk, all from it to i are seen, and none after it up to i is past and clear.
pub record IsEngaged (detect : Detect) (steps : List (Option PairStep)) (i : ℕ) : Type 0 where
  pub start : ℕ
  pub until : start ≤ i
  pub risk : IsSomeAnd (seen_at steps start) (λ pair. HasRisk detect pair.step)
  pub seen : (k : ℕ) → start ≤ k → k ≤ i → IsSome (seen_at steps k)
  pub not_clear : (k : ℕ) → start < k → k ≤ i → IfSome (seen_at steps k) (λ pair. ¬ IsPastClear detect pair.step)

-- They are engaged at each step from the one to the other.
abbrev pub IsEngagedFrom : Detect → List (Option PairStep) → ℕ → ℕ → Type 0
IsEngagedFrom detect steps first i = (k : ℕ) → first ≤ k → k ≤ i → IsEngaged detect steps k

-- The beginning of the engagement at i is the least step from which they are engaged up to i.
pub record IsBeginning (detect : Detect) (steps : List (Option PairStep)) (i first : ℕ) : Type 0 where
  pub until : first ≤ i
  pub engaged : IsEngagedFrom detect steps first i
  pub least : (other : ℕ) → other ≤ i → IsEngagedFrom detect steps other i → first ≤ other

-- the class at a step that is seen
abbrev pub class_at : Detect → PairStep → Class
class_at detect pair = class_of pair.step pair.a.direction pair.b.direction detect.angles

-- The engagement at i: its kind is the class at its beginning, its age the steps since then, and a and b are the states there.
pub record IsEngagement (detect : Detect) (steps : List (Option PairStep)) (i : ℕ) (kind : Class) (age : ℕ) (a b : TickState) : Type 0 where
  pub beginning : ℕ
  pub begins : IsBeginning detect steps i beginning
  pub pair : PairStep
  pub first : seen_at steps beginning ≡ Some pair
  pub class : kind ≡ class_at detect pair
  pub since : age ≡ i - beginning
  pub state_a : a ≡ pair.a
  pub state_b : b ≡ pair.b

-- the state at step i
abbrev pub IsState : Detect → List (Option PairStep) → ℕ → EngagementState → Type 0
IsState detect steps i Apart = ¬ IsEngaged detect steps i
IsState detect steps i (Engaged kind age a b) = IsEngagement detect steps i kind age a b

-- the state of the same engagement n steps later, with the same kind and states at its beginning
abbrev pub later_by : ℕ → EngagementState → EngagementState
later_by n Apart = Apart
later_by n (Engaged kind age a b) = Engaged kind (age + n) a b
