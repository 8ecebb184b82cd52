-- What follows a state if the next step is seen.
use Rattle.std.specs.Prelude.{◌≡◌, ◌+◌, ◌-◌, ◌^◌, ◌⊎◌, min}
use Rattle.encounters.specs.Engagement.{class_at}
use Rattle.encounters.specs.Risk.{HasRisk, IsPastClear}
use Rattle.encounters.specs.declared.detect.Detect.{Detect}
use Rattle.encounters.specs.declared.pair_step.PairStep.{PairStep}
use Rattle.encounters.specs.declared.engagement_state.EngagementState.{EngagementState}
use Rattle.encounters.specs.declared.engagement_state.EngagementState.TheVariants.{Apart, Engaged}

-- An engagement begins when there is risk, and lasts until the vessels are past and clear.
abbrev pub Follows : Detect → EngagementState → PairStep → EngagementState → Type 0
Follows detect Apart pair next =
    (HasRisk detect pair.step × next ≡ Engaged (class_at detect pair) 0 pair.a pair.b) ⊎ ((¬ HasRisk detect pair.step) × next ≡ Apart)
Follows detect (Engaged kind age a b) pair next =
    (IsPastClear detect pair.step × next ≡ Apart) ⊎ ((¬ IsPastClear detect pair.step) × next ≡ Engaged kind (min (age + 1) (2 ^ 32 - 1)) a b)
