-- The model of an engagement.
use Rattle.std.specs.Prelude.{◌≡◌, ◌-◌, List, Option, length}
use Rattle.encounters.specs.Engagement.{IsState}
use Rattle.encounters.specs.declared.detect.Detect.{Detect}
use Rattle.encounters.specs.declared.pair_step.PairStep.{PairStep}
use Rattle.encounters.specs.declared.engagement_state.EngagementState.{EngagementState}

-- its state: its numbers, and the state at the latest step
pub record Kept : Type 0 where
  pub detect : Detect
  pub latest : EngagementState

-- The state after the steps so far is that at the last of them; before the first step the vessels are apart.
abbrev pub IsStateAfter : Detect → List (Option PairStep) → EngagementState → Type 0
IsStateAfter detect steps state = IsState detect steps (length steps - 1) state

-- The model of an engagement is its numbers and the list of the steps so far.
pub record StandsFor (kept : Kept) (numbers : Detect) (steps : List (Option PairStep)) : Type 0 where
  pub by : kept.detect ≡ numbers
  pub after : IsStateAfter numbers steps kept.latest
