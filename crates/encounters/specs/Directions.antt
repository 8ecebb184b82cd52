-- The range of a vessel's direction.
use Rattle.std.specs.Prelude.{◌<◌, ⊤, IfSome}
use Rattle.motion.specs.declared.leg.TickState.{TickState}
use Rattle.encounters.specs.declared.pair_step.PairStep.{PairStep}
use Rattle.encounters.specs.declared.engagement_state.EngagementState.{EngagementState}
use Rattle.encounters.specs.declared.engagement_state.EngagementState.TheVariants.{Apart, Engaged}

-- If a vessel has a direction, it is below 3600.
abbrev pub HasDirection : TickState → Type 0
HasDirection state = IfSome state.direction (λ d. d < 3600)

-- the same for both vessels of a step
pub record HaveDirections (pair : PairStep) : Type 0 where
  pub a : HasDirection pair.a
  pub b : HasDirection pair.b

-- the same for both at the beginning of an engagement
abbrev pub HaveDirectionsSince : EngagementState → Type 0
HaveDirectionsSince Apart = ⊤
HaveDirectionsSince (Engaged kind age a b) = HasDirection a × HasDirection b
