-- The result of preparing a plan of own ship.
use Rattle.std.specs.Prelude.{◌≡◌, ◌≤◌, ◌<◌, List, length, All, true, Ok}
use Rattle.plan_situations.specs.Situations.{IsSituation}
use Rattle.scenario_values.specs.declared.own_part.OwnPart.{OwnPart}
use Rattle.scenario_values.specs.declared.values.Scenario.{Scenario}
use Rattle.tracks.specs.AcceptedReports.{JudgingNumbers}
use Rattle.tracks.specs.Standing.{BookValue, StandsFor}
use Rattle.tracks.specs.VesselsHeld.{Sent, is_held}
use Rattle.plan_situations.specs.PlanSituations.{greatest_targets, own_readiness, situation_of, targets_near, vessels_near}
use Rattle.plan_situations.specs.declared.near.Near.{Near}
use Rattle.plan_situations.specs.declared.preparation.Prepared.{Prepared}
use Rattle.plan_situations.specs.declared.readiness.Ready.{Ready}

-- A book that stands for numbers and messages, whichever they are.
abbrev pub StandsForSome : BookValue → Type 0
StandsForSome book = (numbers : JudgingNumbers) × (messages : List Sent) × StandsFor book numbers messages

-- She is ready, and more than 64 vessels are her targets.
abbrev pub HasManyTargets : JudgingNumbers → List Sent → Scenario → OwnPart → Type 0
HasManyTargets numbers messages scenario own = (ready : Ready) × (own_readiness numbers messages scenario own ≡ Ok ready)
    × (greatest_targets < length (targets_near numbers messages scenario own ready))

-- Own ship is ready and does not have too many targets: this is the situation of her plan.
pub record IsPrepared (numbers : JudgingNumbers) (messages : List Sent) (scenario : Scenario) (own : OwnPart) (prepared : Prepared) : Type 0 where
  pub is_ready : own_readiness numbers messages scenario own ≡ Ok prepared.ready
  pub near : prepared.near.items ≡ vessels_near numbers messages scenario own prepared.ready
  -- each of them is held, for whoever writes of her
  pub held : All (λ (vessel : Near). is_held numbers messages vessel.mmsi ≡ true) prepared.near.items
  pub few : length (targets_near numbers messages scenario own prepared.ready) ≤ greatest_targets
  pub situation : prepared.situation ≡ situation_of numbers messages scenario own prepared.ready
  pub sound : IsSituation prepared.situation
