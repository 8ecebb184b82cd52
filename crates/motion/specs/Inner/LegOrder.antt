-- The order of one vessel's legs.
use Rattle.std.specs.Prelude.{◌≤◌, List}
use Rattle.std.specs.List.{All, AllPairs}
use Rattle.motion.specs.TickStates.{IsLeg}
use Rattle.motion.specs.declared.leg.Leg.{Leg}

-- legs of one vessel: none begins before an earlier one is over
pub record AreLegs (legs : List Leg) : Type 0 where
  pub each : All IsLeg legs
  pub ordered : AllPairs (λ earlier later. earlier.t2 ≤ later.t1) legs
