-- The numbers that define meetings.
use Rattle.std.specs.Prelude.{ℕ}
use Rattle.encounters.specs.declared.act.Act.{Act}
use Rattle.encounters.specs.declared.detect.Detect.{Detect}

-- the limits for engagement and for alterations, and the seconds of a tick
pub record Terms : Type 0 where
  pub detect : Detect
  pub act : Act
  pub tick : ℕ
