-- A place on the earth.
use Rattle.std.specs.Prelude.{ℤ}

-- in ten thousandths of a minute, positive to the north and to the east
pub record Place : Type 0 where
  pub latitude : ℤ
  pub longitude : ℤ
