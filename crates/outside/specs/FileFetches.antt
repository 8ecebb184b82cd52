-- The model of a shelf of files.
use Rattle.std.specs.Prelude.{ℕ}

-- the number of failures, and of fetches
pub record FileCounts : Type 0 where
  pub faults : ℕ
  pub fetches : ℕ
