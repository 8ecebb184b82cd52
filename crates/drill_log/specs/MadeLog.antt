-- The log of a drill as a source.
use Rattle.std.specs.Prelude.{ℕ, List}

-- the bytes left to read, and the number of failed reads
pub record MadeBytes : Type 0 where
  pub left : List ℕ
  pub faults : ℕ
