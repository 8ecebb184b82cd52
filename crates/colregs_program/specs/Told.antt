-- What is known of a source or a sink, and what a line on standard error does to it.
use Rattle.std.specs.Prelude.{ℕ, List, Option}
use Rattle.std.specs.Io.KnownBytes.{Appends}
use Rattle.outside.specs.Causes.{Rose}
use Rattle.outside.specs.Streams.{AppendsFront}

-- the bytes of a source or a sink, if they are known, and how often it has failed
pub record Told : Type 0 where
  pub bytes : Option (List ℕ)
  pub faults : ℕ

-- The sink gained this line, or only a front of it where its count of faults rose.
pub record Gains (before after : Told) (line : List ℕ) : Type 0 where
  pub whole : ¬ Rose before.faults after.faults → Appends before.bytes after.bytes line
  pub front : AppendsFront before.bytes after.bytes line
