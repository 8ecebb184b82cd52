-- The effect of one read of a source that is read to its end.
use Rattle.std.specs.Prelude.{ℕ, ◌≡◌, ◌<◌, List, ◌++◌, length, Option}
use Rattle.std.specs.Io.KnownBytes.{Consumes}

-- Some bytes of the source, at least one, were added.
pub record Adds (left left' : Option (List ℕ)) (bytes bytes' : List ℕ) : Type 0 where
  pub piece : List ℕ
  pub some : 0 < length piece
  pub taken : Consumes left left' piece
  pub added : bytes' ≡ bytes ++ piece
