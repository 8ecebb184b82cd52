-- The models of the kinds in memory, and the effect of one call beyond what the traits say.
use Rattle.std.specs.Prelude.{ℕ, ◌≡◌, ◌≤◌, nat_lt, List, length, None, Some, MatchBool}
use Rattle.std.specs.declared.option.Option.{Option}
use Rattle.outside.specs.declared.source.Taken.{Taken}
use Rattle.outside.specs.declared.source.Taken.TheVariants as taken
use Rattle.outside.specs.declared.sink.Put.{Put}
use Rattle.outside.specs.declared.sink.Put.TheVariants as put
use Rattle.outside.specs.declared.shelf.Fetched.{Fetched}
use Rattle.outside.specs.declared.shelf.Fetched.TheVariants as fetched
use Rattle.outside.specs.Calls.{Calls}
use Rattle.outside.specs.Shelves.{Files}

-- bytes to read, at most `piece` of them at a time
pub record PlainBytes : Type 0 where
  pub left : List ℕ
  pub piece : ℕ

-- bytes to read; some calls fail on purpose
pub record FailingBytes : Type 0 where
  pub left : List ℕ
  pub piece : ℕ
  pub calls : Calls
  pub faults : ℕ

-- written bytes, at most `piece` of them at a time, with capacity for `room` before more memory is allocated
pub record Written : Type 0 where
  pub bytes : List ℕ
  pub room : ℕ
  pub piece : ℕ
  pub calls : Calls
  pub faults : ℕ

-- files, and the number of fetches
pub record PlainFiles : Type 0 where
  pub files : Files
  pub fetches : ℕ

-- files; some calls fail on purpose
pub record FailingFiles : Type 0 where
  pub files : Files
  pub calls : Calls
  pub faults : ℕ

-- A read returns at most `piece` bytes.
abbrev pub GivesAtMost : ℕ → Taken → Type 0
GivesAtMost piece (taken.Got n) = n ≤ piece
GivesAtMost piece taken.End = Unit {0}
GivesAtMost piece taken.Failed = Unit {0}

-- A write takes at most `piece` bytes.
abbrev pub TakesAtMost : ℕ → Put → Type 0
TakesAtMost piece (put.Took n) = n ≤ piece
TakesAtMost piece put.Failed = Unit {0}

-- A fetch returns all these bytes, or memory runs out.
abbrev pub GivesAll : List ℕ → Fetched → Type 0
GivesAll bytes (fetched.Bytes v) = v.items ≡ bytes
GivesAll bytes fetched.TooLong = ⊥
GivesAll bytes fetched.Failed = ⊥
GivesAll bytes fetched.Memory = Unit {0}

-- The result if this is stored under the name. Nothing there is a failure. Content beyond the limit is too long,
-- whether or not memory suffices for it.
abbrev pub Answers : Option (List ℕ) → ℕ → Fetched → Type 0
Answers None limit answer = answer ≡ fetched.Failed
Answers (Some bytes) limit answer =
    MatchBool (nat_lt limit (length bytes)) (answer ≡ fetched.TooLong) (GivesAll bytes answer)
