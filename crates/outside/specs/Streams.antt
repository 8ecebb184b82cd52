-- The effect of one read on a source and of one write on a sink, if their bytes are known.
use Rattle.std.specs.Prelude.{ℕ, ◌≡◌, ◌≤◌, ◌<◌, List, length, take}
use Rattle.std.specs.declared.option.Option.{Option}
use Rattle.std.specs.Io.KnownBytes.{Appends, Consumes, Keeps, IsAtEnd}
use Rattle.outside.specs.declared.source.Taken.{Taken}
use Rattle.outside.specs.declared.source.Taken.TheVariants as taken
use Rattle.outside.specs.declared.sink.Put.{Put}
use Rattle.outside.specs.declared.sink.Put.TheVariants as put
use Rattle.outside.specs.Causes.{one_more}

-- The model of an adapter over a reader or a writer of std: the remaining bytes of the reader or the written bytes of
-- the writer, if they are known, and the number of failures.
pub record Adapter : Type 0 where
  pub bytes : Option (List ℕ)
  pub faults : ℕ

-- The source returned at least one byte, and these are its first remaining bytes; or nothing remained; or it failed and
-- its remaining bytes are unchanged.
abbrev pub Gives : Option (List ℕ) → Option (List ℕ) → List ℕ → Taken → Type 0
Gives old new room (taken.Got n) = (1 ≤ n) × (n ≤ length room) × Consumes old new (take n room)
Gives old new room taken.End = Keeps old new × IsAtEnd new
Gives old new room taken.Failed = Keeps old new

-- A source's count of faults rises by one exactly if it failed.
abbrev pub ReadCause : ℕ → ℕ → Taken → Type 0
ReadCause before now (taken.Got n) = now ≡ before
ReadCause before now taken.End = now ≡ before
ReadCause before now taken.Failed = now ≡ one_more before

-- The sink took at least one byte from the front of the chunk and appended the bytes that it took; or it failed and
-- appended nothing.
abbrev pub Takes : Option (List ℕ) → Option (List ℕ) → List ℕ → Put → Type 0
Takes old new piece (put.Took n) = (1 ≤ n) × (n ≤ length piece) × Appends old new (take n piece)
Takes old new piece put.Failed = Keeps old new

-- A prefix of these bytes was appended: some of them, none, or all.
abbrev pub AppendsFront : Option (List ℕ) → Option (List ℕ) → List ℕ → Type 0
AppendsFront old new bytes = (n : ℕ) × (n ≤ length bytes) × Appends old new (take n bytes)

-- The bytes that the sink took went to the writer below it. After a failure the writer may have a prefix of the chunk,
-- because the flush is the last step, and nothing else.
abbrev pub PassesOn : Option (List ℕ) → Option (List ℕ) → List ℕ → Put → Type 0
PassesOn old new piece (put.Took n) = Appends old new (take n piece)
PassesOn old new piece put.Failed = AppendsFront old new piece

-- A sink's count of faults rises by one exactly if it failed.
abbrev pub WriteCause : ℕ → ℕ → Put → Type 0
WriteCause before now (put.Took n) = now ≡ before
WriteCause before now put.Failed = now ≡ one_more before

-- A proper prefix of the bytes was appended: some of them or none, but not all.
abbrev pub AppendsPart : Option (List ℕ) → Option (List ℕ) → List ℕ → Type 0
AppendsPart old new bytes = (n : ℕ) × (n < length bytes) × Appends old new (take n bytes)
