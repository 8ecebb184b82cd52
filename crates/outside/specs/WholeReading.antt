-- The effect on a source of reading it whole, if the reading does not reach its end.
use Rattle.std.specs.Prelude.{ℕ, ◌≡◌, ◌≤◌, ◌<◌, ◌+◌, List, length, IfSome, Option}
use Rattle.std.specs.Io.KnownBytes.{Consumes}
use Rattle.outside.specs.Causes.{one_more}
use Rattle.outside.specs.declared.whole.ReadFault.{ReadFault}
use Rattle.outside.specs.declared.whole.ReadFault.TheVariants as fault

-- The remaining bytes of a source, after this many bytes, exceed the limit.
abbrev pub Exceeds : ℕ → Option (List ℕ) → ℕ → Type 0
Exceeds limit left behind = IfSome left (λ bytes. limit < behind + length bytes)

-- The bytes taken from a source that was not read whole, after this many bytes: at most the limit if a read failed, and
-- one byte more than the limit if it was too long.
abbrev pub TakenAt : ℕ → ℕ → ReadFault → List ℕ → Type 0
TakenAt limit behind fault.Failed piece = behind + length piece ≤ limit
TakenAt limit behind fault.TooLong piece = behind + length piece ≡ limit + 1
TakenAt limit behind fault.Memory piece = behind + length piece ≤ limit

-- The source lost exactly these bytes, and its count of faults rose by one if a read failed; otherwise it is unchanged.
pub record StopsAt (limit behind : ℕ) (left left' : Option (List ℕ)) (why : ReadFault) : Type 0 where
  pub piece : List ℕ
  pub long : TakenAt limit behind why piece
  pub taken : Consumes left left' piece

abbrev pub ReadCount : ℕ → ℕ → ReadFault → Type 0
ReadCount before now fault.Failed = now ≡ one_more before
ReadCount before now fault.TooLong = now ≡ before
ReadCount before now fault.Memory = now ≡ before
