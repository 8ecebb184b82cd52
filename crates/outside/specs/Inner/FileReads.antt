-- The effect of reading one file.
use Rattle.std.specs.Prelude.{ℕ, ◌≡◌, ◌≤◌, List, length, Option}
use Rattle.std.specs.Io.KnownBytes.{Consumes, IsAtEnd}
use Rattle.outside.specs.Causes.{one_more}
use Rattle.outside.specs.WholeReading.{Exceeds}
use Rattle.outside.specs.declared.shelf.Fetched.{Fetched}
use Rattle.outside.specs.declared.shelf.Fetched.TheVariants as fetched

-- The bytes of the result, if any, are within the limit.
abbrev pub IsWithin : ℕ → Fetched → Type 0
IsWithin limit (fetched.Bytes v) = length v.items ≤ limit
IsWithin limit fetched.TooLong = Unit {0}
IsWithin limit fetched.Failed = Unit {0}
IsWithin limit fetched.Memory = Unit {0}

-- A source read to its end as the result of a fetch: all its bytes within the limit; too long only if it is; and a
-- failure only if a read failed.
abbrev pub FetchesAll : Option (List ℕ) → Option (List ℕ) → ℕ → ℕ → ℕ → Fetched → Type 0
FetchesAll old new before now limit (fetched.Bytes v) =
    (length v.items ≤ limit) × Consumes old new v.items × IsAtEnd new × (now ≡ before)
FetchesAll old new before now limit fetched.TooLong = Exceeds limit old 0 × (now ≡ before)
FetchesAll old new before now limit fetched.Failed = now ≡ one_more before
FetchesAll old new before now limit fetched.Memory = now ≡ before
