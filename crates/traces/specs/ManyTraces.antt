-- The limit of traces.
use Rattle.std.specs.Prelude.{ℕ, ◌≢◌, ◌<◌, List, length, All, AllPairs}
use Rattle.meetings.specs.declared.pair.Pair.{Pair}
use Rattle.traces.specs.Audited.{Begins, AuditNumbers, Sighting}

-- More traces begin at these ticks than this number.
pub record HaveMoreThan (most : ℕ) (numbers : AuditNumbers) (ticks : List Sighting) : Type 0 where
  pub pairs : List Pair
  pub many : most < length pairs
  pub once : AllPairs ◌≢◌ pairs
  pub begin : All (λ pair. (start : ℕ) × Begins numbers ticks pair start) pairs
