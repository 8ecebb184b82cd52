-- Traces that have begun stay when further ticks come.
use Rattle.std.proofs.Common.{ℕ, List, [], ◌∷◌, ◌++◌, append-nil, append_assoc, sym, subst}
use Rattle.std.proofs.lemmas.List.Elements.{All-weaker}
use Rattle.traces.specs.Audited.{Begins, AuditNumbers, Sighting}
use Rattle.traces.specs.ManyTraces.{HaveMoreThan}
use Rattle.traces.proofs.Ticks.{begins_still}
use Rattle.meetings.specs.declared.pair.Pair.{Pair}

more_stay_once : (most : ℕ) (numbers : AuditNumbers) (ticks : List Sighting) (seen : Sighting) → HaveMoreThan most numbers ticks
    → HaveMoreThan most numbers (ticks ++ seen ∷ [])
more_stay_once most numbers ticks seen h = record {
  pairs = h.pairs;
  many = h.many;
  once = h.once;
  begin = All-weaker (λ (pair : Pair). (start : ℕ) × Begins numbers ticks pair start) (λ (pair : Pair). (start : ℕ) × Begins numbers (ticks ++ seen ∷ []) pair start)
      (λ pair b. (b.0, begins_still ticks seen numbers pair b.0 b.1)) h.pairs h.begin;
}

-- More traces than this number stay more.
pub more_stay : (most : ℕ) (numbers : AuditNumbers) (ticks more : List Sighting) → HaveMoreThan most numbers ticks → HaveMoreThan most numbers (ticks ++ more)
more_stay most numbers ticks [] h = subst (HaveMoreThan most numbers) (sym (append-nil ticks)) h
more_stay most numbers ticks (seen ∷ more) h =
    subst (HaveMoreThan most numbers) (append_assoc ticks (seen ∷ []) more) (more_stay most numbers (ticks ++ seen ∷ []) more (more_stay_once most numbers ticks seen h))
