-- The totals after one more track. Each number of a total saturates at the maximum of its type.
use Rattle.std.specs.Prelude.{ℕ, ◌≡◌, ◌+◌, Bool, List, [], ◌∷◌, ◌++◌, length}
use Rattle.audit_rows.specs.declared.counts.MarkCounts.{MarkCounts}
use Rattle.audit_rows.specs.MarkCounts.{AreCounts}
use Rattle.audit_rows.specs.Tracks.{Track}
use Rattle.auditor.specs.RuleCounts.{told}
use Rattle.auditor.specs.Tallies.{AreTallies, is_of_rule}
use Rattle.auditor.specs.declared.total.Total.{Total}

abbrev pub with_counts : MarkCounts → Total → Total
with_counts counts total = record {
  positions = told (total.positions + counts.all);
  yes = told (total.yes + counts.nothing);
  no = told (total.no + counts.broken);
  undecided = told (total.undecided + counts.undecided);
  runs = told (total.runs + counts.runs);
}

-- The totals include one more track, with these counts, of the rule that passes the test.
pub record AddsTrack (is_its : ℕ → Bool) (counts : MarkCounts) (old new : List Total) : Type 0 where
  pub as_many : length new ≡ length old
  pub tallies : (rules : ℕ) (tracks : List Track) (track : Track) → ((rule : ℕ) → is_of_rule rule track.topic ≡ is_its rule)
      → AreCounts counts track.marks → AreTallies old rules tracks → AreTallies new rules (tracks ++ track ∷ [])
