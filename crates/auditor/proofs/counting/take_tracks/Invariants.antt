use Rattle.std.proofs.Common.{◌≡◌, [], ℕ, List, length, take}
use Rattle.audit_rows.specs.Standing.{QueueStandsFor}
use Rattle.audit_rows.specs.Tracks.{EndAt, Track}
use Rattle.audit_rows.specs.declared.row.Row.{Row}
use Rattle.auditor.specs.Tallies.{AreTallies}
use Rattle.auditor.proofs.counting.take_tracks.Given as goal

abbrev pub invariant-loop-index : goal.invariant-loop-index
invariant-loop-index l = record {
  as_many : length l.totals ≡ length l.fn.totals;
  tallies : (rules bound : ℕ) (tracks : List Track) (given : List Row) → QueueStandsFor l.queue tracks bound given → EndAt l.end tracks
      → AreTallies l.fn.totals rules [] → AreTallies l.totals rules (take l.index tracks);
}
