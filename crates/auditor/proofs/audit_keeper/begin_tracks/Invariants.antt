use Rattle.std.proofs.Common.{◌≤◌, ◌++◌, ℕ, List}
use Rattle.audit_rows.specs.Standing.{QueueStandsFor}
use Rattle.audit_rows.specs.Tracks.{Track}
use Rattle.audit_rows.specs.declared.row.Row.{Row}
use Rattle.auditor.specs.Tallies.{IsUnknown, begun_tracks}
use Rattle.auditor.proofs.audit_keeper.begin_tracks.Given as goal

abbrev pub invariant-loop-rule : goal.invariant-loop-rule
invariant-loop-rule l = (start bound : ℕ) (tracks : List Track) (given : List Row) → QueueStandsFor l.fn.queue tracks bound given → IsUnknown l.pair tracks → bound ≤ start
    → QueueStandsFor l.queue (tracks ++ begun_tracks l.pair start l.rule) bound given
