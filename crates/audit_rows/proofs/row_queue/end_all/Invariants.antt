use Rattle.std.proofs.Common.{ℕ, List}
use Rattle.std.specs.List.{AllZip}
use Rattle.audit_rows.specs.declared.row.Row.{Row}
use Rattle.audit_rows.specs.Tracks.{EndAt, Track}
use Rattle.audit_rows.specs.Inner.Lanes.{Stands}
use Rattle.audit_rows.specs.Standing.{Holds}
use Rattle.audit_rows.proofs.Ending.{ended}
use Rattle.audit_rows.proofs.row_queue.end_all.Given as goal

abbrev pub invariant-loop-lane : goal.invariant-loop-lane
invariant-loop-lane l =
    (tracks : List Track) (bound : ℕ) (given : List Row) → AllZip Stands l.lanes tracks → EndAt l.end tracks → Holds l.fn.pending.entries tracks bound given → Holds l.pending.entries (ended l.lane-index tracks) bound given
