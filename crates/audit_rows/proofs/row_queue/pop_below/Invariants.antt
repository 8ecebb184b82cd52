use Rattle.std.proofs.Common.{length}
use Rattle.audit_rows.specs.Inner.Queues.{IsPopping}
use Rattle.audit_rows.specs.Standing.{ArePlaced}
use Rattle.audit_rows.proofs.row_queue.pop_below.Given as goal

abbrev pub invariant-loop-place : goal.invariant-loop-place
invariant-loop-place l = ArePlaced l.fn.pending.entries → IsPopping l.bound l.fn.pending.entries l.rows.items l.pending.entries

abbrev pub decreases-loop-place : goal.decreases-loop-place
decreases-loop-place l = length l.pending.entries
