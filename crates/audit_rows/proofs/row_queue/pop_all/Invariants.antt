use Rattle.std.proofs.Common.{◌≡◌, ◌++◌, length}
use Rattle.std.specs.Map.{values_of}
use Rattle.audit_rows.proofs.row_queue.pop_all.Given as goal

abbrev pub invariant-loop-row : goal.invariant-loop-row
invariant-loop-row l = l.rows.items ++ values_of l.pending.entries ≡ l.fn.rows.items ++ values_of l.fn.pending.entries

abbrev pub decreases-loop-row : goal.decreases-loop-row
decreases-loop-row l = length l.pending.entries
