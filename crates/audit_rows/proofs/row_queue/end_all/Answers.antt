use Rattle.std.proofs.Common.{◌+◌, List, subst, sym, arith}
use Rattle.audit_rows.specs.declared.sort_key.SortKey.{SortKey}
use Rattle.audit_rows.specs.declared.row.Row.{Row}
use Rattle.audit_rows.specs.Standing.{Holds}
use Rattle.audit_rows.proofs.Pending.{entries_after, keys_in_order}
use Rattle.audit_rows.proofs.Ending.{ended, end_quiet, end_closing, rows_of_ended, as_many}
use Rattle.audit_rows.proofs.row_queue.end_all.Goals as goal
use Rattle.audit_rows.proofs.row_queue.end_all.Goals.{in-Some+in_ok-insert, in_default}

pub loop-lane-preserved : goal.loop-lane-preserved
loop-lane-preserved c = λ tracks bound given z ends h.
    let i = c.loop-lane.lane-index in
    let old = c.loop-lane.pending.entries in
    let so_far = c.loop-lane.invariant tracks bound given z ends h in
    elim c.match-end.branch [
      | in-Some+in_ok-insert w ↦ (let entries = entries_after old _ _ w.in-Some.row w.in_ok-insert.ensures.entries w.place.ensures in
          rw w.pending-is (subst (λ (es : List (SortKey × Row)). Holds es (ended (i + 1) tracks) bound given) (sym entries)
          (end_closing c.args.lanes.now tracks i bound given _ c.end.result old z c.loop-lane-test.true c.args.end ends c.end.ensures so_far w.in-Some.row w.in-Some.is
          (keys_in_order old _ w.in-Some.row w.in_ok-insert.ensures.ordered entries))))
      | in_default w ↦ rw w.pending-is (end_quiet c.args.lanes.now tracks i bound given _ c.end.result old z c.loop-lane-test.true c.args.end ends c.end.ensures so_far w.in_default.is)
    ]

pub returns : goal.returns
returns c = λ tracks bound given z ends h.
    let n = as_many c.args.lanes.now tracks z in
    rows_of_ended c.loop-lane.pending.entries tracks c.loop-lane.lane-index bound given (omega arith) (c.loop-lane.invariant tracks bound given z ends h)
