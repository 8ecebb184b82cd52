use Rattle.std.proofs.Common.{◌≡◌, ◌≤◌, ◌-◌, ◌++◌, length, take, drop}
use Rattle.circular_buffer.specs.Buffer.{buffer}
use Rattle.mtl_monitor.specs.Inner.Lookahead.{first_of, with_all_after}
use Rattle.mtl_monitor.proofs.lookahead.sum_up.Given as goal

-- This number of the last cells are summed up and stand at the front.
abbrev pub invariant-loop : goal.invariant-loop
invariant-loop l =
    let all = l.initial.cells.items in
    let left = length all - l.counter in
    record {
      cells : l.cells ≡ buffer (with_all_after (drop left all) ++ take left all) l.initial.cells.capacity;
      after : l.after ≡ first_of (with_all_after (drop left all));
      fits : l.counter ≤ length all;
    }
