use Rattle.std.proofs.Common.{◌≡◌, ◌+◌, ◌≤◌, ◌++◌, length}
use Rattle.aivdm.specs.Inner.Sextets.{sextets_of}
use Rattle.aivdm.proofs.bits.push_sextets.Given as goal

-- the elements so far, and those that are left
abbrev pub invariant-loop-left : goal.invariant-loop-left
invariant-loop-left l = record {
  few : l.left ≤ l.count;
  items : l.sextets.items ++ sextets_of l.left l.number ≡ l.fn.sextets.items ++ sextets_of l.count l.number;
  room : length l.sextets.items + l.left ≤ l.sextets.capacity;
  capacity : l.sextets.capacity ≡ l.fn.sextets.capacity;
}

abbrev pub decreases-loop-left : goal.decreases-loop-left
decreases-loop-left l = l.left
