use Rattle.std.proofs.Common.{◌≡◌, ◌+◌, ◌-◌, ◌≤◌, true, length}
use Rattle.refutation_check.specs.Inner.ReadRows.{IsReadSoFar, ReadsPlainly}
use Rattle.refutation_check.proofs.entries_read.take_rows.Given as goal

abbrev pub invariant-loop-turn : goal.invariant-loop-turn
invariant-loop-turn l = record {
  all : l.read.all ≡ true;
  plain : ReadsPlainly l.reader;
  read : IsReadSoFar l.situation l.text l.reader (length l.text + 1 - l._turn) l.read.entries.items;
  few : length l.read.entries.items ≤ l._turn;
}
