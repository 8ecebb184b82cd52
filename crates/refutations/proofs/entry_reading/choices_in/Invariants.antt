use Rattle.std.proofs.Common.{◌≡◌, ◌==◌, ◌-◌, ◌≤◌, ◌++◌, length, map}
use Rattle.std.specs.Fmt.{decimal}
use Rattle.std.specs.Int.Digits.{AllBelowBase}
use Rattle.std.specs.List.{slice_split}
use Rattle.refutations.specs.Inner.Readings.{parts_left}
use Rattle.refutations.proofs.entry_reading.choices_in.Given as goal

abbrev pub invariant-loop-left : goal.invariant-loop-left
invariant-loop-left l = record {
  parts : map decimal l.list.items ++ parts_left l.left ≡ slice_split (λ byte. byte == 46) l.text;
  below : AllBelowBase l.choices l.list.items;
  few : length l.list.items ≤ l.legs;
  room : l.list.capacity ≡ 8;
}

abbrev pub decreases-loop-left : goal.decreases-loop-left
decreases-loop-left l = l.legs - length l.list.items
