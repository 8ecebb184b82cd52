use Rattle.std.proofs.Common.{◌≡◌, ◌-◌, ◌<◌, true, length, take}
use Rattle.std.specs.List.{list_all}
use Rattle.aivdm.specs.PayloadBits.{is_armour}
use Rattle.aivdm.proofs.armour.is_armoured.Given as goal

-- the bytes so far stand for six bits
abbrev pub invariant-loop-at : goal.invariant-loop-at
invariant-loop-at l = record {
  within : l.at < length l.payload;
  good : list_all is_armour (take l.at l.payload) ≡ true;
}

abbrev pub decreases-loop-at : goal.decreases-loop-at
decreases-loop-at l = length l.payload - l.at
