use Rattle.std.proofs.Common.{◌≡◌, ◌-◌, ◌<◌, length, map, take}
use Rattle.aivdm.specs.PayloadBits.{six_bits}
use Rattle.aivdm.proofs.bit_slice.put_all_sextets.Given as goal

-- the six bits of the bytes so far are in the room
abbrev pub invariant-loop-at : goal.invariant-loop-at
invariant-loop-at l = record {
  within : l.at < length l.payload;
  same : length l.room ≡ length l.initial.room;
  done : take l.at l.room ≡ map six_bits (take l.at l.payload);
}

abbrev pub decreases-loop-at : goal.decreases-loop-at
decreases-loop-at l = length l.payload - l.at
