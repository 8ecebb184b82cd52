use Rattle.std.proofs.Common.{◌≡◌, ◌+◌, ◌-◌, ◌*◌, ◌≤◌, ◌++◌, length, take}
use Rattle.aivdm.specs.PayloadBits.{bits_of}
use Rattle.aivdm.specs.Inner.Sextets.{bits_in, AreSextets}
use Rattle.aivdm.proofs.bits.append_sextets.Given as goal

-- the bits of the bytes so far are appended
abbrev pub invariant-loop-byte : goal.invariant-loop-byte
invariant-loop-byte l = record {
  len : l.so_far ≡ l.len + 6 * l.byte-index;
  bits : take l.so_far (bits_in l.sextets.items) ≡ take l.len (bits_in l.fn.sextets.items) ++ bits_of (take l.byte-index l.payload) 0;
  sextets : AreSextets l.sextets.items l.so_far;
  room : length l.sextets.items + (length l.payload - l.byte-index) ≤ l.sextets.capacity;
  capacity : l.sextets.capacity ≡ l.fn.sextets.capacity;
}
