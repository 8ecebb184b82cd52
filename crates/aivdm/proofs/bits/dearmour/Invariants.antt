use Rattle.std.proofs.Common.{◌≡◌, ◌++◌, take, drop, map}
use Rattle.aivdm.specs.PayloadBits.{six_bits}
use Rattle.aivdm.proofs.bits.dearmour.Given as goal

-- the bytes so far are replaced, and the others stand
abbrev pub invariant-loop-byte : goal.invariant-loop-byte
invariant-loop-byte l =
    l.payload ≡ map six_bits (take l.byte-index l.fn.payload) ++ drop l.byte-index l.fn.payload
