use Rattle.std.proofs.Common.{◌≡◌, take}
use Rattle.aivdm.specs.BitFields.{bits_value}
use Rattle.aivdm.specs.Inner.Sextets.{bits_in}
use Rattle.aivdm.proofs.bit_slice.number.Given as goal

-- the number of the sextets so far
abbrev pub invariant-loop-sextet : goal.invariant-loop-sextet
invariant-loop-sextet l = l.number ≡ bits_value (bits_in (take l.sextet-index l.sextets))
