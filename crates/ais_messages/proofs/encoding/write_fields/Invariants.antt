use Rattle.std.proofs.Common.{◌≡◌, take}
use Rattle.ais_messages.specs.PositionWriting.{bits_written}
use Rattle.ais_messages.proofs.encoding.write_fields.Given as goal

-- the bits of the fields so far
abbrev pub invariant-loop-width : goal.invariant-loop-width
invariant-loop-width l = l.bits ≡ bits_written (take l.width-index l.fields)
