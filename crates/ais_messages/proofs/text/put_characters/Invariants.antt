use Rattle.std.proofs.Common.{◌≡◌, take}
use Rattle.ais_messages.specs.SixBitText.{characters_at}
use Rattle.ais_messages.proofs.text.put_characters.Given as goal

-- the characters so far stand at the front
abbrev pub invariant-loop-k : goal.invariant-loop-k
invariant-loop-k l = take l.k l.bytes ≡ characters_at l.bits l.first l.k
