use Rattle.std.proofs.Common.{◌≡◌, ◌*◌, ◌++◌, drop}
use Rattle.aivdm.specs.Armouring.{payload_of}
use Rattle.aivdm.proofs.writer.push_payload.Given as goal

-- the bytes so far, and those for the bits that are left
abbrev pub invariant-loop-place : goal.invariant-loop-place
invariant-loop-place l = l.line.items ++ payload_of (drop (6 * l.place) l.bits) ≡ l.fn.line.items ++ payload_of l.bits
