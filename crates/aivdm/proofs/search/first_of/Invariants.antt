use Rattle.std.proofs.Common.{◌≡◌, ◌==◌, ℕ, ◌-◌, ◌<◌, ◌≤◌, false, length, get_or}
use Rattle.aivdm.proofs.search.first_of.Given as goal

-- none of the bytes so far is this one
abbrev pub invariant-vectors : goal.invariant-vectors
invariant-vectors l = record { within : l.at ≤ length l.bytes; none : (k : ℕ) → k < l.at → (get_or l.bytes k 0 == l.byte) ≡ false }

abbrev pub decreases-vectors : goal.decreases-vectors
decreases-vectors l = length l.bytes - l.at
