-- Lemmas for those who call.
use Rattle.std.proofs.Common.{◌≡◌, ◌∷◌, [], ◌++◌, List}
use Rattle.aivdm.specs.FragmentJoining.{Taken, joined_of, part_bits, total_of}
use Rattle.aivdm.specs.OpenMessages.{StandsFor}
use Rattle.aivdm.specs.declared.joiner.Begun.{Begun}
use Rattle.aivdm.specs.declared.joiner.Joined.TheVariants.{Message}
use Rattle.aivdm.proofs.Standing.{stands_alone}

-- A sentence of total 1 is a message by itself, and a joiner that does not take it stands for the list with it too.
pub whole_message : (begun : List Begun) (taken : List Taken) (part : Taken) → StandsFor begun taken → total_of part ≡ 1
    → (Message (part_bits part) ≡ joined_of taken part) × StandsFor begun (taken ++ part ∷ [])
whole_message = stands_alone
