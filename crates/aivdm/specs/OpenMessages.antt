-- The state of a joiner after the sentences that it has taken.
use Rattle.std.specs.Prelude.{List}
use Rattle.std.specs.List.{find}
use Rattle.aivdm.specs.FragmentJoining.{Taken, of_key}
use Rattle.aivdm.specs.Inner.KeptParts.{open_parts, KeepsOpen}
use Rattle.aivdm.specs.Inner.OpenRuns.{has_key}
use Rattle.aivdm.specs.Sentences.{SentenceFields}
use Rattle.aivdm.specs.declared.joiner.Begun.{Begun}

-- The joiner's model is the list of the sentences that it has taken.
unfoldable pub StandsFor : List Begun → List Taken → Type 0
StandsFor begun taken = (key : SentenceFields) → KeepsOpen (find (has_key key) begun) (open_parts (of_key key taken))
