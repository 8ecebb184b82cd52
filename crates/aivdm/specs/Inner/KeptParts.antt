-- The sentences of a key that a joiner stores.
use Rattle.std.specs.Prelude.{◌≡◌, ◌-◌, ◌&&◌, List, [], ◌∷◌, length, nat_lt, Option, Some, None, slice_get, if◌then◌else◌}
use Rattle.std.specs.Option.{option_and_then}
use Rattle.aivdm.specs.FragmentJoining.{Taken, is_run, joined_bits, last_of, number_of_part, total_of}
use Rattle.aivdm.specs.declared.joiner.Begun.{Begun}

-- the run that ends with the last sentence of a key, if that run is not a whole message
abbrev pub open_behind : List Taken → Taken → Option (List Taken)
open_behind parts last =
    if is_run (last_of (number_of_part last) parts) && nat_lt (number_of_part last) (total_of last)
    then Some (last_of (number_of_part last) parts) else None

unfoldable pub open_parts : List Taken → Option (List Taken)
open_parts parts = option_and_then (open_behind parts) (slice_get parts (length parts - 1))

-- the message has these parts
abbrev pub Keeps : Begun → List Taken → Type 0
Keeps run [] = run.count ≡ 0
Keeps run (first ∷ others) =
    (run.count ≡ length (first ∷ others)) × (run.total ≡ total_of first) × (run.since ≡ first.time)
    × (run.bits ≡ joined_bits (first ∷ others))

-- If the last sentence of a key ends such a run, the joiner stores its parts; for any other key it stores none.
abbrev pub KeepsOpen : Option Begun → Option (List Taken) → Type 0
KeepsOpen None None = Unit {0}
KeepsOpen None (Some parts) = ⊥
KeepsOpen (Some run) None = Keeps run []
KeepsOpen (Some run) (Some parts) = Keeps run parts
