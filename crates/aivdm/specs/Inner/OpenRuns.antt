-- The joiner's step on its list of messages that have begun, in the order of the code.
use Rattle.std.specs.Prelude.{◌+◌, ◌-◌, ◌==◌, Bool, ◌&&◌, List, [], ◌∷◌, ◌++◌, nat_eq, nat_lt, nat_le, Option, Some, None, if◌then◌else◌}
use Rattle.std.specs.List.{find}
use Rattle.std.specs.Option.{option_eq}
use Rattle.aivdm.specs.FragmentJoining.{Taken, part_bits, total_of, number_of_part}
use Rattle.aivdm.specs.Sentences.{SentenceFields}
use Rattle.aivdm.specs.declared.joiner.Begun.{Begun}
use Rattle.aivdm.specs.declared.joiner.Joined.{Joined}
use Rattle.aivdm.specs.declared.joiner.Joined.TheVariants.{Message, Waiting, Orphan}

abbrev pub has_key : SentenceFields → Begun → Bool
has_key sentence run = option_eq nat_eq run.seq sentence.seq && option_eq nat_eq run.channel sentence.channel

-- a message that a part begins
abbrev pub begun_by : Taken → Begun
begun_by part = record {
  seq = part.sentence.seq;
  channel = part.sentence.channel;
  total = total_of part;
  count = 1;
  since = part.time;
  bits = part_bits part;
}

-- The part is the next one of the message, in time.
abbrev pub awaits : Begun → Taken → Bool
awaits run part =
    (run.total == total_of part) && nat_lt run.count (number_of_part part) && (number_of_part part - run.count == 1)
    && nat_le part.time (run.since + 30)

-- the result of a part of its key
abbrev pub joined_on : Begun → Taken → Joined
joined_on run part =
    if awaits run part then (if nat_lt (number_of_part part) (total_of part) then Waiting else Message (run.bits ++ part_bits part)) else Orphan

-- the message after the part
abbrev pub run_on : Begun → Taken → Begun
run_on run part =
    if awaits run part
    then (if nat_lt (number_of_part part) (total_of part)
    then record run { count = number_of_part part; bits = run.bits ++ part_bits part }
    else record run { count = 0; bits = [] })
    else record run { count = 0 }

-- the result of a part, by the message of its key, if there is one
abbrev pub joined_by : Option Begun → Taken → Joined
joined_by None part = if number_of_part part == 1 then Waiting else Orphan
joined_by (Some run) part = if number_of_part part == 1 then Waiting else joined_on run part

-- the message after the part, if there is one
abbrev pub run_by : Option Begun → Taken → Option Begun
run_by None part = if number_of_part part == 1 then Some (begun_by part) else None
run_by (Some run) part = if number_of_part part == 1 then Some (begun_by part) else Some (run_on run part)

-- a message replaces the first of its key, or is appended
abbrev pub put : SentenceFields → Begun → List Begun → List Begun
put sentence new [] = new ∷ []
put sentence new (run ∷ runs) = if has_key sentence run then new ∷ runs else run ∷ put sentence new runs

abbrev pub put_some : SentenceFields → Option Begun → List Begun → List Begun
put_some sentence None runs = runs
put_some sentence (Some new) runs = put sentence new runs

-- the result of the next part, and the open messages after it
unfoldable pub joined_next : List Begun → Taken → Joined
joined_next runs part = joined_by (find (has_key part.sentence) runs) part

unfoldable pub runs_next : List Begun → Taken → List Begun
runs_next runs part = put_some part.sentence (run_by (find (has_key part.sentence) runs) part) runs
