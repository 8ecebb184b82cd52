-- Which sentences complete a message.
use Rattle.std.specs.Prelude.{ℕ, ◌+◌, ◌-◌, ◌==◌, Bool, false, ◌&&◌, List, [], ◌∷◌, ◌++◌, length, drop, filter, flat_map, nat_eq, nat_lt, nat_le, if◌then◌else◌}
use Rattle.std.specs.List.{enumerate_from, list_all}
use Rattle.std.specs.Option.{option_eq}
use Rattle.aivdm.specs.PayloadBits.{bits_of}
use Rattle.aivdm.specs.Sentences.{SentenceFields}
use Rattle.aivdm.specs.declared.joiner.Joined.{Joined}
use Rattle.aivdm.specs.declared.joiner.Joined.TheVariants.{Message, Waiting, Orphan}

-- a sentence that was taken, with its time in seconds
pub record Taken : Type 0 where
  pub sentence : SentenceFields
  pub time : ℕ

abbrev pub total_of : Taken → ℕ
total_of part = part.sentence.total

abbrev pub number_of_part : Taken → ℕ
number_of_part part = part.sentence.number

-- The key is the sequential identifier and the channel; either may be absent.
abbrev pub have_one_key : SentenceFields → SentenceFields → Bool
have_one_key a b = option_eq nat_eq a.seq b.seq && option_eq nat_eq a.channel b.channel

-- the sentences that are parts of messages of several and have the key of this one
abbrev pub of_key : SentenceFields → List Taken → List Taken
of_key sentence taken = filter (λ part. nat_lt 1 (total_of part) && have_one_key sentence part.sentence) taken

-- this many of the last elements of a list
abbrev pub last_of : {X : Type 0} → ℕ → List X → List X
last_of k xs = drop (length xs - k) xs

-- They have the same total and the numbers 1, 2, .. in order, and none is more than 30 seconds later than the first.
unfoldable pub is_run : List Taken → Bool
is_run [] = false
is_run (first ∷ others) =
    list_all (λ part. total_of part == total_of first) others
    && list_all (λ place. number_of_part place.1 == place.0) (enumerate_from 1 (first ∷ others))
    && list_all (λ part. nat_le part.time (first.time + 30)) others

-- the bits of one part, without its fill
abbrev pub part_bits : Taken → List Bool
part_bits part = bits_of part.sentence.payload part.sentence.fill

-- the bits of the parts in order
abbrev pub joined_bits : List Taken → List Bool
joined_bits parts = flat_map part_bits parts

-- the result of the last sentence of a key, by the run that it ends
unfoldable pub joined_run : Taken → List Taken → Joined
joined_run last parts =
    if is_run parts then (if number_of_part last == total_of last then Message (joined_bits parts) else Waiting) else Orphan

-- The result of a sentence after the earlier ones. A sentence of total 1 is a message by itself. For a sentence of
-- number k of several, the last k sentences of its key count, itself included.
unfoldable pub joined_of : List Taken → Taken → Joined
joined_of before last =
    if total_of last == 1 then Message (part_bits last)
    else joined_run last (last_of (number_of_part last) (of_key last.sentence (before ++ last ∷ [])))
