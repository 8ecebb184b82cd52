-- The reading of a line as a function, for definitions over lists of lines. A law says that it is the only reading.
use Rattle.std.specs.Prelude.{ℕ, List, length, nat_lt, Option, None, Result, Ok, Err, ◌==◌, if◌then◌else◌}
use Rattle.aivdm.specs.Inner.LineCuts.{tag_at, sentence_at}
use Rattle.aivdm.specs.Sentences.{LineContent}
use Rattle.aivdm.specs.declared.sentence.LineCause.{LineCause}
use Rattle.aivdm.specs.declared.sentence.LineCause.TheVariants.{Empty, Long}

-- a line that is dropped, without a stamp
abbrev pub dropped : LineCause → LineContent
dropped cause = record { stamp = None; body = Err cause }

-- a line that is neither empty nor long
abbrev pub read_from : Result (Option ℕ × List ℕ) LineCause → LineContent
read_from (Ok tag) = record { stamp = tag.0; body = sentence_at tag.1 }
read_from (Err cause) = dropped cause

unfoldable pub reading_of : List ℕ → LineContent
reading_of line =
    if length line == 0 then dropped Empty else (if nat_lt 1024 (length line) then dropped Long else read_from (tag_at line))
