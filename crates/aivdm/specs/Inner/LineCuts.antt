-- The cuts of reading a line, on lists, in the order of the code.
use Rattle.std.specs.Prelude.{ℕ, ◌-◌, ◌==◌, Bool, true, not, ◌&&◌, ◌||◌, List, [], ◌∷◌, length, take, drop, nat_le, Option, Some, None, Result, Ok, Err, if◌then◌else◌}
use Rattle.std.specs.List.{slice_split, before_first, after_first, list_all}
use Rattle.std.specs.Char.{is_ascii_uppercase, is_ascii_digit, is_ascii_alphanumeric}
use Rattle.std.specs.Str.{all_ascii_digits}
use Rattle.std.specs.Str.Parse.{digits_value}
use Rattle.aivdm.specs.Checksums.{sum_of, hexadecimal}
use Rattle.aivdm.specs.PayloadBits.{is_armour}
use Rattle.aivdm.specs.Sentences.{SentenceFields}
use Rattle.aivdm.specs.TagBlocks.{seconds_of}
use Rattle.aivdm.specs.declared.sentence.LineCause.{LineCause}
use Rattle.aivdm.specs.declared.sentence.LineCause.TheVariants.{Tag, Other, Form, Sum, Armour}

-- one step after another, up to the first cause
infixl 10 ◌>>=◌
abbrev pub ◌>>=◌ : {A B : Type 0} → Result A LineCause → (A → Result B LineCause) → Result B LineCause
(Ok x) >>= f = f x
(Err cause) >>= f = Err cause

abbrev pub before_byte : ℕ → List ℕ → List ℕ
before_byte byte bytes = before_first (λ other. other == byte) bytes

abbrev pub after_byte : ℕ → List ℕ → List ℕ
after_byte byte bytes = after_first (λ other. other == byte) bytes

-- the number that two hexadecimal digits spell, or why they drop the line
abbrev pub told_or : LineCause → Option ℕ → Result ℕ LineCause
told_or cause None = Err cause
told_or cause (Some sum) = Ok sum

-- ---- the tag block

-- the time in digits
unfoldable pub time_of : List ℕ → Result (Option ℕ) LineCause
time_of digits =
    if nat_le 1 (length digits) && nat_le (length digits) 15 && all_ascii_digits digits
    then Ok (Some (seconds_of (digits_value 10 digits))) else Err Tag

-- the time in a field, or none
unfoldable pub time_in : List ℕ → Result (Option ℕ) LineCause
time_in [] = Err Tag
time_in (a ∷ []) = Ok None
time_in (a ∷ b ∷ digits) = if (a == 99) && (b == 58) then time_of digits else Ok None

-- the first of two times
abbrev pub first_time : Option ℕ → Option ℕ → Option ℕ
first_time None time = time
first_time (Some stamp) time = Some stamp

-- the stamp in the remaining fields, given the time in the earlier ones
abbrev pub stamp_among : Option ℕ → List (List ℕ) → Result (Option ℕ) LineCause
stamp_among stamp [] = Ok stamp
stamp_among stamp (field ∷ fields) = time_in field >>= λ time. stamp_among (first_time stamp time) fields

-- the stamp in the bytes before the `*`
unfoldable pub stamp_in : List ℕ → Result (Option ℕ) LineCause
stamp_in content =
    if list_all (λ byte. not (byte == 92)) content
    then stamp_among None (slice_split (λ byte. byte == 44) content) else Err Tag

-- the checksum after the `*`, and the bytes after the second backslash
unfoldable pub block_end : List ℕ → Result (ℕ × List ℕ) LineCause
block_end (high ∷ low ∷ slash ∷ rest) =
    if slash == 92 then (told_or Tag (hexadecimal high low) >>= λ told. Ok (told, rest)) else Err Tag
block_end _ = Err Tag

-- after the first backslash
unfoldable pub block_at : List ℕ → Result (Option ℕ × List ℕ) LineCause
block_at bytes =
    block_end (after_byte 42 bytes) >>= λ end.
    (if end.0 == sum_of (before_byte 42 bytes)
    then (stamp_in (before_byte 42 bytes) >>= λ stamp. Ok (stamp, end.1)) else Err Tag)

-- the stamp of a line's tag block, and what follows the block
unfoldable pub tag_at : List ℕ → Result (Option ℕ × List ℕ) LineCause
tag_at [] = Ok (None, [])
tag_at (byte ∷ bytes) = if byte == 92 then block_at bytes else Ok (None, byte ∷ bytes)

-- ---- the sentence

abbrev pub is_talker_byte : ℕ → Bool
is_talker_byte byte = is_ascii_uppercase byte || is_ascii_digit byte

-- `VDM,` or `VDO,`, and what follows it
unfoldable pub kind_at : List ℕ → Result (List ℕ) LineCause
kind_at (v ∷ d ∷ kind ∷ comma ∷ rest) =
    if (v == 86) && (d == 68) && ((kind == 77) || (kind == 79)) && (comma == 44) then Ok rest else Err Other
kind_at _ = Err Other

-- what follows the first comma of a VDM or VDO sentence
unfoldable pub address_at : List ℕ → Result (List ℕ) LineCause
address_at (mark ∷ a ∷ b ∷ rest) = if (mark == 33) && is_talker_byte a && is_talker_byte b then kind_at rest else Err Other
address_at _ = Err Other

-- total and number
unfoldable pub count_at : List ℕ → Result (ℕ × ℕ × List ℕ) LineCause
count_at (total ∷ c ∷ number ∷ d ∷ rest) =
    if nat_le 49 total && nat_le total 57 && (c == 44) && nat_le 49 number && nat_le number total && (d == 44)
    then Ok (total - 48, number - 48, rest) else Err Form
count_at _ = Err Form

-- the value of a field of one byte, or none, and what follows the field's comma
abbrev pub after_comma : ℕ → List ℕ → Result (Option ℕ × List ℕ) LineCause
after_comma value [] = Err Form
after_comma value (comma ∷ rest) = if comma == 44 then Ok (Some value, rest) else Err Form

abbrev pub optional_at : (ℕ → Bool) → (ℕ → ℕ) → List ℕ → Result (Option ℕ × List ℕ) LineCause
optional_at test value [] = Err Form
optional_at test value (byte ∷ rest) =
    if byte == 44 then Ok (None, rest) else (if test byte then after_comma (value byte) rest else Err Form)

unfoldable pub digit_at : List ℕ → Result (Option ℕ × List ℕ) LineCause
digit_at bytes = optional_at is_ascii_digit (λ byte. byte - 48) bytes

unfoldable pub letter_at : List ℕ → Result (Option ℕ × List ℕ) LineCause
letter_at bytes = optional_at is_ascii_alphanumeric (λ byte. byte) bytes

-- whether the bytes after the sum are a suffix
abbrev pub is_suffix : List ℕ → Bool
is_suffix [] = true
is_suffix (byte ∷ bytes) = (byte == 44) || (byte == 32) || (byte == 9)

-- what follows the payload's comma: the fill, the checksum, and the suffix
unfoldable pub end_at : List ℕ → Result (ℕ × ℕ × List ℕ) LineCause
end_at (fill ∷ star ∷ high ∷ low ∷ suffix) =
    if nat_le 48 fill && nat_le fill 53 && (star == 42) && is_suffix suffix
    then (told_or Form (hexadecimal high low) >>= λ told. Ok (fill - 48, told, suffix)) else Err Form
end_at _ = Err Form

-- a sentence's fields, its checksum, and what follows it
pub record Cut : Type 0 where
  pub fields : SentenceFields
  pub told : ℕ
  pub suffix : List ℕ

-- the fields after the address, one after another
abbrev pub with_end : ℕ × ℕ × List ℕ → Option ℕ → Option ℕ → List ℕ → ℕ × ℕ × List ℕ → Result Cut LineCause
with_end count seq channel payload end =
    if length payload == 0 then Err Form
    else Ok (record {
      fields = record { total = count.0; number = count.1; seq = seq; channel = channel; payload = payload; fill = end.0 };
      told = end.1;
      suffix = end.2;
    })

abbrev pub with_channel : ℕ × ℕ × List ℕ → Option ℕ → Option ℕ × List ℕ → Result Cut LineCause
with_channel count seq channel = end_at (after_byte 44 channel.1) >>= with_end count seq channel.0 (before_byte 44 channel.1)

abbrev pub with_seq : ℕ × ℕ × List ℕ → Option ℕ × List ℕ → Result Cut LineCause
with_seq count seq = letter_at seq.1 >>= with_channel count seq.0

abbrev pub with_count : ℕ × ℕ × List ℕ → Result Cut LineCause
with_count count = digit_at count.2 >>= with_seq count

unfoldable pub cut_at : List ℕ → Result Cut LineCause
cut_at bytes = count_at bytes >>= with_count

-- the bytes between `!` and the `*`, given the length of the suffix
abbrev pub summed_in : List ℕ → ℕ → List ℕ
summed_in bytes suffix = take (length bytes - suffix - 3 - 1) (drop 1 bytes)

-- the tests after the form
abbrev pub tested : List ℕ → Cut → Result SentenceFields LineCause
tested bytes cut =
    if cut.told == sum_of (summed_in bytes (length cut.suffix))
    then (if list_all is_armour cut.fields.payload then Ok cut.fields else Err Armour)
    else Err Sum

-- the sentence after the tag block
unfoldable pub sentence_at : List ℕ → Result SentenceFields LineCause
sentence_at bytes = address_at bytes >>= λ rest. (cut_at rest >>= tested bytes)
