-- The line of a written message.
use Rattle.std.specs.Prelude.{ℕ, ◌≡◌, ◌+◌, ◌-◌, ◌/◌, ◌%◌, Bool, false, List, [], ◌∷◌, ◌++◌, length, replicate, codes, nat_lt, Option, Some, None, Ok, if◌then◌else◌}
use Rattle.std.specs.Fmt.{decimal}
use Rattle.aivdm.specs.Armouring.{payload_of}
use Rattle.aivdm.specs.Checksums.{sum_of}
use Rattle.aivdm.specs.LineReading.{IsReading}
use Rattle.aivdm.specs.PayloadBits.{bits_of}

-- a hexadecimal digit, in capitals
abbrev pub hexadecimal_digit : ℕ → ℕ
hexadecimal_digit value = if nat_lt value 10 then 48 + value else 55 + value

-- `*`, and the checksum of the content in two digits
abbrev pub sum_text : List ℕ → List ℕ
sum_text content = 42 ∷ hexadecimal_digit (sum_of content / 16) ∷ hexadecimal_digit (sum_of content % 16) ∷ []

-- a tag block with only the time, or none
abbrev pub tag_text : Option ℕ → List ℕ
tag_text None = []
tag_text (Some stamp) = 92 ∷ (codes "c:" ++ decimal stamp) ++ sum_text (codes "c:" ++ decimal stamp) ++ 92 ∷ []

-- the bytes between `!` and `*` in a sentence of total 1 without a sequential identifier
abbrev pub sentence_content : ℕ → List ℕ → ℕ → List ℕ
sentence_content channel payload fill = codes "AIVDM,1,1,," ++ (channel ∷ 44 ∷ payload) ++ (44 ∷ (48 + fill) ∷ [])

-- the line: the tag block, and then the sentence from `!` (33)
abbrev pub line_text : Option ℕ → ℕ → List ℕ → ℕ → List ℕ
line_text stamp channel payload fill =
    tag_text stamp ++ (33 ∷ sentence_content channel payload fill ++ sum_text (sentence_content channel payload fill))

-- the number of fill bits in the last byte
abbrev pub fill_of : List Bool → ℕ
fill_of bits = (6 - length bits % 6) % 6

-- the line of these bits
abbrev pub line_of : Option ℕ → List Bool → ℕ → List ℕ
line_of stamp bits channel = line_text stamp channel (payload_of bits) (fill_of bits)

-- The line is this message with this stamp. Its payload is the bits followed by fill bits of 0.
pub record IsWritten (stamp : Option ℕ) (bits : List Bool) (channel : ℕ) (line : List ℕ) : Type 0 where
  pub payload : List ℕ
  pub filled : bits_of payload 0 ≡ bits ++ replicate (fill_of bits) false
  pub unfilled : bits_of payload (fill_of bits) ≡ bits
  pub text : line ≡ line_text stamp channel payload (fill_of bits)
  pub reads : IsReading line (record {
    stamp = stamp;
    body = Ok (record { total = 1; number = 1; seq = None; channel = Some channel; payload = payload; fill = fill_of bits });
  })
