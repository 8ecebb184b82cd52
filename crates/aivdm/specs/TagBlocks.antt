-- The optional tag block before a sentence (NMEA 0183 4.10, TAG block), in the form that is read.
use Rattle.std.specs.Prelude.{ℕ, ◌≡◌, ◌≢◌, ◌/◌, ◌≤◌, ◌==◌, Bool, not, ◌&&◌, List, [], ◌∷◌, ◌++◌, length, drop, codes, nat_eq, nat_lt, All, IsTrue, Option, Some, None, ◌⊎◌, slice_get, if◌then◌else◌}
use Rattle.std.specs.List.{find, join_with_byte, starts_with}
use Rattle.std.specs.Option.{option_map}
use Rattle.std.specs.Char.{is_ascii_digit}
use Rattle.std.specs.Str.Parse.{digits_value}
use Rattle.aivdm.specs.Checksums.{sum_of, hexadecimal}

-- any byte but a comma, `*` and a backslash
abbrev pub is_field_byte : ℕ → Bool
is_field_byte byte = not (byte == 44) && not (byte == 42) && not (byte == 92)

-- The field begins with `c:`, so it has a time.
abbrev pub tells_time : List ℕ → Bool
tells_time field = starts_with nat_eq field (codes "c:")

-- 1 to 15 decimal digits
pub record AreTimeDigits (digits : List ℕ) : Type 0 where
  pub some : 1 ≤ length digits
  pub few : length digits ≤ 15
  pub decimal : All (λ byte. IsTrue (is_ascii_digit byte)) digits

-- one or more bytes; digits after `c:`
pub record IsTagField (field : List ℕ) : Type 0 where
  pub some : 1 ≤ length field
  pub bytes : All (λ byte. IsTrue (is_field_byte byte)) field
  pub time : IsTrue (tells_time field) → AreTimeDigits (drop 2 field)

-- a time in seconds; numbers from 10 ^ 11 on are milliseconds
abbrev pub seconds_of : ℕ → ℕ
seconds_of time = if nat_lt time 100_000_000_000 then time else time / 1000

-- the time in the first field that has one
abbrev pub block_stamp : List (List ℕ) → Option ℕ
block_stamp fields = option_map (λ field. seconds_of (digits_value 10 (drop 2 field))) (find tells_time fields)

-- a tag block: its fields, and the two digits of its checksum
pub record TagBlock : Type 0 where
  pub fields : List (List ℕ)
  pub high : ℕ
  pub low : ℕ

-- the fields with commas between them: the bytes of the checksum
abbrev pub block_content : TagBlock → List ℕ
block_content block = join_with_byte 44 block.fields

-- in the form of a line, between two backslashes
abbrev pub block_text : TagBlock → List ℕ
block_text block = 92 ∷ block_content block ++ 42 ∷ block.high ∷ block.low ∷ 92 ∷ []

-- one or more well-formed fields, and the right checksum
pub record IsTagBlock (block : TagBlock) : Type 0 where
  pub some : 1 ≤ length block.fields
  pub fields : All IsTagField block.fields
  pub sum : hexadecimal block.high block.low ≡ Some (sum_of (block_content block))

-- the line is this tag block followed by the rest
pub record HasTagBlock (line : List ℕ) (stamp : Option ℕ) (rest : List ℕ) (block : TagBlock) : Type 0 where
  pub split : line ≡ block_text block ++ rest
  pub form : IsTagBlock block
  pub time : stamp ≡ block_stamp block.fields

-- A line that does not begin with a backslash has no tag block: all of it is the rest.
pub record HasNoTagBlock (line : List ℕ) (stamp : Option ℕ) (rest : List ℕ) : Type 0 where
  pub plain : slice_get line 0 ≢ Some 92
  pub whole : rest ≡ line
  pub time : stamp ≡ None

-- The line is a tag block with this stamp, or none, and the rest.
abbrev pub IsTagged : List ℕ → Option ℕ → List ℕ → Type 0
IsTagged line stamp rest =
    HasNoTagBlock line stamp rest ⊎ ((block : TagBlock) × HasTagBlock line stamp rest block)
