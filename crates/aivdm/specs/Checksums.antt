-- The checksum of a sentence and of a tag block (IEC 61162-1:2010, checksum field; NMEA 0183 4.10, TAG block).
use Rattle.std.specs.Prelude.{ℕ, ◌+◌, ◌*◌, ◌&&◌, List, fold, bit_xor, Option, Some, None, if◌then◌else◌}
use Rattle.std.specs.Char.{is_digit, digit_value}

-- the exclusive or of the bytes
abbrev pub sum_of : List ℕ → ℕ
sum_of bytes = fold bit_xor 0 bytes

-- the number that two hexadecimal digits of either case spell
abbrev pub hexadecimal : ℕ → ℕ → Option ℕ
hexadecimal high low =
    if is_digit high 16 && is_digit low 16 then Some (16 * digit_value high + digit_value low) else None
