-- The bits of a payload (IEC 61162-1, six-bit armour).
use Rattle.std.specs.Prelude.{ℕ, ◌-◌, Bool, ◌&&◌, ◌||◌, List, length, take, flat_map, nat_lt, nat_le, if◌then◌else◌}
use Rattle.aivdm.specs.BitFields.{binary}

-- the bytes that stand for six bits: `0` to `W` and a backquote to `w`
abbrev pub is_armour : ℕ → Bool
is_armour byte = (nat_le 48 byte && nat_le byte 87) || (nat_le 96 byte && nat_le byte 119)

-- the six bits as a number: the byte minus 48, and minus 8 more if that exceeds 40
abbrev pub six_bits : ℕ → ℕ
six_bits byte = let value = byte - 48 in if nat_lt 40 value then value - 8 else value

-- the bits of a payload's bytes, without the fill bits at the end
unfoldable pub bits_of : List ℕ → ℕ → List Bool
bits_of payload fill =
    let bits = flat_map (λ byte. binary 6 (six_bits byte)) payload in take (length bits - fill) bits
