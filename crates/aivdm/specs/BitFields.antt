-- Fields of a message as numbers (ITU-R M.1371, message structure: the most significant bit comes first).
use Rattle.std.specs.Prelude.{ℕ, zero, suc, ◌+◌, ◌-◌, ◌^◌, Bool, List, [], ◌∷◌, length, take, drop, ℤ, pos, ◌-ℤ◌, nat_lt, ◌==◌, if◌then◌else◌}
use Rattle.std.specs.Int.{bit_at}

-- this many of the lowest bits of a number, the highest first
unfoldable pub binary : ℕ → ℕ → List Bool
binary zero n = []
binary (suc width) n = (bit_at n width == 1) ∷ binary width n

-- the number of some bits, the highest first
unfoldable pub bits_value : List Bool → ℕ
bits_value [] = 0
bits_value (bit ∷ bits) = (if bit then 2 ^ length bits else 0) + bits_value bits

-- this many bits, from a place on that is counted from 0
abbrev pub field : List Bool → ℕ → ℕ → List Bool
field bits first width = take width (drop first bits)

-- a field without a sign
abbrev pub unsigned_at : List Bool → ℕ → ℕ → ℕ
unsigned_at bits first width = bits_value (field bits first width)

-- a number of this many bits in two's complement: from 2 ^ (width - 1) on, it means the number minus 2 ^ width
abbrev pub complement : ℕ → ℕ → ℤ
complement width n = if nat_lt n (2 ^ (width - 1)) then pos n else pos n -ℤ pos (2 ^ width)

-- a field in two's complement
abbrev pub signed_at : List Bool → ℕ → ℕ → ℤ
signed_at bits first width = complement width (unsigned_at bits first width)
