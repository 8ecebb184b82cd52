-- The payload of bits.
use Rattle.std.specs.Prelude.{ℕ, ◌+◌, ◌*◌, ◌^◌, ◌-◌, Bool, List, [], ◌∷◌, length, nat_lt, if◌then◌else◌}
use Rattle.aivdm.specs.BitFields.{bits_value}

-- the byte that stands for six bits
abbrev pub armour_of : ℕ → ℕ
armour_of sextet = if nat_lt sextet 40 then 48 + sextet else 56 + sextet

-- the bytes for bits: the last one is filled up with zeros
unfoldable pub payload_of : List Bool → List ℕ
payload_of [] = []
payload_of (a ∷ b ∷ c ∷ d ∷ e ∷ f ∷ bits) = armour_of (bits_value (a ∷ b ∷ c ∷ d ∷ e ∷ f ∷ [])) ∷ payload_of bits
payload_of (a ∷ bits) = armour_of (bits_value (a ∷ bits) * 2 ^ (5 - length bits)) ∷ []
