-- Bits stored six per number.
use Rattle.std.specs.Prelude.{ℕ, zero, suc, ◌+◌, ◌*◌, ◌/◌, ◌%◌, ◌^◌, ◌<◌, ◌≤◌, Bool, List, [], ◌∷◌, length, All, flat_map}
use Rattle.aivdm.specs.BitFields.{binary}

-- the stored bits
abbrev pub bits_in : List ℕ → List Bool
bits_in sextets = flat_map (binary 6) sextets

-- the numbers have six bits each, and their number is what this many bits need
pub record AreSextets (sextets : List ℕ) (len : ℕ) : Type 0 where
  pub enough : len ≤ 6 * length sextets
  pub needed : 6 * length sextets < len + 6
  pub six : All (λ sextet. sextet < 64) sextets

-- the lowest bits of a number, six per element, this many elements, the highest first
unfoldable pub sextets_of : ℕ → ℕ → List ℕ
sextets_of zero n = []
sextets_of (suc count) n = n / 2 ^ (6 * count) % 64 ∷ sextets_of count n

-- the content of a value of bits: its sextets, and room for 432 bits
pub record IsSound (sextets : List ℕ) (capacity len : ℕ) : Type 0 where
  pub sextets_are : AreSextets sextets len
  pub room : 72 ≤ capacity
