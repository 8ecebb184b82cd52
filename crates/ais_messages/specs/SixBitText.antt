-- Texts of six-bit characters (ITU-R M.1371-5, annex 8, table 47).
use Rattle.std.specs.Prelude.{ℕ, zero, suc, ◌+◌, ◌==◌, Bool, nat_lt, List, [], ◌∷◌, take, if◌then◌else◌}
use Rattle.std.specs.List.{position_or_len}
use Rattle.aivdm.specs.BitFields.{unsigned_at}

-- in ASCII: 0 to 31 are `@`, the capital letters, and `[` to `_`; 32 to 63 are space to `?`
abbrev pub character_of : ℕ → ℕ
character_of value = if nat_lt value 32 then value + 64 else value

-- this many characters, from a bit on
unfoldable pub characters_at : List Bool → ℕ → ℕ → List ℕ
characters_at bits first zero = []
characters_at bits first (suc count) = character_of (unsigned_at bits first 6) ∷ characters_at bits (first + 6) count

-- The first `@` (64) ends a text.
abbrev pub before_at : List ℕ → List ℕ
before_at text = take (position_or_len (λ character. character == 64) text) text

-- a character before a text; a space before no text is dropped
abbrev pub spaced : ℕ → List ℕ → List ℕ
spaced character [] = if character == 32 then [] else character ∷ []
spaced character (next ∷ more) = character ∷ next ∷ more

-- without the spaces at its end
unfoldable pub trimmed : List ℕ → List ℕ
trimmed [] = []
trimmed (character ∷ more) = spaced character (trimmed more)

-- the text of this many characters from a bit on
unfoldable pub text_at : List Bool → ℕ → ℕ → List ℕ
text_at bits first count = trimmed (before_at (characters_at bits first count))
