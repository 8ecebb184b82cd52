-- Texts of six-bit characters, one character more.
use Rattle.std.proofs.Common.{◌≡◌, ℕ, zero, suc, ◌+◌, ◌*◌, ◌≤◌, ◌==◌, Bool, true, false, not, nat_lt, cond, List, [], ◌∷◌, ◌++◌, length, position, if◌then◌else◌, Some, None, unwrap_or, refl, ap, ◌∙◌, arith}
use Rattle.std.specs.List.{position_or_len}
use Rattle.std.proofs.lemmas.List.Sums.{prefix_len-le-length}
use Rattle.std.proofs.lemmas.Bool.Decides.{nat_tests}
use Rattle.aivdm.specs.BitFields.{unsigned_at}
use Rattle.ais_messages.specs.SixBitText.{character_of, characters_at, spaced, trimmed}

pub no_characters : (bits : List Bool) (first : ℕ) → characters_at bits first 0 ≡ []
unfolding characters_at
no_characters bits first = refl

pub characters-more : (bits : List Bool) (first k : ℕ)
    → characters_at bits first (k + 1) ≡ characters_at bits first k ++ character_of (unsigned_at bits (first + 6 * k) 6) ∷ []
unfolding characters_at
characters-more bits first zero =
    let here : first ≡ first + 6 * 0 = omega arith in
    ap (λ at. character_of (unsigned_at bits at 6) ∷ []) here
characters-more bits first (suc k) =
    let count : suc k + 1 ≡ suc (k + 1) = omega arith in
    let here : (first + 6) + 6 * k ≡ first + 6 * suc k = omega arith in
    ap (characters_at bits first) count
    ∙ ap (λ l. character_of (unsigned_at bits first 6) ∷ l) (characters-more bits (first + 6) k)
    ∙ ap (λ at. character_of (unsigned_at bits first 6) ∷ characters_at bits (first + 6) k ++ character_of (unsigned_at bits at 6) ∷ []) here

pub nothing_trimmed : trimmed [] ≡ []
unfolding trimmed
nothing_trimmed = refl

spaced-more : (x : ℕ) (xs : List ℕ) (c : ℕ) → spaced x (xs ++ c ∷ []) ≡ x ∷ xs ++ c ∷ []
spaced-more x [] c = refl
spaced-more x (y ∷ ys) c = refl

-- a byte that is no space ends the text
pub trimmed-byte : (xs : List ℕ) (c : ℕ) → (c == 32) ≡ false → trimmed (xs ++ c ∷ []) ≡ xs ++ c ∷ []
unfolding trimmed
trimmed-byte [] c other = ap (λ (b : Bool). if b then [] else c ∷ []) other
trimmed-byte (x ∷ xs) c other = ap (spaced x) (trimmed-byte xs c other) ∙ spaced-more x xs c

-- a space at the end is dropped
pub trimmed-space : (xs : List ℕ) (c : ℕ) → (c == 32) ≡ true → trimmed (xs ++ c ∷ []) ≡ trimmed xs
unfolding trimmed
trimmed-space [] c space = ap (λ (b : Bool). if b then [] else c ∷ []) space
trimmed-space (x ∷ xs) c space = ap (spaced x) (trimmed-space xs c space)

chosen : (test : Bool) (n m : ℕ) → (test ≡ false → m ≡ n) → unwrap_or (cond test (Some n) None) m ≡ n
chosen true n m same = refl
chosen false n m same = same refl

position_or_len-le : (test : ℕ → Bool) (xs : List ℕ) → position_or_len test xs ≤ length xs
position_or_len-le test xs = prefix_len-le-length (λ x. not (test x)) xs

-- where a search ends
pub position-or : (test : ℕ → Bool) (xs : List ℕ) → unwrap_or (position test xs) (length xs) ≡ position_or_len test xs
position-or test xs =
    chosen (nat_lt (position_or_len test xs) (length xs)) (position_or_len test xs) (length xs)
    (λ past. grind (arith, nat_tests, past, position_or_len-le test xs))

pub position-or-le : (test : ℕ → Bool) (xs : List ℕ) → unwrap_or (position test xs) (length xs) ≤ length xs
position-or-le test xs = omega (arith, position-or test xs, position_or_len-le test xs)
