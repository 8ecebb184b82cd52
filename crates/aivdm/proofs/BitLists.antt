-- Bits as numbers, and parts of bits that are kept six to a number.
use Rattle.std.proofs.Common.{◌≡◌, ℕ, zero, suc, lt_of_lt_of_le, pow_mono, ◌+◌, ◌-◌, ◌*◌, ◌/◌, ◌%◌, ◌^◌, ◌<◌, ◌≤◌, Bool, true, false, List, [], ◌∷◌, ◌++◌, length, take, drop, refl, sym, ap, ◌∙◌, subst, arith, slice_range, pow-add, length-append, length-drop, length-take, take-append-drop, drop-drop, take-take, drop_at, mod-lt, zero-mul, one-mul, one-add, mod-eq_of_lt, append-nil, ◌==◌, if◌then◌else◌, lit<}
use Rattle.std.proofs.lemmas.List.{take-append-le, drop-append-le, drop-take, drop_all}
use Rattle.std.proofs.lemmas.Grind.{flat_map-append}
use Rattle.std.proofs.lemmas.Nat.{mod-pow-add, div-mul-add, mod_low}
use Rattle.std.specs.Int.{bit_at}
use Rattle.aivdm.specs.BitFields.{binary, bits_value, unsigned_at}
use Rattle.aivdm.specs.Inner.Sextets.{bits_in}

-- ---- numbers and their bits

pub length-binary : (width n : ℕ) → length (binary width n) ≡ width
unfolding binary
length-binary zero n = refl
length-binary (suc width) n = ap suc (length-binary width n)

pub number_of-append : (xs ys : List Bool) → bits_value (xs ++ ys) ≡ bits_value xs * 2 ^ length ys + bits_value ys
unfolding bits_value
number_of-append [] ys = omega (arith, zero-mul (2 ^ length ys))
number_of-append (true ∷ xs) ys =
    grind (arith, number_of-append xs ys, length-append xs ys, pow-add 2 (length xs) (length ys))
number_of-append (false ∷ xs) ys = grind (arith, number_of-append xs ys)

pub number_of-below : (xs : List Bool) → bits_value xs < 2 ^ length xs
unfolding bits_value
number_of-below [] = omega arith
number_of-below (true ∷ xs) = grind (arith, number_of-below xs, pow-add 2 1 (length xs))
number_of-below (false ∷ xs) = grind (arith, number_of-below xs, pow-add 2 1 (length xs))

bit_times : (bit place : ℕ) → bit < 2 → (if bit == 1 then place else 0) ≡ bit * place
bit_times zero place h = omega (arith, zero-mul place)
bit_times (suc zero) place h = omega (arith, one-mul place)
bit_times (suc (suc bit)) place h = absurd (omega arith)

pub number_of-binary : (width n : ℕ) → bits_value (binary width n) ≡ n % 2 ^ width
unfolding binary bits_value
number_of-binary zero n = omega arith
number_of-binary (suc width) n =
    let bit = bit_times (bit_at n width) (2 ^ width) (mod-lt (n / 2 ^ width) (lit< tt)) in
    rw (length-binary width n, bit, number_of-binary width n) (rw (← one-add width, mod-pow-add n 1 width) refl)

pub number_of-six : (n : ℕ) → n < 64 → bits_value (binary 6 n) ≡ n
number_of-six n h = number_of-binary 6 n ∙ mod-eq_of_lt h

-- ---- a field is what a division leaves

middle_number : (front middle back width after : ℕ) → middle < 2 ^ width → back < 2 ^ after → (front * 2 ^ (width + after) + (middle * 2 ^ after + back)) / 2 ^ after % 2 ^ width ≡ middle
middle_number front middle back width after m b =
    let regrouped : front * 2 ^ (width + after) + (middle * 2 ^ after + back) ≡ (front * 2 ^ width + middle) * 2 ^ after + back
    = grind (arith, pow-add 2 width after) in
    rw regrouped (rw (div-mul-add (front * 2 ^ width + middle) (2 ^ after) back b) (mod_low front width middle m))

pub number_of-middle : (xs : List Bool) (r width after : ℕ) → r + width + after ≡ length xs → bits_value xs / 2 ^ after % 2 ^ width ≡ bits_value (take width (drop r xs))
number_of-middle xs r width after h =
    let front = take r xs in
    let rest = drop r xs in
    let middle = take width rest in
    let back = drop width rest in
    let split : xs ≡ front ++ (middle ++ back) = sym (take-append-drop r xs) ∙ ap (λ (l : List Bool). front ++ l) (sym (take-append-drop width rest)) in
    let rest_length : length rest ≡ width + after = omega (arith, length-drop r xs) in
    let middle_length : length middle ≡ width = omega (arith, length-take width rest) in
    let back_length : length back ≡ after = omega (arith, length-drop width rest) in
    let joined_length : length (middle ++ back) ≡ width + after = omega (arith, length-append middle back) in
    let number : bits_value xs ≡ bits_value front * 2 ^ (width + after) + (bits_value middle * 2 ^ after + bits_value back)
    = ap bits_value split ∙ number_of-append front (middle ++ back) ∙ rw (joined_length, number_of-append middle back, back_length) refl in
    rw number (middle_number (bits_value front) (bits_value middle) (bits_value back) width after (subst (λ (n : ℕ). bits_value middle < 2 ^ n) middle_length (number_of-below middle)) (subst (λ (n : ℕ). bits_value back < 2 ^ n) back_length (number_of-below back)))

-- ---- six bits to a number

pub length-bits_in : (sextets : List ℕ) → length (bits_in sextets) ≡ 6 * length sextets
length-bits_in [] = refl
length-bits_in (s ∷ sextets) = omega (arith, length-append (binary 6 s) (bits_in sextets), length-binary 6 s, length-bits_in sextets)

pub drop-bits_in : (n : ℕ) (sextets : List ℕ) → drop (6 * n) (bits_in sextets) ≡ bits_in (drop n sextets)
drop-bits_in zero sextets = refl
drop-bits_in (suc n) [] = drop_all (6 * suc n) [] (omega arith)
drop-bits_in (suc n) (s ∷ sextets) =
    let six_more : 6 * suc n ≡ 6 + 6 * n = omega arith in
    rw (six_more, ← drop-drop (6 * n) 6 (bits_in (s ∷ sextets)), drop_at (binary 6 s) (bits_in sextets) 6 (length-binary 6 s)) (drop-bits_in n sextets)

-- one number more
pub number_of-bits_in_push : (sextets : List ℕ) (s : ℕ) → s < 64 → bits_value (bits_in (sextets ++ s ∷ [])) ≡ bits_value (bits_in sextets) * 64 + s
number_of-bits_in_push sextets s h =
    ap bits_value (flat_map-append (binary 6) sextets (s ∷ []))
    ∙ number_of-append (bits_in sextets) (binary 6 s ++ [])
    ∙ rw (append-nil (binary 6 s), length-binary 6 s, number_of-six s h) refl

-- a field lies in the numbers from that of its first bit to that of its last
pub field-bits_in : (sextets : List ℕ) (len first width a r e : ℕ) → first ≡ 6 * a + r → first + width ≤ len → r + width ≤ 6 * (e - a) → e ≤ length sextets → take width (drop first (take len (bits_in sextets))) ≡ take width (drop r (bits_in (slice_range sextets a e)))
field-bits_in sextets len first width a r e place within wide there =
    let bits = bits_in sextets in
    let part = slice_range sextets a e in
    let rest = len - first in
    let whole : len ≡ first + rest = omega arith in
    let cut : take width (drop first (take len bits)) ≡ take width (drop first bits)
    = rw (whole, drop-take first rest bits) (take-take width rest (drop first bits) (omega arith)) in
    let from : drop first bits ≡ drop r (bits_in (drop a sextets))
    = rw (place, ← drop-drop r (6 * a) bits, drop-bits_in a sextets) refl in
    let parts : bits_in (drop a sextets) ≡ bits_in part ++ bits_in (drop (e - a) (drop a sextets))
    = ap bits_in (sym (take-append-drop (e - a) (drop a sextets))) ∙ flat_map-append (binary 6) part (drop (e - a) (drop a sextets)) in
    let part_length : length (bits_in part) ≡ 6 * (e - a)
    = omega (arith, length-bits_in part, length-take (e - a) (drop a sextets), length-drop a sextets) in
    cut ∙ ap (take width) from ∙ rw (parts, drop-append-le r (bits_in part) (bits_in (drop (e - a) (drop a sextets))) (omega arith)) (take-append-le width (drop r (bits_in part)) (bits_in (drop (e - a) (drop a sextets))) (omega (arith, length-drop r (bits_in part))))

pub number_of-bits_in_below : (sextets : List ℕ) (n : ℕ) → length sextets ≤ n → bits_value (bits_in sextets) < 2 ^ (6 * n)
number_of-bits_in_below sextets n h =
    let below = number_of-below (bits_in sextets) in
    let few : length (bits_in sextets) ≤ 6 * n = omega (arith, length-bits_in sextets) in
    lt_of_lt_of_le below (pow_mono few)

-- the first bits, if there are enough
pub length-take_bits_in : (sextets : List ℕ) (len : ℕ) → len ≤ 6 * length sextets → length (take len (bits_in sextets)) ≡ len
length-take_bits_in sextets len h = omega (arith, length-take len (bits_in sextets), length-bits_in sextets)

-- the number in a field, from that of the sextets in which it lies
pub unsigned_at-bits_in : (sextets : List ℕ) (len first width : ℕ) → 1 ≤ width → first + width ≤ len → len ≤ 6 * length sextets
    → bits_value (bits_in (slice_range sextets (first / 6) ((first + width - 1) / 6 + 1))) / 2 ^ (5 - (first + width - 1) % 6) % 2 ^ width
    ≡ unsigned_at (take len (bits_in sextets)) first width
unsigned_at-bits_in sextets len first width some within there =
    let last = first + width - 1 in
    let a = first / 6 in
    let r = first % 6 in
    let e = last / 6 + 1 in
    let part = slice_range sextets a e in
    let inside : e ≤ length sextets = omega arith in
    let part_length : length (bits_in part) ≡ 6 * (e - a)
    = omega (arith, length-bits_in part, length-take (e - a) (drop a sextets), length-drop a sextets) in
    let places : r + width + (5 - last % 6) ≡ 6 * (e - a) = omega arith in
    number_of-middle (bits_in part) r width (5 - last % 6) (places ∙ sym part_length)
    ∙ ap bits_value (sym (field-bits_in sextets len first width a r e (omega arith) within (omega arith) inside))
