-- A message as a line, and the line read again.
use Rattle.std.proofs.Common.{◌≡◌, ℕ, zero, suc, ◌+◌, ◌-◌, ◌*◌, ◌^◌, ◌<◌, ◌≤◌, Bool, true, false, List, [], ◌∷◌, ◌++◌, length, take, drop, replicate, flat_map, All, IsTrue, refl, sym, ap, ap₂, ◌∙◌, subst, arith, append_assoc, append-nil, length-append, length-take, length-drop, take-append-drop, inl, inr, mod-eq_of_lt}
use Rattle.std.proofs.lemmas.Bool.{cases_lt, cases_eq}
use Rattle.std.proofs.lemmas.Bool.Decides.{nat_tests}
use Rattle.std.proofs.lemmas.List.{take_at, length-replicate}
use Rattle.std.proofs.lemmas.List.Elements.{All-cons, All-nil}
use Rattle.std.proofs.lemmas.Nat.{pow_pos}
use Rattle.aivdm.specs.BitFields.{binary, bits_value}
use Rattle.aivdm.specs.PayloadBits.{bits_of, is_armour, six_bits}
use Rattle.aivdm.specs.SentenceWriting.{fill_of}
use Rattle.aivdm.specs.Armouring.{armour_of, payload_of}
use Rattle.aivdm.proofs.Appended.{same_bits, below_power}
use Rattle.aivdm.proofs.BitLists.{length-binary, number_of-binary, number_of-append, number_of-below}
use Rattle.aivdm.proofs.Payloads.{bits_of-all, bits_of-cut, length-bits_of}

-- ---- the payload, byte by byte

pub payload_six : (bits : List Bool) → 6 ≤ length bits → payload_of bits ≡ armour_of (bits_value (take 6 bits)) ∷ payload_of (drop 6 bits)
unfolding payload_of
payload_six [] long = absurd (omega arith)
payload_six (a ∷ []) long = absurd (omega arith)
payload_six (a ∷ b ∷ []) long = absurd (omega arith)
payload_six (a ∷ b ∷ c ∷ []) long = absurd (omega arith)
payload_six (a ∷ b ∷ c ∷ d ∷ []) long = absurd (omega arith)
payload_six (a ∷ b ∷ c ∷ d ∷ e ∷ []) long = absurd (omega arith)
payload_six (a ∷ b ∷ c ∷ d ∷ e ∷ f ∷ bits) long = refl

pub payload_rest : (bits : List Bool) → 0 < length bits → length bits < 6 → payload_of bits ≡ armour_of (bits_value bits * 2 ^ (6 - length bits)) ∷ []
unfolding payload_of
payload_rest [] some few = absurd (omega arith)
payload_rest (a ∷ []) some few = refl
payload_rest (a ∷ b ∷ []) some few = refl
payload_rest (a ∷ b ∷ c ∷ []) some few = refl
payload_rest (a ∷ b ∷ c ∷ d ∷ []) some few = refl
payload_rest (a ∷ b ∷ c ∷ d ∷ e ∷ []) some few = refl
payload_rest (a ∷ b ∷ c ∷ d ∷ e ∷ f ∷ bits) some few = absurd (omega arith)

pub payload_none : (bits : List Bool) → length bits ≡ 0 → payload_of bits ≡ []
unfolding payload_of
payload_none [] none = refl
payload_none (a ∷ bits) none = absurd (omega arith)

-- fewer than six bits, followed by zeros
pub raised_below : (number rest : ℕ) → number < 2 ^ rest → rest ≤ 6 → number * 2 ^ (6 - rest) < 64
raised_below number rest small few =
    let six : rest + (6 - rest) ≡ 6 = omega arith in
    let below : number * 2 ^ (6 - rest) + 0 < 2 ^ (rest + (6 - rest)) = below_power number 0 rest (6 - rest) small (pow_pos (6 - rest)) in
    let power : 2 ^ (rest + (6 - rest)) ≡ 64 = ap (λ (n : ℕ). 2 ^ n) six in
    omega arith

-- ---- the bits of the payload

sextet_back : (n : ℕ) → n < 64 → six_bits (armour_of n) ≡ n
sextet_back n small = grind (arith, nat_tests)

armour_is : (n : ℕ) → n < 64 → is_armour (armour_of n) ≡ true
armour_is n small = grind (arith, nat_tests)

number_below : (bits : List Bool) → length bits ≡ 6 → bits_value bits < 64
number_below bits six = let below = number_of-below bits in let power : 2 ^ length bits ≡ 64 = ap (λ (n : ℕ). 2 ^ n) six in omega arith

-- a sextet's bits again
chunk : (bits : List Bool) → length bits ≡ 6 → binary 6 (six_bits (armour_of (bits_value bits))) ≡ bits
chunk bits six =
    ap (binary 6) (sextet_back (bits_value bits) (number_below bits six))
    ∙ same_bits (binary 6 (bits_value bits)) bits (length-binary 6 (bits_value bits) ∙ sym six)
    (number_of-binary 6 (bits_value bits) ∙ mod-eq_of_lt (number_below bits six))

zeros_number : (n : ℕ) → bits_value (replicate n false) ≡ 0
unfolding bits_value
zeros_number zero = refl
zeros_number (suc n) = omega (arith, zeros_number n)

-- the bits of the last sextet again, and zeros
last_chunk : (bits : List Bool) → 0 < length bits → length bits < 6
    → binary 6 (six_bits (armour_of (bits_value bits * 2 ^ (6 - length bits)))) ≡ bits ++ replicate (6 - length bits) false
last_chunk bits some few =
    let blank = 6 - length bits in
    let raised = bits_value bits * 2 ^ blank in
    let small : raised < 64 = raised_below (bits_value bits) (length bits) (number_of-below bits) (omega arith) in
    ap (binary 6) (sextet_back raised small)
    ∙ same_bits (binary 6 raised) (bits ++ replicate blank false)
    (length-binary 6 raised ∙ omega (arith, length-append bits (replicate blank false), length-replicate blank false))
    (
    number_of-binary 6 raised
    ∙ mod-eq_of_lt small
    ∙ sym (number_of-append bits (replicate blank false) ∙ rw (length-replicate blank false, zeros_number blank) (omega arith))
    )

abbrev armour_bits : ℕ → List Bool
armour_bits byte = binary 6 (six_bits byte)

-- the three kinds of bits that are left
payload_empty : (bits : List Bool) → length bits ≡ 0 → flat_map armour_bits (payload_of bits) ≡ bits ++ replicate (fill_of bits) false
unfolding payload_of
payload_empty [] none = refl
payload_empty (bit ∷ bits) none = absurd (omega arith)

payload_short : (bits : List Bool) → 0 < length bits → length bits < 6 → flat_map armour_bits (payload_of bits) ≡ bits ++ replicate (fill_of bits) false
payload_short bits some few =
    let byte = armour_of (bits_value bits * 2 ^ (6 - length bits)) in
    let fill : 6 - length bits ≡ fill_of bits = omega arith in
    ap (flat_map armour_bits) (payload_rest bits some few)
    ∙ append-nil (armour_bits byte)
    ∙ last_chunk bits some few
    ∙ ap (λ (n : ℕ). bits ++ replicate n false) fill

payload_long : (bits : List Bool) → 6 ≤ length bits → flat_map armour_bits (payload_of (drop 6 bits)) ≡ drop 6 bits ++ replicate (fill_of (drop 6 bits)) false
    → flat_map armour_bits (payload_of bits) ≡ bits ++ replicate (fill_of bits) false
payload_long bits long later =
    let front = take 6 bits in
    let rest = drop 6 bits in
    let six : length front ≡ 6 = omega (arith, length-take 6 bits) in
    let fill : fill_of rest ≡ fill_of bits = omega (arith, length-drop 6 bits) in
    ap (flat_map armour_bits) (payload_six bits long)
    ∙ ap₂ (λ (xs ys : List Bool). xs ++ ys) (chunk front six) later
    ∙ sym (append_assoc front rest (replicate (fill_of rest) false))
    ∙ ap₂ (λ (xs : List Bool) (n : ℕ). xs ++ replicate n false) (take-append-drop 6 bits) fill

payload_bits_by : (n : ℕ) (bits : List Bool) → length bits ≤ n → flat_map armour_bits (payload_of bits) ≡ bits ++ replicate (fill_of bits) false
payload_bits_by zero bits few = payload_empty bits (omega arith)
payload_bits_by (suc n) bits few =
    elim (cases_lt (length bits) 6) [
      | inl short ↦
          elim (cases_eq (length bits) 0) [
            | inl none ↦ payload_empty bits none
            | inr some ↦ payload_short bits (omega arith) short
          ]
      | inr long ↦ payload_long bits long (payload_bits_by n (drop 6 bits) (omega (arith, length-drop 6 bits)))
    ]

pub payload_bits : (bits : List Bool) → bits_of (payload_of bits) 0 ≡ bits ++ replicate (fill_of bits) false
payload_bits bits = bits_of-all (payload_of bits) ∙ payload_bits_by (length bits) bits (omega arith)

pub payload_size : (bits : List Bool) → 6 * length (payload_of bits) ≡ length bits + fill_of bits
payload_size bits =
    let size = length-bits_of (payload_of bits) 0 in
    let both : length (bits_of (payload_of bits) 0) ≡ length bits + fill_of bits
    = ap length (payload_bits bits) ∙ length-append bits (replicate (fill_of bits) false) ∙ ap (λ (n : ℕ). length bits + n) (length-replicate (fill_of bits) false) in
    omega arith

pub payload_unfilled : (bits : List Bool) → bits_of (payload_of bits) (fill_of bits) ≡ bits
payload_unfilled bits =
    let places : 6 * length (payload_of bits) - fill_of bits ≡ length bits = omega (arith, payload_size bits) in
    sym (bits_of-cut (payload_of bits) (fill_of bits))
    ∙ ap₂ take places (payload_bits bits)
    ∙ take_at bits (replicate (fill_of bits) false) (length bits) refl

-- each byte of it stands for six bits
payload_armour_by : (n : ℕ) (bits : List Bool) → length bits ≤ n → All (λ byte. IsTrue (is_armour byte)) (payload_of bits)
payload_armour_by zero bits few = subst (All (λ byte. IsTrue (is_armour byte))) (sym (payload_none bits (omega arith))) (All-nil (λ byte. IsTrue (is_armour byte)))
payload_armour_by (suc n) bits few =
    let P = λ (byte : ℕ). IsTrue (is_armour byte) in
    elim (cases_lt (length bits) 6) [
      | inl short ↦
          elim (cases_eq (length bits) 0) [
            | inl none ↦ subst (All P) (sym (payload_none bits none)) (All-nil P)
            | inr some ↦
                let raised = bits_value bits * 2 ^ (6 - length bits) in
                subst (All P) (sym (payload_rest bits (omega arith) short))
                (All-cons P (armour_of raised) [] (armour_is raised (raised_below (bits_value bits) (length bits) (number_of-below bits) (omega arith))) (All-nil P))
          ]
      | inr long ↦
          let number = bits_value (take 6 bits) in
          subst (All P) (sym (payload_six bits long))
          (All-cons P (armour_of number) (payload_of (drop 6 bits)) (armour_is number (number_below (take 6 bits) (omega (arith, length-take 6 bits))))
          (payload_armour_by n (drop 6 bits) (omega (arith, length-drop 6 bits))))
    ]

pub payload_armour : (bits : List Bool) → All (λ byte. IsTrue (is_armour byte)) (payload_of bits)
payload_armour bits = payload_armour_by (length bits) bits (omega arith)
