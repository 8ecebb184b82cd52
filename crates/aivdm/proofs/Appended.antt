-- Bits that are appended to bits.
use Rattle.std.proofs.Common.{◌≡◌, ℕ, zero, suc, ◌+◌, ◌-◌, ◌*◌, ◌/◌, ◌%◌, ◌^◌, ◌<◌, ◌≤◌, Bool, true, false, List, [], ◌∷◌, ◌++◌, length, take, drop, take_all, get_or, All, Option, Some, None, IsSome, unwrap_or, refl, sym, ap, ap₂, ◌∙◌, subst, arith, append_assoc, append-nil, pow-add, length-append, length-take, take-append-drop, take-take, mod-lt, lit<, mod-eq_of_lt}
use Rattle.std.proofs.lemmas.Grind.{flat_map-append}
use Rattle.std.proofs.lemmas.List.{take_at, take-append-le}
use Rattle.std.proofs.lemmas.List.Elements.{All-append, All-cons, All-nil}
use Rattle.std.proofs.lemmas.Nat.{mod-pow-add, div-mul-add, mod_low, pow_pos}
use Rattle.std.proofs.Math.Nat.{mul-div_cancel, mul-le-mul_right, div-lt_iff_lt-mul}
use Rattle.std.proofs.Math.Pow.{pow_mono}
use Rattle.std.proofs.Math.Seq.{take-append-add, get_or-append_seam}
use Rattle.std.specs.Option.{option_to_list}
use Rattle.aivdm.specs.BitFields.{binary, bits_value}
use Rattle.aivdm.specs.PayloadBits.{bits_of}
use Rattle.aivdm.specs.Inner.Sextets.{bits_in, sextets_of, AreSextets}
use Rattle.aivdm.proofs.Payloads.{bits_of-cut}
use Rattle.aivdm.proofs.BitLists.{length-binary, number_of-append, number_of-below, number_of-binary, length-bits_in}

-- bits are the same if they are as many and stand for one number
pub same_bits : (xs ys : List Bool) → length xs ≡ length ys → bits_value xs ≡ bits_value ys → xs ≡ ys
unfolding bits_value
same_bits [] [] l e = refl
same_bits [] (y ∷ ys) l e = absurd (omega arith)
same_bits (x ∷ xs) [] l e = absurd (omega arith)
same_bits (true ∷ xs) (true ∷ ys) l e =
    let lengths : length xs ≡ length ys = omega arith in
    let powers : 2 ^ length xs ≡ 2 ^ length ys = ap (λ (n : ℕ). 2 ^ n) lengths in
    ap (λ (bits : List Bool). true ∷ bits) (same_bits xs ys lengths (omega arith))
same_bits (false ∷ xs) (false ∷ ys) l e =
    ap (λ (bits : List Bool). false ∷ bits) (same_bits xs ys (omega arith) (omega arith))
same_bits (true ∷ xs) (false ∷ ys) l e =
    let powers : 2 ^ length xs ≡ 2 ^ length ys = ap (λ (n : ℕ). 2 ^ n) (omega arith) in
    let below = number_of-below ys in absurd (omega arith)
same_bits (false ∷ xs) (true ∷ ys) l e =
    let powers : 2 ^ length xs ≡ 2 ^ length ys = ap (λ (n : ℕ). 2 ^ n) (omega arith) in
    let below = number_of-below xs in absurd (omega arith)

-- only the lowest bits of a number count
pub binary-same : (width m n : ℕ) → m % 2 ^ width ≡ n % 2 ^ width → binary width m ≡ binary width n
binary-same width m n e =
    same_bits (binary width m) (binary width n) (length-binary width m ∙ sym (length-binary width n)) (number_of-binary width m ∙ e ∙ sym (number_of-binary width n))

binary-split : (a b n : ℕ) → binary (a + b) n ≡ binary a (n / 2 ^ b) ++ binary b n
binary-split a b n =
    same_bits (binary (a + b) n) (binary a (n / 2 ^ b) ++ binary b n)
    (length-binary (a + b) n ∙ sym (length-append (binary a (n / 2 ^ b)) (binary b n) ∙ ap₂ (λ (i j : ℕ). i + j) (length-binary a (n / 2 ^ b)) (length-binary b n)))
    (number_of-binary (a + b) n ∙ mod-pow-add n a b ∙ sym (number_of-append (binary a (n / 2 ^ b)) (binary b n) ∙ rw (length-binary b n, number_of-binary a (n / 2 ^ b), number_of-binary b n) refl))

-- the bits of two numbers, one after the other
pub binary-pair : (a b high low : ℕ) → low < 2 ^ b → binary (a + b) (high * 2 ^ b + low) ≡ binary a high ++ binary b low
binary-pair a b high low h =
    binary-split a b (high * 2 ^ b + low)
    ∙ ap₂ (λ (xs ys : List Bool). xs ++ ys)
    (ap (binary a) (div-mul-add high (2 ^ b) low h))
    (binary-same b (high * 2 ^ b + low) low (mod_low high b low h ∙ sym (mod-eq_of_lt h)))

-- the first bits
pub take-binary : (a b n : ℕ) → take a (binary (a + b) n) ≡ binary a (n / 2 ^ b)
take-binary a b n = ap (take a) (binary-split a b n) ∙ take_at (binary a (n / 2 ^ b)) (binary b n) a (length-binary a (n / 2 ^ b))

pub bits_in-sextets_of : (count n : ℕ) → bits_in (sextets_of count n) ≡ binary (6 * count) n
unfolding sextets_of binary
bits_in-sextets_of zero n = refl
bits_in-sextets_of (suc count) n =
    let more : 6 * suc count ≡ 6 + 6 * count = omega arith in
    let high = n / 2 ^ (6 * count) in
    let low : high % 64 % 2 ^ 6 ≡ high % 2 ^ 6 = mod-eq_of_lt (mod-lt high (lit< tt)) in
    ap₂ (λ (xs ys : List Bool). xs ++ ys) (binary-same 6 (high % 64) high low) (bits_in-sextets_of count n)
    ∙ sym (ap (λ (w : ℕ). binary w n) more ∙ binary-split 6 (6 * count) n)

pub length-sextets_of : (count n : ℕ) → length (sextets_of count n) ≡ count
unfolding sextets_of
length-sextets_of zero n = refl
length-sextets_of (suc count) n = ap suc (length-sextets_of count n)

pub sextets_of-six : (count n : ℕ) → All (λ sextet. sextet < 64) (sextets_of count n)
unfolding sextets_of
sextets_of-six zero n = All-nil (λ sextet. sextet < 64)
sextets_of-six (suc count) n = All-cons (λ sextet. sextet < 64) (n / 2 ^ (6 * count) % 64) (sextets_of count n) (mod-lt (n / 2 ^ (6 * count)) (lit< tt)) (sextets_of-six count n)

pub bits_in-append : (xs ys : List ℕ) → bits_in (xs ++ ys) ≡ bits_in xs ++ bits_in ys
bits_in-append xs ys = flat_map-append (binary 6) xs ys

-- the first elements of two lists, past the first list
take_past : {X : Type 0} (xs ys : List X) (n k : ℕ) → length xs ≡ n → take (n + k) (xs ++ ys) ≡ xs ++ take k ys
take_past xs ys n k e = ap (λ (m : ℕ). take (m + k) (xs ++ ys)) (sym e) ∙ take-append-add xs ys k

-- the number of the kept bits and those of the value, followed by zero bits, in sextets after whole ones
pub appended : (whole : List ℕ) (kept width high value blank count : ℕ) → kept + width + blank ≡ 6 * count → value < 2 ^ width
    → take (6 * length whole + (kept + width)) (bits_in (whole ++ sextets_of count ((high * 2 ^ width + value) * 2 ^ blank))) ≡ bits_in whole ++ (binary kept high ++ binary width value)
appended whole kept width high value blank count fit small =
    let number = high * 2 ^ width + value in
    let places = kept + width in
    let back : number * 2 ^ blank / 2 ^ blank ≡ number = mul-div_cancel number (pow_pos blank) in
    ap (take (6 * length whole + places)) (bits_in-append whole (sextets_of count (number * 2 ^ blank)))
    ∙ take_past (bits_in whole) (bits_in (sextets_of count (number * 2 ^ blank))) (6 * length whole) places (length-bits_in whole)
    ∙ ap (λ (bits : List Bool). bits_in whole ++ bits) (
    ap (take places) (bits_in-sextets_of count (number * 2 ^ blank) ∙ ap (λ (w : ℕ). binary w (number * 2 ^ blank)) (sym fit))
    ∙ take-binary places blank (number * 2 ^ blank)
    ∙ ap (binary places) back
    ∙ binary-pair kept width high value small
    )

-- the last sextet and those before it
kept_bits : (new : List ℕ) (last len kept : ℕ) → len ≡ 6 * length new + kept → kept ≤ 6 → take len (bits_in (new ++ last ∷ [])) ≡ bits_in new ++ binary kept (last / 2 ^ (6 - kept))
kept_bits new last len kept place few =
    let whole : 6 ≡ kept + (6 - kept) = omega arith in
    ap₂ take place (bits_in-append new (last ∷ []) ∙ ap (λ (bits : List Bool). bits_in new ++ bits) (append-nil (binary 6 last) ∙ ap (λ (w : ℕ). binary w last) whole))
    ∙ take_past (bits_in new) (binary (kept + (6 - kept)) last) (6 * length new) kept (length-bits_in new)
    ∙ ap (λ (bits : List Bool). bits_in new ++ bits) (take-binary kept (6 - kept) last)

pub popped : (items new : List ℕ) (r : Option ℕ) (len kept last number : ℕ) → AreSextets items len → kept ≡ len % 6 → (kept ≡ 0 → ⊥) → (0 < length items → IsSome r)
    → items ≡ new ++ option_to_list r → last ≡ unwrap_or r 0 → number ≡ last / 2 ^ (6 - kept)
    → (take len (bits_in items) ≡ bits_in new ++ binary kept number) × (number < 2 ^ kept)
popped items new None len kept last number are k some there e l q =
    let here : IsSome {T = ℕ} None = there (let enough = are.enough in omega arith) in absurd (none_is here)
  where
    none_is : IsSome {T = ℕ} None → ⊥
    none_is h = cc
popped items new (Some x) len kept last number are k some there e l q =
    let enough = are.enough in
    let needed = are.needed in
    let count : length items ≡ length new + 1 = ap length e ∙ length-append new (x ∷ []) ∙ omega arith in
    let place : len ≡ 6 * length new + kept = omega arith in
    let small : kept ≤ 6 = omega arith in
    let below : x < 64
    = subst (λ (n : ℕ). n < 64) (ap (λ (xs : List ℕ). get_or xs (length new) 0) e ∙ get_or-append_seam new x [] 0) (are.six (length new) 0 (omega arith)) in
    let six_bits : kept + (6 - kept) ≡ 6 = omega arith in
    let product : 2 ^ kept * 2 ^ (6 - kept) ≡ 64 = sym (pow-add 2 kept (6 - kept)) ∙ ap (λ (n : ℕ). 2 ^ n) six_bits in
    let digits : number ≡ x / 2 ^ (6 - kept) = q ∙ ap (λ (n : ℕ). n / 2 ^ (6 - kept)) l in (
      ap (λ (xs : List ℕ). take len (bits_in xs)) e ∙ kept_bits new x len kept place small ∙ ap (λ (n : ℕ). bits_in new ++ binary kept n) (sym digits),
      rw digits ((div-lt_iff_lt-mul (pow_pos (6 - kept))).1 (omega arith)),
    )

-- if no bits of the last sextet are left over
pub all_kept : (items : List ℕ) (len kept : ℕ) → AreSextets items len → kept ≡ len % 6 → kept ≡ 0 → take len (bits_in items) ≡ bits_in items ++ binary kept 0
unfolding binary
all_kept items len kept are k none =
    let enough = are.enough in
    let needed = are.needed in
    take_all len (bits_in items) (omega (arith, length-bits_in items))
    ∙ sym (ap (λ (w : ℕ). bits_in items ++ binary w 0) none ∙ append-nil (bits_in items))

pub sextets_of-pred : (count n : ℕ) → 0 < count → sextets_of count n ≡ n / 2 ^ (6 * (count - 1)) % 64 ∷ sextets_of (count - 1) n
unfolding sextets_of
sextets_of-pred zero n some = absurd (omega arith)
sextets_of-pred (suc count) n some =
    let less : suc count - 1 ≡ count = omega arith in rw less refl

pub sextets_of-none : (items : List ℕ) (left n : ℕ) → left ≤ 0 → items ++ sextets_of left n ≡ items
unfolding sextets_of
sextets_of-none items zero n none = append-nil items
sextets_of-none items (suc left) n none = absurd (omega arith)

-- ---- a number after kept bits

pub below_power : (high value kept width : ℕ) → high < 2 ^ kept → value < 2 ^ width → high * 2 ^ width + value < 2 ^ (kept + width)
below_power high value kept width h v =
    let product : (high + 1) * 2 ^ width ≤ 2 ^ kept * 2 ^ width = mul-le-mul_right (2 ^ width) (omega arith) in
    let power = pow-add 2 kept width in
    let times : (high + 1) * 2 ^ width ≡ high * 2 ^ width + 2 ^ width = grind arith in
    omega arith

-- what the code makes of the numbers, which fit in 64 bits
shifted : (high value kept width blank : ℕ) → high < 2 ^ kept → value < 2 ^ width → kept + width + blank ≤ 60
    → ((high * 2 ^ width % 2 ^ 64) + value) * 2 ^ blank % 2 ^ 64 ≡ (high * 2 ^ width + value) * 2 ^ blank
shifted high value kept width blank h v few =
    let raised = high * 2 ^ width in
    let number = raised + value in
    let below : number < 2 ^ (kept + width) = below_power high value kept width h v in
    let high_power : 2 ^ (kept + width) ≤ 2 ^ 60 = pow_mono {j = 60} (omega arith) in
    let whole : number * 2 ^ blank + 0 < 2 ^ (kept + width + blank) = below_power number 0 (kept + width) blank below (pow_pos blank) in
    let whole_power : 2 ^ (kept + width + blank) ≤ 2 ^ 60 = pow_mono {j = 60} few in
    let one : raised % 2 ^ 64 ≡ raised = mod-eq_of_lt (omega arith) in
    ap (λ (n : ℕ). (n + value) * 2 ^ blank % 2 ^ 64) one ∙ mod-eq_of_lt (omega arith)

pub appended_so : (old whole new : List ℕ) (len kept width high value count : ℕ) → take len (bits_in old) ≡ bits_in whole ++ binary kept high → 6 * length whole + kept ≡ len
    → All (λ sextet. sextet < 64) whole → high < 2 ^ kept → value < 2 ^ width → kept ≡ len % 6 → 1 ≤ width → width ≤ 32 → count ≡ (kept + width + 5) / 6
    → new ≡ whole ++ sextets_of count (((high * 2 ^ width % 2 ^ 64) + value) * 2 ^ (6 * count - kept - width) % 2 ^ 64)
    → (take (len + width) (bits_in new) ≡ take len (bits_in old) ++ binary width value) × AreSextets new (len + width)
appended_so old whole new len kept width high value count front place six h v k some most c e =
    let blank = 6 * count - kept - width in
    let fit : kept + width + blank ≡ 6 * count = omega arith in
    let number = (high * 2 ^ width + value) * 2 ^ blank in
    let new_is : new ≡ whole ++ sextets_of count number = e ∙ ap (λ (n : ℕ). whole ++ sextets_of count n) (shifted high value kept width blank h v (omega arith)) in
    let places : len + width ≡ 6 * length whole + (kept + width) = omega arith in
    let sizes : length new ≡ length whole + count = ap length new_is ∙ length-append whole (sextets_of count number) ∙ ap (λ (n : ℕ). length whole + n) (length-sextets_of count number) in (
      ap₂ take places (ap bits_in new_is)
          ∙ appended whole kept width high value blank count fit v
          ∙ sym (append_assoc (bits_in whole) (binary kept high) (binary width value))
          ∙ ap (λ (bits : List Bool). bits ++ binary width value) (sym front),
      record {
        enough = omega arith;
        needed = omega arith;
        six = subst (All (λ sextet. sextet < 64)) (sym new_is) (All-append (λ sextet. sextet < 64) whole (sextets_of count number) six (sextets_of-six count number));
      },
    )

-- ---- a payload, and its fill cut off

cut_bits : (items : List ℕ) (len k : ℕ) → len ≤ 6 * k → len ≤ 6 * length items → take len (bits_in (take k items)) ≡ take len (bits_in items)
cut_bits items len k here there =
    sym (
    ap (λ (xs : List ℕ). take len (bits_in xs)) (sym (take-append-drop k items))
    ∙ ap (take len) (bits_in-append (take k items) (drop k items))
    ∙ take-append-le len (bits_in (take k items)) (bits_in (drop k items)) (omega (arith, length-bits_in (take k items), length-take k items))
    )

pub filled : (items : List ℕ) (front : List Bool) (payload : List ℕ) (len fill : ℕ) → length front ≡ len → fill ≤ 5 → 1 ≤ length payload
    → AreSextets items (len + 6 * length payload) → take (len + 6 * length payload) (bits_in items) ≡ front ++ bits_of payload 0
    → take (len + 6 * length payload - fill) (bits_in (take ((len + 6 * length payload - fill + 5) / 6) items)) ≡ front ++ bits_of payload fill
filled items front payload len fill size few some are whole =
    let all = len + 6 * length payload in
    let enough = are.enough in
    let places : all - fill ≡ len + (6 * length payload - fill) = omega arith in
    cut_bits items (all - fill) ((all - fill + 5) / 6) (omega arith) (omega arith)
    ∙ sym (take-take (all - fill) all (bits_in items) (omega arith))
    ∙ ap (take (all - fill)) whole
    ∙ ap (λ (n : ℕ). take n (front ++ bits_of payload 0)) places
    ∙ take_past front (bits_of payload 0) len (6 * length payload - fill) size
    ∙ ap (λ (bits : List Bool). front ++ bits) (bits_of-cut payload fill)
