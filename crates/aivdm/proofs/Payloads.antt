-- A payload's bytes as sextets.
use Rattle.std.proofs.Common.{◌≡◌, ℕ, ◌+◌, ◌-◌, ◌*◌, ◌<◌, ◌≤◌, Bool, List, [], ◌∷◌, ◌++◌, length, take, drop, map, flat_map, get_or, All, IsTrue, refl, sym, ap, ap₂, ◌∙◌, arith, take_all, take-take, append-nil, get_or-drop, length-take, length-take-le}
use Rattle.std.proofs.lemmas.List.{length-map, get_or-map, drop_all, get_or-append_right, map-append, take-map, take_more}
use Rattle.std.proofs.Math.Seq.{take-add}
use Rattle.std.proofs.lemmas.Grind.{flat_map-append}
use Rattle.std.proofs.lemmas.Bool.Decides.{nat_tests}
use Rattle.std.specs.List.{refill}
use Rattle.aivdm.specs.BitFields.{binary}
use Rattle.aivdm.specs.PayloadBits.{bits_of, is_armour, six_bits}
use Rattle.aivdm.specs.Inner.Sextets.{bits_in, AreSextets}
use Rattle.aivdm.proofs.BitLists.{length-bits_in}

six_bits-below : (byte : ℕ) → IsTrue (is_armour byte) → six_bits byte < 64
six_bits-below byte h = grind (arith, nat_tests)

-- a byte that is not replaced yet
pub get_or-mapped : (f : ℕ → ℕ) (xs ys : List ℕ) (i : ℕ) → i < length xs → ys ≡ map f (take i xs) ++ drop i xs → get_or ys i 0 ≡ get_or xs i 0
get_or-mapped f xs ys i h e =
    ap (λ (l : List ℕ). get_or l i 0) e
    ∙ get_or-append_right (map f (take i xs)) (drop i xs) i i 0 (length-map (take i xs) f ∙ length-take-le i xs (omega arith)) (omega arith)
    ∙ get_or-drop i xs (i - i) 0 ∙ ap (λ n. get_or xs n 0) (omega arith)

-- a slice that was written whole
pub refill_whole : (xs ws : List ℕ) → length ws ≡ length xs → refill (length xs) xs ws ≡ ws
refill_whole xs ws h =
    ap (λ (l : List ℕ). take (length xs) (ws ++ l)) (drop_all (length ws) xs (omega arith))
    ∙ ap (take (length xs)) (append-nil ws) ∙ take_all (length xs) ws (omega arith)

bits_in-map : (payload : List ℕ) → bits_in (map six_bits payload) ≡ flat_map (λ byte. binary 6 (six_bits byte)) payload
bits_in-map [] = refl
bits_in-map (byte ∷ payload) = ap (λ l. binary 6 (six_bits byte) ++ l) (bits_in-map payload)

-- the bits of a payload are those of its sextets
pub bits_of-sextets : (payload : List ℕ) (fill : ℕ) → take (6 * length payload - fill) (bits_in (map six_bits payload)) ≡ bits_of payload fill
unfolding bits_of
bits_of-sextets payload fill =
    let bits = bits_in (map six_bits payload) in
    let whole : length bits ≡ 6 * length payload = length-bits_in (map six_bits payload) ∙ ap (λ n. 6 * n) (length-map payload six_bits) in
    ap (λ n. take (n - fill) bits) (sym whole) ∙ rw (bits_in-map payload) refl

pub AreSextets-payload : (payload : List ℕ) (fill : ℕ) → 1 ≤ length payload → fill ≤ 5 → All (λ byte. IsTrue (is_armour byte)) payload → AreSextets (map six_bits payload) (6 * length payload - fill)
AreSextets-payload payload fill some few armoured = record {
  enough = omega (arith, length-map payload six_bits);
  needed = omega (arith, length-map payload six_bits);
  six = λ k d h.
      let there : k < length payload = omega (arith, length-map payload six_bits) in
      rw (get_or-map six_bits payload k d d there) (six_bits-below (get_or payload k d) (armoured k d there));
}

-- the bits of all bytes, with no fill
pub bits_of-all : (payload : List ℕ) → bits_of payload 0 ≡ flat_map (λ byte. binary 6 (six_bits byte)) payload
unfolding bits_of
bits_of-all payload =
    let bits = flat_map (λ byte. binary 6 (six_bits byte)) payload in take_all (length bits - 0) bits (omega arith)

pub bits_of-none : bits_of [] 0 ≡ []
bits_of-none = bits_of-all []

-- one byte more
pub bits_of-more : (payload : List ℕ) (i : ℕ) → i < length payload → bits_of (take (i + 1) payload) 0 ≡ bits_of (take i payload) 0 ++ binary 6 (six_bits (get_or payload i 0))
bits_of-more payload i below =
    let byte = get_or payload i 0 in
    bits_of-all (take (i + 1) payload)
    ∙ ap (flat_map (λ (byte : ℕ). binary 6 (six_bits byte))) (take_more payload i 0 below)
    ∙ flat_map-append (λ (byte : ℕ). binary 6 (six_bits byte)) (take i payload) (byte ∷ [])
    ∙ ap (λ (bits : List Bool). flat_map (λ (byte : ℕ). binary 6 (six_bits byte)) (take i payload) ++ bits) (append-nil (binary 6 (six_bits byte)))
    ∙ ap (λ (bits : List Bool). bits ++ binary 6 (six_bits byte)) (sym (bits_of-all (take i payload)))

length-payload_bits : (payload : List ℕ) → length (flat_map (λ byte. binary 6 (six_bits byte)) payload) ≡ 6 * length payload
length-payload_bits payload =
    ap length (sym (bits_in-map payload)) ∙ length-bits_in (map six_bits payload) ∙ ap (λ n. 6 * n) (length-map payload six_bits)

-- without the fill
pub bits_of-cut : (payload : List ℕ) (fill : ℕ) → take (6 * length payload - fill) (bits_of payload 0) ≡ bits_of payload fill
unfolding bits_of
bits_of-cut payload fill =
    ap₂ (λ (n : ℕ) (bits : List Bool). take (n - fill) bits) (sym (length-payload_bits payload)) (bits_of-all payload)

pub length-bits_of : (payload : List ℕ) (fill : ℕ) → length (bits_of payload fill) ≡ 6 * length payload - fill
unfolding bits_of
length-bits_of payload fill =
    let bits = flat_map (λ byte. binary 6 (six_bits byte)) payload in omega (arith, length-take (length bits - fill) bits, length-payload_bits payload)

-- ---- a payload that is mapped block by block, from its front

-- one block more
pub mapped_more : (f : ℕ → ℕ) (xs : List ℕ) (i n : ℕ) (old new : List ℕ) → take i old ≡ map f (take i xs)
    → take (i + n) new ≡ take i old ++ map f (take n (drop i xs)) → take (i + n) new ≡ map f (take (i + n) xs)
mapped_more f xs i n old new done put =
    put ∙ ap (λ (l : List ℕ). l ++ map f (take n (drop i xs))) done ∙ sym (map-append f (take i xs) (take n (drop i xs))) ∙ ap (map f) (sym (take-add i n xs))

-- the last block, which may overlap those before it
pub mapped_last : (f : ℕ → ℕ) (xs : List ℕ) (i n : ℕ) (old new : List ℕ) → n ≤ length xs → length xs ≤ i + n → take i old ≡ map f (take i xs)
    → take (length xs - n + n) new ≡ take (length xs - n) old ++ map f (take n (drop (length xs - n) xs)) → take (length xs) new ≡ map f xs
mapped_last f xs i n old new some near done put =
    let start = length xs - n in
    let whole : start + n ≡ length xs = omega arith in
    let front : take start old ≡ map f (take start xs)
    = sym (take-take start i old (omega arith)) ∙ ap (take start) done ∙ take-map f start (take i xs) ∙ ap (map f) (take-take start i xs (omega arith)) in
    ap (λ k. take k new) (sym whole) ∙ mapped_more f xs start n old new front put ∙ ap (λ k. map f (take k xs)) whole ∙ ap (map f) (take_all (length xs) xs (omega arith))
