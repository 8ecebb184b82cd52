-- The exclusive or of bytes, taken over lanes instead of byte by byte: the order of the bytes does not matter.
use Rattle.std.proofs.Common.{◌≡◌, ℕ, zero, suc, ◌+◌, ◌-◌, ◌*◌, ◌≤◌, Bool, true, false, List, [], ◌∷◌, ◌++◌, map, length, take, drop, replicate, fold, bit_xor, refl, sym, ap, ◌∙◌, arith, cond, length-drop}
use Rattle.std.proofs.lemmas.Bool.Decides.{nat_tests}
use Rattle.std.proofs.lemmas.List.Sums.{fold-append}
use Rattle.std.proofs.lemmas.Simd.{length-chunk, length-zip2}
use Rattle.std.proofs.Math.Seq.{drop-nil, take-add}
use Rattle.std.specs.Simd.{first_chunks}
use Rattle.std.specs.List.{range_with_len}
use Rattle.aivdm.specs.Checksums.{sum_of}
use lib.Bits.{xor_assoc, xor_comm, xor_zero_r, xor_zero_l}
use lib.Dec.{leb}
use lib.Lanes.{fold_l, zip2, sel_l, top}

-- what `reduce_xor` gives
pub of_fold_l : (s : ℕ) (xs : List ℕ) → fold_l bit_xor s xs ≡ fold bit_xor s xs
of_fold_l s [] = refl
of_fold_l s (x ∷ xs) = of_fold_l (bit_xor s x) xs

-- a sum that begins with s
from_any : (s : ℕ) (xs : List ℕ) → fold bit_xor s xs ≡ bit_xor s (sum_of xs)
from_any s [] = sym (xor_zero_r s)
from_any s (x ∷ xs) =
    from_any (bit_xor s x) xs ∙ xor_assoc s x (sum_of xs)
    ∙ ap (bit_xor s) (sym (ap (λ y. fold bit_xor y xs) (xor_zero_l x) ∙ from_any x xs))

pub of_append : (xs ys : List ℕ) → sum_of (xs ++ ys) ≡ bit_xor (sum_of xs) (sum_of ys)
of_append xs ys = fold-append bit_xor 0 xs ys ∙ from_any (sum_of xs) ys

exchange : (a b c d : ℕ) → bit_xor (bit_xor a b) (bit_xor c d) ≡ bit_xor (bit_xor a c) (bit_xor b d)
exchange a b c d =
    xor_assoc a b (bit_xor c d)
    ∙ ap (bit_xor a) (sym (xor_assoc b c d) ∙ ap (λ y. bit_xor y d) (xor_comm b c) ∙ xor_assoc c b d)
    ∙ sym (xor_assoc a c (bit_xor b d))

lanes_from : (s t : ℕ) (xs ys : List ℕ) → length xs ≡ length ys → fold bit_xor (bit_xor s t) (zip2 bit_xor xs ys) ≡ bit_xor (fold bit_xor s xs) (fold bit_xor t ys)
lanes_from s t [] [] e = refl
lanes_from s t [] (y ∷ ys) e = absurd (omega arith)
lanes_from s t (x ∷ xs) [] e = absurd (omega arith)
lanes_from s t (x ∷ xs) (y ∷ ys) e =
    ap (λ z. fold bit_xor z (zip2 bit_xor xs ys)) (exchange s t x y) ∙ lanes_from (bit_xor s x) (bit_xor t y) xs ys (omega arith)

-- two vectors, lane by lane
pub of_lanes : (xs ys : List ℕ) → length xs ≡ length ys → sum_of (zip2 bit_xor xs ys) ≡ bit_xor (sum_of xs) (sum_of ys)
of_lanes xs ys e = lanes_from 0 0 xs ys e

-- the blocks of n bytes, lane by lane
pub of_blocks : (n k : ℕ) (sum xs : List ℕ) → length sum ≡ n → k * n ≤ length xs
    → sum_of (fold (zip2 bit_xor) sum (first_chunks n k xs)) ≡ bit_xor (sum_of sum) (sum_of (take (k * n) xs))
of_blocks n zero sum xs long room =
    let none : 0 * n ≡ 0 = omega arith in
    sym (ap (λ m. bit_xor (sum_of sum) (sum_of (take m xs))) none ∙ xor_zero_r (sum_of sum))
of_blocks n (suc k) sum xs long room =
    let all : suc k * n ≡ n + k * n = omega arith in
    let block : length (take n xs) ≡ n = length-chunk 0 n xs (omega arith) in
    let next = length-zip2 bit_xor sum (take n xs) (omega arith) in
    of_blocks n k (zip2 bit_xor sum (take n xs)) (drop n xs) (omega arith) (omega (arith, length-drop n xs))
    ∙ ap (λ y. bit_xor y (sum_of (take (k * n) (drop n xs)))) (of_lanes sum (take n xs) (omega arith))
    ∙ xor_assoc (sum_of sum) (sum_of (take n xs)) (sum_of (take (k * n) (drop n xs)))
    ∙ ap (bit_xor (sum_of sum)) (sym (ap (λ m. sum_of (take m xs)) all ∙ ap sum_of (take-add n (k * n) xs) ∙ of_append (take n xs) (take (k * n) (drop n xs))))

-- that has as many lanes
pub length-blocks : (n k : ℕ) (sum xs : List ℕ) → length sum ≡ n → k * n ≤ length xs → length (fold (zip2 bit_xor) sum (first_chunks n k xs)) ≡ n
length-blocks n zero sum xs long room = long
length-blocks n (suc k) sum xs long room =
    let all : suc k * n ≡ n + k * n = omega arith in
    let block : length (take n xs) ≡ n = length-chunk 0 n xs (omega arith) in
    let next = length-zip2 bit_xor sum (take n xs) (omega arith) in
    length-blocks n k (zip2 bit_xor sum (take n xs)) (drop n xs) (omega arith) (omega (arith, length-drop n xs))

-- the lanes from place `from` on, and 0 instead of those before it
abbrev lanes_at : ℕ → ℕ → ℕ → List ℕ → List ℕ
lanes_at from a n xs = sel_l (map (top 7) (zip2 (λ (p q : ℕ). cond (leb q p) 255 0) (range_with_len a n) (replicate n from))) xs (replicate n 0)

-- one lane, where b says whether it is kept
lane : (b : Bool) (from a x s : ℕ) (more xs : List ℕ) → leb from a ≡ b → ((t : ℕ) → fold bit_xor t more ≡ fold bit_xor t (drop (from - (a + 1)) xs))
    → fold bit_xor (bit_xor s (cond (top 7 (cond b 255 0)) x 0)) more ≡ fold bit_xor s (drop (from - a) (x ∷ xs))
lane true from a x s more xs e rest =
    let here : from - a ≡ 0 = grind (arith, nat_tests) in
    let beyond : from - (a + 1) ≡ 0 = omega arith in
    rest (bit_xor s x) ∙ ap (λ k. fold bit_xor (bit_xor s x) (drop k xs)) beyond ∙ sym (ap (λ k. fold bit_xor s (drop k (x ∷ xs))) here)
lane false from a x s more xs e rest =
    let here : from - a ≡ suc (from - (a + 1)) = grind (arith, nat_tests) in
    ap (λ t. fold bit_xor t more) (xor_zero_r s) ∙ rest s ∙ sym (ap (λ k. fold bit_xor s (drop k (x ∷ xs))) here)

from_place : (from a n s : ℕ) (xs : List ℕ) → length xs ≡ n → fold bit_xor s (lanes_at from a n xs) ≡ fold bit_xor s (drop (from - a) xs)
from_place from a zero s [] long = ap (fold bit_xor s) (sym (drop-nil (from - a)))
from_place from a (suc n) s [] long = absurd (omega arith)
from_place from a zero s (x ∷ xs) long = absurd (omega arith)
from_place from a (suc n) s (x ∷ xs) long =
    lane (leb from a) from a x s (lanes_at from (a + 1) n xs) xs refl (λ t. from_place from (a + 1) n t xs (omega arith))

-- of n lanes those from a place on
pub of_lanes_from : (from n : ℕ) (xs : List ℕ) → length xs ≡ n → sum_of (lanes_at from 0 n xs) ≡ sum_of (drop from xs)
of_lanes_from from n xs long =
    let all : from - 0 ≡ from = omega arith in
    from_place from 0 n 0 xs long ∙ ap (λ k. sum_of (drop k xs)) all
