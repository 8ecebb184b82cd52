-- The fields of bits that are written field by field.
use Rattle.std.proofs.Common.{◌≡◌, ℕ, zero, suc, ◌+◌, ◌-◌, ◌^◌, ◌≤◌, ◌<◌, Bool, true, false, nat_lt, nat_le, List, [], ◌∷◌, ◌++◌, append-nil, length, take, drop, Option, Some, None, IfSome, unwrap_or, ℤ, pos, negsuc, unsigned_abs, refl, ap, sym, ◌∙◌, arith, ◌&&◌, length-append, Result, Ok, Err, IfOk, get_or, slice_get}
use Rattle.std.proofs.Math.Nat.{mod-eq_of_lt, one-le-pow}
use Rattle.std.proofs.Math.Pow.{pow_mono}
use Rattle.std.proofs.lemmas.Grind.{flat_map-append}
use Rattle.std.proofs.lemmas.Int.{ints}
use Rattle.std.proofs.lemmas.Bool.Decides.{nat_tests}
use Rattle.aivdm.specs.BitFields.{binary, complement, bits_value, unsigned_at}
use Rattle.aivdm.proofs.BitLists.{length-binary, number_of-binary}
use Rattle.ais_messages.specs.MessageFields.{below, place_of}
use Rattle.ais_messages.specs.PositionWriting.{AllFit, Fits, IfPlace, Written, bits_written, code_of, latitude_code, longitude_code}

pub bits_written-push : (fields : List Written) (next : Written) → bits_written (fields ++ next ∷ []) ≡ bits_written fields ++ binary next.0 next.1
bits_written-push fields next =
    flat_map-append (λ (f : Written). binary f.0 f.1) fields (next ∷ []) ∙ ap (λ l. bits_written fields ++ l) (append-nil (binary next.0 next.1))

-- the bit at which a field begins
unfoldable pub first_of : List Written → ℕ → ℕ
first_of [] k = 0
first_of (f ∷ fs) zero = 0
first_of (f ∷ fs) (suc k) = f.0 + first_of fs k

take_front : {X : Type 0} (xs ys : List X) → take (length xs) (xs ++ ys) ≡ xs
take_front [] ys = refl
take_front (x ∷ xs) ys = ap (λ l. x ∷ l) (take_front xs ys)

drop_front : {X : Type 0} (xs ys : List X) (n : ℕ) → drop (length xs + n) (xs ++ ys) ≡ drop n ys
drop_front [] ys n = ap (λ m. drop m ys) (omega arith)
drop_front (x ∷ xs) ys n =
    let here : length (x ∷ xs) + n ≡ suc (length xs + n) = omega arith in
    ap (λ m. drop m ((x ∷ xs) ++ ys)) here ∙ drop_front xs ys n

-- the value of a field that is written
pub written_at : (fields : List Written) (k width value : ℕ) → slice_get fields k ≡ Some (width, value) → value < 2 ^ width
    → unsigned_at (bits_written fields) (first_of fields k) width ≡ value
unfolding first_of
written_at [] k width value found fits = cc found
written_at (f ∷ fs) zero width value found fits =
    let is : f ≡ (width, value) = cc found in
    let front : take width (binary width value ++ bits_written fs) ≡ binary width value =
    ap (λ n. take n (binary width value ++ bits_written fs)) (sym (length-binary width value)) ∙ take_front (binary width value) (bits_written fs) in
    ap (λ (g : Written). bits_value (take width (binary g.0 g.1 ++ bits_written fs))) is
    ∙ ap bits_value front ∙ number_of-binary width value ∙ mod-eq_of_lt fits
written_at (f ∷ fs) (suc k) width value found fits =
    let behind : drop (f.0 + first_of fs k) (binary f.0 f.1 ++ bits_written fs) ≡ drop (first_of fs k) (bits_written fs) =
    ap (λ n. drop (n + first_of fs k) (binary f.0 f.1 ++ bits_written fs)) (sym (length-binary f.0 f.1)) ∙ drop_front (binary f.0 f.1) (bits_written fs) (first_of fs k) in
    ap (λ (l : List Bool). bits_value (take width l)) behind ∙ written_at fs k width value found fits

pub half_power : (width : ℕ) → 1 ≤ width → 2 ^ (width - 1) ≤ 2 ^ width
half_power width some = let less : width - 1 ≤ width = omega arith in pow_mono less

-- each field fits
pub fit_at : (fields : List Written) (k : ℕ) → AllFit fields → k < length fields → Fits (get_or fields k (0, 0))
fit_at [] k fit within = absurd (omega arith)
fit_at (f ∷ fs) zero fit within = fit.0
fit_at (f ∷ fs) (suc k) fit within = fit_at fs k fit.1 (omega arith)

-- how many bits fields have
unfoldable pub widths_of : List Written → ℕ
widths_of [] = 0
widths_of (f ∷ fs) = f.0 + widths_of fs

pub length-written : (fields : List Written) → length (bits_written fields) ≡ widths_of fields
unfolding widths_of
length-written [] = refl
length-written (f ∷ fs) = omega (arith, length-append (binary f.0 f.1) (bits_written fs), length-binary f.0 f.1, length-written fs)

-- ---- values that may not be available

pub below_is : (limit absent : ℕ) (value : Option ℕ) → limit ≤ absent → IfSome value (λ n. n < limit) → below limit (unwrap_or value absent) ≡ value
below_is limit absent None far within = let test : nat_lt absent limit ≡ false = grind (arith, nat_tests) in rw test refl
below_is limit absent (Some n) far within = let test : nat_lt n limit ≡ true = grind (arith, nat_tests) in rw test refl

latitude_is : (z : ℤ) → unsigned_abs z ≤ 54000000 → complement 27 (code_of 27 z) ≡ z
latitude_is (pos n) small = let test : nat_lt n (2 ^ 26) ≡ true = grind (arith, nat_tests) in rw test refl
latitude_is (negsuc n) small =
    let test : nat_lt (2 ^ 27 - (n + 1)) (2 ^ 26) ≡ false = grind (arith, nat_tests) in
    rw test (omega (arith, ints))

longitude_is : (z : ℤ) → unsigned_abs z ≤ 108000000 → complement 28 (code_of 28 z) ≡ z
longitude_is (pos n) small = let test : nat_lt n (2 ^ 27) ≡ true = grind (arith, nat_tests) in rw test refl
longitude_is (negsuc n) small =
    let test : nat_lt (2 ^ 28 - (n + 1)) (2 ^ 27) ≡ false = grind (arith, nat_tests) in
    rw test (omega (arith, ints))

pub place_is : (place : Option (ℤ × ℤ)) → IfPlace place → place_of (complement 27 (latitude_code place)) (complement 28 (longitude_code place)) ≡ place
place_is None there = refl
place_is (Some place) there =
    let test : nat_le (unsigned_abs place.0) 54000000 && nat_le (unsigned_abs place.1) 108000000 ≡ true = grind (arith, nat_tests, there.0, there.1) in
    (λ i. place_of (latitude_is place.0 there.0 i) (longitude_is place.1 there.1 i)) ∙ rw test refl

pub IfOk-weaker : {A E : Type 0} {P Q : A → Type 0} (r : Result A E) → ((v : A) → P v → Q v) → IfOk r P → IfOk r Q
IfOk-weaker (Ok v) f p = f v p
IfOk-weaker (Err e) f p = tt

pub below_half : (width n : ℕ) → 1 ≤ width → n ≤ 2 ^ (width - 1) - 1 → n < 2 ^ width
below_half width n some small =
    let half : 1 ≤ 2 ^ (width - 1) = one-le-pow (width - 1) 2 (omega arith) in
    omega (arith, small, half, half_power width some)
