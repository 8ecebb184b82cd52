-- Runs of decimal digits.
use Rattle.std.proofs.Common.{◌≡◌, ℕ, ◌+◌, ◌-◌, ◌*◌, ◌^◌, ◌<◌, ◌≤◌, Bool, true, false, List, [], ◌∷◌, length, get_or, take, refl, arith, one-add, ◌∙◌, ap}
use Rattle.std.specs.Char.{is_ascii_digit, digit_value}
use Rattle.std.specs.List.{prefix_len}
use Rattle.std.specs.Str.Parse.{AllDigits, digits_value}
use Rattle.std.proofs.lemmas.Bool.Decides.{nat_tests}
use Rattle.std.proofs.lemmas.Int.Digits.{digits_value_more, digits_value-lt}
use Rattle.std.proofs.lemmas.Str.Parse.{digit_at, digits_value-take-le}
use Rattle.std.proofs.Math.Nat.{pow-le-pow_right}

digit_is : (c : ℕ) → 48 ≤ c → c ≤ 57 → digit_value c ≡ c - 48
digit_is c low high = grind (arith, nat_tests)

digit_below : (c : ℕ) → is_ascii_digit c ≡ true → digit_value c < 10
digit_below c h = grind (arith, nat_tests)

-- the longest run of digits at the front has only digits
pub front_digits : (bs : List ℕ) → AllDigits 10 (take (prefix_len is_ascii_digit bs) bs)
front_digits [] = tt
front_digits (b ∷ bs) = within (is_ascii_digit b) refl (front_digits bs)
  where
    within : (t : Bool) → is_ascii_digit b ≡ t → AllDigits 10 (take (prefix_len is_ascii_digit bs) bs) → AllDigits 10 (take (prefix_len is_ascii_digit (b ∷ bs)) (b ∷ bs))
    within true e h = rw (e, one-add) (digit_below b e, h)
    within false e h = rw e tt

pub digits_step : (run : List ℕ) (i : ℕ) → AllDigits 10 run → i < length run →
    digits_value 10 (take (i + 1) run) ≡ digits_value 10 (take i run) * 10 + (get_or run i 0 - 48)
digits_step run i h lt =
    let range = digit_at run i h lt in
    digits_value_more 10 run i lt ∙ ap (λ d. digits_value 10 (take i run) * 10 + d) (digit_is (get_or run i 0) range.0 range.1)

pub digit_least : (run : List ℕ) (i : ℕ) → AllDigits 10 run → i < length run → 48 ≤ get_or run i 0
digit_least run i h lt = (digit_at run i h lt).0

pub digits_small : (run : List ℕ) (i : ℕ) → AllDigits 10 run → length run ≤ 9 → digits_value 10 (take i run) < 1000000000
digits_small run i h short =
    let more = digits_value-take-le 10 run i (omega arith) in
    let all = digits_value-lt 10 run h in
    let ten : 0 < 10 = omega arith in
    let nine : 10 ^ length run ≤ 10 ^ 9 = pow-le-pow_right ten short in
    omega arith
