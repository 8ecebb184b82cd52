-- Decimal digits, one after the other.
use Rattle.std.proofs.Common.{◌≡◌, ◌&&◌, ℕ, ◌-◌, ◌<◌, ◌≤◌, ◌^◌, true, List, [], ◌∷◌, length, get_or, take, drop, take-append-drop, refl, sym, ap, ◌∙◌, arith}
use Rattle.std.proofs.lemmas.Bool.{and_parts}
use Rattle.std.proofs.lemmas.Bool.Decides.{nat_tests}
use Rattle.std.proofs.lemmas.List.Folds.{list_all-append}
use Rattle.std.proofs.lemmas.List.Sums.{AllPass-from_list_all}
use Rattle.std.proofs.lemmas.Str.Parse.{IsNumeralModel, numerals_by_value, tells_all_ascii_digits, digits_value_short}
use Rattle.std.specs.Char.{digit_value, is_ascii_digit}
use Rattle.std.specs.Str.{all_ascii_digits}
use Rattle.std.specs.List.{list_all}
use Rattle.std.specs.Str.Parse.{digits_value}

pub numerals : IsNumeralModel (λ ds. all_ascii_digits ds ≡ true) (digits_value 10)
numerals = numerals_by_value (λ ds. all_ascii_digits ds ≡ true) tells_all_ascii_digits

pub digits-below : (digits : List ℕ) (k : ℕ) → all_ascii_digits digits ≡ true → length digits ≤ k → digits_value 10 digits < 10 ^ k
digits-below digits k all few = digits_value_short numerals digits k all few

pub digits_tests : (digits : List ℕ) → all_ascii_digits digits ≡ list_all is_ascii_digit digits
digits_tests [] = refl
digits_tests (digit ∷ digits) = ap (λ b. is_ascii_digit digit && b) (digits_tests digits)

pub digit_at : (digits : List ℕ) (i : ℕ) → i < length digits → all_ascii_digits digits ≡ true → is_ascii_digit (get_or digits i 0) ≡ true
digit_at digits i below all = AllPass-from_list_all is_ascii_digit digits (sym (digits_tests digits) ∙ all) i 0 below

-- those before a place
pub digits_before : (digits : List ℕ) (i : ℕ) → all_ascii_digits digits ≡ true → all_ascii_digits (take i digits) ≡ true
digits_before digits i all =
    digits_tests (take i digits)
    ∙ (and_parts _ _ (sym (list_all-append is_ascii_digit (take i digits) (drop i digits)) ∙ ap (list_all is_ascii_digit) (take-append-drop i digits) ∙ sym (digits_tests digits) ∙ all)).0

pub digit_is : (digit : ℕ) → is_ascii_digit digit ≡ true → digit_value digit ≡ digit - 48
digit_is digit h = grind (arith, nat_tests)

pub digit_from : (digit : ℕ) → is_ascii_digit digit ≡ true → 48 ≤ digit
digit_from digit h = grind (arith, nat_tests)
