-- Numbers in decimal digits.
use Rattle.std.proofs.Common.{◌≡◌, ◌<◌, ◌≤◌, ◌^◌, ℕ, true, false, List, [], ◌∷◌, refl, sym, arith, ne_eqb, decimal, ◌==◌}
use Rattle.std.proofs.lemmas.Fmt.{decimal_is_IsNumeral}
use Rattle.std.proofs.lemmas.Str.Parse.{digit_from_value, without_leading_plus_none}
use Rattle.std.specs.Str.Parse.{IsNumeral, digits_value, without_leading_plus}
use Rattle.clap.specs.ValueTests.{is_unsigned_in}
use Rattle.clap.specs.declared.builder.value_parser.ValueParser.TheVariants.{Unsigned}
use Rattle.clap.proofs.ValueTestLemmas.{Accepts-accepts}
use Rattle.command_line.specs.GivenArguments.{IsNumber, is_plain_text}

no_plus : (ds : List ℕ) → IsNumeral 10 ds → without_leading_plus ds ≡ ds
no_plus [] numeral = refl
no_plus (d ∷ ds) numeral =
    let digit = digit_from_value d numeral.1.0 in
    without_leading_plus_none (d ∷ ds) (λ e. omega arith)

-- what writes a number is read
decimal_read : (n : ℕ) → n < 2 ^ 64 → IsNumeral 10 (without_leading_plus (decimal n)) × (digits_value 10 (without_leading_plus (decimal n)) ≡ n)
decimal_read n small =
    let numeral = decimal_is_IsNumeral n small in
    let same : without_leading_plus (decimal n) ≡ decimal n = no_plus (decimal n) numeral.0 in
    rw same numeral

pub decimal_is_number : (n : ℕ) → n < 2 ^ 64 → IsNumber (decimal n) n
decimal_is_number n small = let read = decimal_read n small in (read.0, sym read.1)

-- digits begin with no `-`
pub decimal_is_plain : (n : ℕ) → n < 2 ^ 64 → is_plain_text (decimal n) ≡ true
decimal_is_plain n small = go (decimal n) (decimal_is_IsNumeral n small).0
  where
    go : (ds : List ℕ) → IsNumeral 10 ds → is_plain_text ds ≡ true
    go [] numeral = absurd (omega (arith, numeral.0))
    go (d ∷ ds) numeral =
        let digit = digit_from_value d numeral.1.0 in
        let minus : (d == 45) ≡ false = ne_eqb _ _ (λ e. omega arith) in
        rw minus refl

-- an option takes the number of its range
pub decimal_accepted : (low high n : ℕ) → n < 2 ^ 64 → low ≤ n → n ≤ high → is_unsigned_in low high (decimal n) ≡ true
decimal_accepted low high n small above below =
    let read = decimal_read n small in
    let value : digits_value 10 (without_leading_plus (decimal n)) ≡ n = read.1 in
    let fits : digits_value 10 (without_leading_plus (decimal n)) < 2 ^ 64 = rw value small in
    let from : low ≤ digits_value 10 (without_leading_plus (decimal n)) = rw value above in
    let to : digits_value 10 (without_leading_plus (decimal n)) ≤ high = rw value below in
    Accepts-accepts false (Unsigned low high) (decimal n) (read.0, fits, from, to)
