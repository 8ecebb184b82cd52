-- What kinds of tokens a text that is made of tokens has.
use Rattle.std.proofs.Common.{◌≡◌, ℕ, zero, suc, ◌+◌, ◌-◌, ◌<◌, ◌≤◌, ◌^◌, Bool, true, false, cond, List, [], ◌∷◌, ◌++◌, length, refl, ◌∙◌, ap, None, arith}
use Rattle.std.specs.Prelude.{◌==◌, ◌&&◌, nat_le, codes, take_while}
use Rattle.std.specs.Char.{is_ascii_digit, digit_value}
use Rattle.std.specs.Fmt.{decimal}
use Rattle.std.specs.List.{list_all}
use Rattle.std.specs.Str.Parse.{AllDigits, digits_value}
use Rattle.std.proofs.lemmas.Bool.Decides.{nat_tests}
use Rattle.std.proofs.lemmas.Fmt.{decimal_is_IsNumeral, length-decimal-le}
use Rattle.std.proofs.lemmas.List.{drop_at}
use Rattle.std.proofs.lemmas.List.Sums.{take_while-cons}
use Rattle.std.proofs.lemmas.Str.Parse.{digit_from_value}
use Rattle.mtl_formulas.specs.declared.atom.Atom.{Atom}
use Rattle.mtl_formulas.specs.declared.atom.Atom.TheVariants.{Always, Never, Seen, Risk, Engaged, Begin, Overtaking, Overtaken, HeadOn, CrossingGives, CrossingStands, Passing, Unclassified, Age, Opening, Clear, Close, OtherOnPort, Ahead, Alters, Apparent, ToStarboard, ToPort, OtherApparent, RankGives, RankStands, BothPower}
use Rattle.mtl_language.specs.declared.tokens.Token.{Token}
use Rattle.mtl_language.specs.declared.tokens.Token.TheVariants as tokens
use Rattle.mtl_language.specs.AtomWords.{word_of, atom_number}
use Rattle.mtl_language.specs.FormulaTokens.{is_letter, is_word_byte, word_token, front_run, run_token, tokens_from, kinds}
use Rattle.mtl_language.proofs.TokenSteps.{tokens_behind}

-- The index does not matter to the kinds.
kinds_anywhere : (behind p q : ℕ) (bs : List ℕ) → kinds (tokens_from behind p bs) ≡ kinds (tokens_from behind q bs)
kinds_anywhere behind p q [] = refl
kinds_anywhere (suc behind) p q (b ∷ bs) = kinds_anywhere behind (p + 1) (q + 1) bs
kinds_anywhere zero p q (b ∷ bs) = by_cases (b == 32) (kinds_anywhere 0 (p + 1) (q + 1) bs) (kinds_anywhere (length (front_run (b ∷ bs)) - 1) (p + 1) (q + 1) bs)
  where
    by_cases : (space : Bool) → kinds (tokens_from 0 (p + 1) bs) ≡ kinds (tokens_from 0 (q + 1) bs) →
        kinds (tokens_from (length (front_run (b ∷ bs)) - 1) (p + 1) bs) ≡ kinds (tokens_from (length (front_run (b ∷ bs)) - 1) (q + 1) bs) →
        kinds (cond space (tokens_from 0 (p + 1) bs) (record { token = run_token (front_run (b ∷ bs)); index = p } ∷ tokens_from (length (front_run (b ∷ bs)) - 1) (p + 1) bs))
        ≡ kinds (cond space (tokens_from 0 (q + 1) bs) (record { token = run_token (front_run (b ∷ bs)); index = q } ∷ tokens_from (length (front_run (b ∷ bs)) - 1) (q + 1) bs))
    by_cases true h k = h
    by_cases false h k = ap (λ (ts : List Token). run_token (front_run (b ∷ bs)) ∷ ts) k

-- the kinds of the tokens of a text
abbrev pub text_kinds : List ℕ → List Token
text_kinds bs = kinds (tokens_from 0 0 bs)

pub space_kinds : (bs : List ℕ) → text_kinds (32 ∷ bs) ≡ text_kinds bs
space_kinds bs = kinds_anywhere 0 1 0 bs

-- a token at the front
pub run_kinds : (b : ℕ) (bs rest : List ℕ) → (b == 32) ≡ false → front_run (b ∷ (bs ++ rest)) ≡ b ∷ bs →
    text_kinds (b ∷ (bs ++ rest)) ≡ run_token (b ∷ bs) ∷ text_kinds rest
run_kinds b bs rest other run =
    let more : suc (length bs) - 1 ≡ length bs = omega arith in
    let tail : kinds (tokens_from (suc (length bs) - 1) 1 (bs ++ rest)) ≡ text_kinds rest =
    rw more (ap kinds (tokens_behind (length bs) 1 (bs ++ rest) ∙ ap (tokens_from 0 (1 + length bs)) (drop_at bs rest (length bs) refl)) ∙ kinds_anywhere 0 (1 + length bs) 0 rest) in
    rw (other, run) (ap (λ (ts : List Token). run_token (b ∷ bs) ∷ ts) tail)

-- The text does not begin with what passes.
abbrev pub Stops : (ℕ → Bool) → List ℕ → Type 0
Stops p [] = Unit {0}
Stops p (b ∷ bs) = p b ≡ false

both_true : (x y : Bool) → (x && y) ≡ true → (x ≡ true) × (y ≡ true)
both_true true y h = (refl, h)
both_true false y h = cc

front_while : (p : ℕ → Bool) (front rest : List ℕ) → list_all p front ≡ true → Stops p rest → take_while p (front ++ rest) ≡ front
front_while p [] [] h stop = refl
front_while p [] (b ∷ bs) h stop = take_while-cons p b bs ∙ rw stop refl
front_while p (c ∷ cs) rest h stop =
    let two = both_true (p c) (list_all p cs) h in
    take_while-cons p c (cs ++ rest) ∙ (rw (two.0) (ap (λ (xs : List ℕ). c ∷ xs) (front_while p cs rest two.1 stop)))

when_true : {A : Type 0} (b : Bool) (x y : A) → b ≡ true → cond b x y ≡ x
when_true b x y h = rw h refl

when_false : {A : Type 0} (b : Bool) (x y : A) → b ≡ false → cond b x y ≡ y
when_false b x y h = rw h refl

letter_no_space : (b : ℕ) → is_letter b ≡ true → (b == 32) ≡ false
letter_no_space b h = grind (arith, nat_tests)

pub word_kinds : (b : ℕ) (bs rest : List ℕ) → is_letter b ≡ true → list_all is_word_byte (b ∷ bs) ≡ true → Stops is_word_byte rest →
    text_kinds (b ∷ (bs ++ rest)) ≡ word_token (b ∷ bs) ∷ text_kinds rest
word_kinds b bs rest letter all stop =
    run_kinds b bs rest (letter_no_space b letter) (when_true (is_letter b) _ _ letter ∙ front_while is_word_byte (b ∷ bs) rest all stop)
    ∙ ap (λ (t : Token). t ∷ text_kinds rest) (when_true (is_letter b) (word_token (b ∷ bs)) _ letter)

-- the word of an atom without a number
pub atom_kinds : (a : Atom) (rest : List ℕ) → atom_number a ≡ None → Stops is_word_byte rest → text_kinds (word_of a ++ rest) ≡ tokens.Atom a ∷ text_kinds rest
atom_kinds Always rest h stop = word_kinds 116 (codes "rue") rest refl refl stop
atom_kinds Never rest h stop = word_kinds 102 (codes "alse") rest refl refl stop
atom_kinds Seen rest h stop = word_kinds 115 (codes "een") rest refl refl stop
atom_kinds Risk rest h stop = word_kinds 114 (codes "isk") rest refl refl stop
atom_kinds Engaged rest h stop = word_kinds 101 (codes "ngaged") rest refl refl stop
atom_kinds Begin rest h stop = word_kinds 98 (codes "egin") rest refl refl stop
atom_kinds Overtaking rest h stop = word_kinds 111 (codes "vertaking") rest refl refl stop
atom_kinds Overtaken rest h stop = word_kinds 111 (codes "vertaken") rest refl refl stop
atom_kinds HeadOn rest h stop = word_kinds 104 (codes "ead_on") rest refl refl stop
atom_kinds CrossingGives rest h stop = word_kinds 99 (codes "rossing_gives") rest refl refl stop
atom_kinds CrossingStands rest h stop = word_kinds 99 (codes "rossing_stands") rest refl refl stop
atom_kinds Passing rest h stop = word_kinds 112 (codes "assing") rest refl refl stop
atom_kinds Unclassified rest h stop = word_kinds 117 (codes "nclassified") rest refl refl stop
atom_kinds Opening rest h stop = word_kinds 111 (codes "pening") rest refl refl stop
atom_kinds OtherOnPort rest h stop = word_kinds 111 (codes "ther_on_port") rest refl refl stop
atom_kinds Ahead rest h stop = word_kinds 97 (codes "head") rest refl refl stop
atom_kinds Alters rest h stop = word_kinds 97 (codes "lters") rest refl refl stop
atom_kinds Apparent rest h stop = word_kinds 97 (codes "pparent") rest refl refl stop
atom_kinds ToStarboard rest h stop = word_kinds 116 (codes "o_starboard") rest refl refl stop
atom_kinds ToPort rest h stop = word_kinds 116 (codes "o_port") rest refl refl stop
atom_kinds OtherApparent rest h stop = word_kinds 111 (codes "ther_apparent") rest refl refl stop
atom_kinds RankGives rest h stop = word_kinds 114 (codes "ank_gives") rest refl refl stop
atom_kinds RankStands rest h stop = word_kinds 114 (codes "ank_stands") rest refl refl stop
atom_kinds BothPower rest h stop = word_kinds 98 (codes "oth_power") rest refl refl stop
atom_kinds (Age n) rest h stop = cc
atom_kinds (Clear n) rest h stop = cc
atom_kinds (Close n) rest h stop = cc

digit_is : (b : ℕ) → digit_value b < 10 → is_ascii_digit b ≡ true
digit_is b h = let r = digit_from_value b h in grind (arith, nat_tests)

digit_no_letter : (b : ℕ) → digit_value b < 10 → is_letter b ≡ false
digit_no_letter b h = let r = digit_from_value b h in grind (arith, nat_tests)

digit_no_space : (b : ℕ) → digit_value b < 10 → (b == 32) ≡ false
digit_no_space b h = let r = digit_from_value b h in grind (arith, nat_tests)

all_digits : (ds : List ℕ) → AllDigits 10 ds → list_all is_ascii_digit ds ≡ true
all_digits [] h = refl
all_digits (d ∷ ds) h = rw (digit_is d h.0, all_digits ds h.1) refl

no_digit : (rest : List ℕ) → Stops is_word_byte rest → Stops is_ascii_digit rest
no_digit [] h = tt
no_digit (b ∷ bs) h = grind (arith, nat_tests)

digits_kinds : (ds rest : List ℕ) → AllDigits 10 ds → 0 < length ds → length ds ≤ 9 → Stops is_word_byte rest →
    text_kinds (ds ++ rest) ≡ tokens.Number (digits_value 10 ds) ∷ text_kinds rest
digits_kinds [] rest h some short stop = absurd (omega arith)
digits_kinds (d ∷ ds) rest h some short stop =
    let nine : nat_le (length (d ∷ ds)) 9 ≡ true = grind (arith, nat_tests) in
    let run : front_run (d ∷ (ds ++ rest)) ≡ d ∷ ds =
    when_false (is_letter d) _ _ (digit_no_letter d h.0)
    ∙ (when_true (is_ascii_digit d) _ _ (digit_is d h.0) ∙ front_while is_ascii_digit (d ∷ ds) rest (all_digits (d ∷ ds) h) (no_digit rest stop)) in
    let token : run_token (d ∷ ds) ≡ tokens.Number (digits_value 10 (d ∷ ds)) =
    when_false (is_letter d) _ _ (digit_no_letter d h.0)
    ∙ (when_true (is_ascii_digit d) _ _ (digit_is d h.0) ∙ when_true (nat_le (length (d ∷ ds)) 9) _ _ nine) in
    run_kinds d ds rest (digit_no_space d h.0) run ∙ ap (λ (t : Token). t ∷ text_kinds rest) token

-- a number in decimal
pub number_kinds : (n : ℕ) (rest : List ℕ) → n < 1000000000 → Stops is_word_byte rest → text_kinds (decimal n ++ rest) ≡ tokens.Number n ∷ text_kinds rest
number_kinds n rest small stop =
    let wide : n < 2 ^ 64 = omega arith in
    let nine : n < 10 ^ 9 = omega arith in
    let numeral = decimal_is_IsNumeral n wide in
    digits_kinds (decimal n) rest numeral.0.1 numeral.0.0 (length-decimal-le 9 n (omega arith) nine wide) stop
    ∙ ap (λ v. tokens.Number v ∷ text_kinds rest) numeral.1
