-- The token at the front of a text, by its first byte.
use Rattle.std.proofs.Common.{◌≡◌, ℕ, ◌+◌, ◌<◌, ◌≤◌, true, false, List, [], ◌∷◌, length, get_or, take, refl, sym, arith, one-add, ◌∙◌, ap}
use Rattle.std.specs.Prelude.{◌==◌, codes}
use Rattle.std.specs.Char.{is_ascii_digit}
use Rattle.std.specs.List.{prefix_len}
use Rattle.std.specs.Str.{bytes_eq}
use Rattle.std.proofs.Math.Bool.{and-false}
use Rattle.std.proofs.lemmas.Bool.Decides.{same_from_decides}
use Rattle.std.proofs.lemmas.Slice.Eq.{bytes_eq-Decides}
use Rattle.std.proofs.lemmas.List.Folds.{length-prefix_len}
use Rattle.std.proofs.lemmas.List.Sums.{prefix_len-le-length}
use Rattle.mtl_formulas.specs.declared.formula.PairKind.TheVariants.{Implies}
use Rattle.mtl_language.specs.declared.tokens.Token.{Token}
use Rattle.mtl_language.specs.declared.tokens.Token.TheVariants as tokens
use Rattle.mtl_language.specs.FormulaTokens.{is_letter, is_word_byte, word_token, number_token, sign_token, front_run, run_token}

pub record IsFront (bytes : List ℕ) (t : Token) (n : ℕ) : Type 0 where
  pub token : t ≡ run_token (front_run bytes)
  pub len : n ≡ length (front_run bytes)
  pub some : 0 < n
  pub within : n ≤ length bytes

bytes_eq_swapped : (xs ys : List ℕ) → bytes_eq xs ys ≡ bytes_eq ys xs
bytes_eq_swapped xs ys =
    let d = bytes_eq-Decides ys xs in
    same_from_decides (bytes_eq xs ys) (bytes_eq ys xs) (bytes_eq-Decides xs ys) (λ t. sym (d.0 t), λ p. d.1 (sym p))

pub front_word : (bytes : List ℕ) (t : Token) (n : ℕ) → 0 < length bytes → is_letter (get_or bytes 0 0) ≡ true →
    n ≡ prefix_len is_word_byte bytes → t ≡ word_token (take n bytes) → IsFront bytes t n
front_word [] t n some letter is told = absurd (omega arith)
front_word (b ∷ bs) t n some letter is told =
    let more = prefix_len is_word_byte bs in
    let long : n ≡ 1 + more = is ∙ rw letter refl in
    let run : front_run (b ∷ bs) ≡ b ∷ take more bs = rw (letter, one-add) refl in
    let taken : take n (b ∷ bs) ≡ b ∷ take more bs = rw (long, one-add) refl in
    let same : run_token (b ∷ take more bs) ≡ word_token (b ∷ take more bs) = rw letter refl in
    record {
      token = told ∙ (ap word_token taken ∙ (sym same ∙ ap run_token (sym run)));
      len = rw run (omega (arith, length-prefix_len is_word_byte bs));
      some = omega arith;
      within = omega (arith, prefix_len-le-length is_word_byte bs);
    }

pub front_number : (bytes : List ℕ) (t : Token) (n : ℕ) → 0 < length bytes → is_letter (get_or bytes 0 0) ≡ false → is_ascii_digit (get_or bytes 0 0) ≡ true →
    n ≡ prefix_len is_ascii_digit bytes → t ≡ number_token (take n bytes) → IsFront bytes t n
front_number [] t n some letter digit is told = absurd (omega arith)
front_number (b ∷ bs) t n some letter digit is told =
    let more = prefix_len is_ascii_digit bs in
    let long : n ≡ 1 + more = is ∙ rw digit refl in
    let run : front_run (b ∷ bs) ≡ b ∷ take more bs = rw (letter, digit, one-add) refl in
    let taken : take n (b ∷ bs) ≡ b ∷ take more bs = rw (long, one-add) refl in
    let same : run_token (b ∷ take more bs) ≡ number_token (b ∷ take more bs) = rw (letter, digit) refl in
    record {
      token = told ∙ (ap number_token taken ∙ (sym same ∙ ap run_token (sym run)));
      len = rw run (omega (arith, length-prefix_len is_ascii_digit bs));
      some = omega arith;
      within = omega (arith, prefix_len-le-length is_ascii_digit bs);
    }

pub front_arrow : (bytes : List ℕ) → 0 < length bytes → is_letter (get_or bytes 0 0) ≡ false → is_ascii_digit (get_or bytes 0 0) ≡ false →
    bytes_eq (codes "->") (take 2 bytes) ≡ true → 2 ≤ length bytes → IsFront bytes (tokens.Pair Implies) 2
front_arrow [] some letter digit arrow long = absurd (omega arith)
front_arrow (b ∷ bs) some letter digit arrow long =
    let run : front_run (b ∷ bs) ≡ codes "->" = rw (letter, digit, bytes_eq_swapped (take 2 (b ∷ bs)) (codes "->"), arrow) refl in
    record {
      token = rw run refl;
      len = rw run refl;
      some = omega arith;
      within = long;
    }

pub front_sign : (bytes : List ℕ) (t : Token) → 0 < length bytes → is_letter (get_or bytes 0 0) ≡ false → is_ascii_digit (get_or bytes 0 0) ≡ false →
    bytes_eq (codes "->") (take 2 bytes) ≡ false → t ≡ sign_token (get_or bytes 0 0) → IsFront bytes t 1
front_sign [] t some letter digit arrow told = absurd (omega arith)
front_sign (b ∷ bs) t some letter digit arrow told =
    let run : front_run (b ∷ bs) ≡ b ∷ [] = rw (letter, digit, bytes_eq_swapped (take 2 (b ∷ bs)) (codes "->"), arrow) refl in
    let same : run_token (b ∷ []) ≡ sign_token b = rw (letter, digit, and-false (b == 45)) refl in
    record {
      token = told ∙ (sym same ∙ ap run_token (sym run));
      len = rw run refl;
      some = omega arith;
      within = omega arith;
    }
