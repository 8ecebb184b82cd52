-- The tokens of a text, one token on.
use Rattle.std.proofs.Common.{◌≡◌, ◌≢◌, ℕ, zero, suc, ◌+◌, ◌-◌, ◌<◌, false, List, [], ◌∷◌, ◌++◌, length, get_or, drop, refl, sym, ◌∙◌, ap, arith, add-zero, append_assoc}
use Rattle.std.specs.Prelude.{◌==◌}
use Rattle.std.proofs.lemmas.Bool.Decides.{nat_tests}
use Rattle.std.proofs.lemmas.List.{drop_more, drop-drop}
use Rattle.mtl_language.specs.declared.tokens.IndexedToken.{IndexedToken}
use Rattle.mtl_language.specs.declared.tokens.Token.{Token}
use Rattle.mtl_language.specs.FormulaTokens.{tokens_from, front_run, run_token}

-- the bytes of a token before are left out
pub tokens_behind : (behind index : ℕ) (bs : List ℕ) → tokens_from behind index bs ≡ tokens_from 0 (index + behind) (drop behind bs)
tokens_behind zero index bs = ap (λ p. tokens_from 0 p bs) (sym (add-zero index))
tokens_behind (suc behind) index [] = refl
tokens_behind (suc behind) index (b ∷ bs) = tokens_behind behind (index + 1) bs ∙ ap (λ p. tokens_from 0 p (drop behind bs)) (omega arith)

abbrev indexed : Token → ℕ → IndexedToken
indexed t p = record { token = t; index = p }

module _ (text : List ℕ) (at : ℕ) (inside : at < length text) where
  front_is : drop at text ≡ get_or text at 0 ∷ drop (at + 1) text
  front_is = drop_more text at 0 inside

  tokens_step : (len : ℕ) → get_or text at 0 ≢ 32 → len ≡ length (front_run (drop at text)) → 0 < len →
      tokens_from 0 at (drop at text) ≡ indexed (run_token (front_run (drop at text))) at ∷ tokens_from 0 (at + len) (drop (at + len) text)
  tokens_step len other is some =
      let no : (get_or text at 0 == 32) ≡ false = grind (arith, nat_tests) in
      let run = front_run (get_or text at 0 ∷ drop (at + 1) text) in
      let same : len ≡ length run = is ∙ ap (λ xs. length (front_run xs)) front_is in
      let more : at + 1 + (length run - 1) ≡ at + len = omega arith in
      rw front_is (rw no (ap (λ xs. indexed (run_token run) at ∷ xs)
      (tokens_behind (length run - 1) (at + 1) (drop (at + 1) text) ∙ (rw drop-drop (ap (λ n. tokens_from 0 n (drop n text)) more)))))

  -- the tokens so far and those to come are all of them, with one more token so far
  pub tokens_push : (before all : List IndexedToken) (t : Token) (len : ℕ) → before ++ tokens_from 0 at (drop at text) ≡ all →
      get_or text at 0 ≢ 32 → t ≡ run_token (front_run (drop at text)) → len ≡ length (front_run (drop at text)) → 0 < len →
      (before ++ indexed t at ∷ []) ++ tokens_from 0 (at + len) (drop (at + len) text) ≡ all
  tokens_push before all t len told other kind is some =
      append_assoc before (indexed t at ∷ []) (tokens_from 0 (at + len) (drop (at + len) text))
      ∙ (ap (λ k. before ++ indexed k at ∷ tokens_from 0 (at + len) (drop (at + len) text)) kind
      ∙ (ap (λ xs. before ++ xs) (sym (tokens_step len other is some)) ∙ told))
