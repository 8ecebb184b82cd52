-- What stands before and after the first of some byte.
use Rattle.std.proofs.Common.{◌≡◌, ◌==◌, ℕ, ◌+◌, ◌<◌, false, List, [], ◌∷◌, ◌++◌, length, get_or, get_or-take, All, refl, sym, ap₂, ◌∙◌, arith, eq-eqb, inl, inr, length-append, length-take, drop-drop}
use Rattle.std.proofs.lemmas.Bool.{cases_lt, eqb-true}
use Rattle.std.proofs.lemmas.List.{drop_all, drop_at, take_at, get_or_append_left}
use Rattle.std.proofs.lemmas.List.Sums.{split_at_first, fails_before_first, passes_at_first, position_or_len_is}
use Rattle.std.proofs.Math.Seq.{get_or-append_seam}
use Rattle.std.specs.List.{position_or_len}
use Rattle.aivdm.specs.Inner.LineCuts.{before_byte, after_byte}

-- none of the bytes is this one
abbrev pub Lacks : ℕ → List ℕ → Type 0
Lacks byte bytes = All (λ other. (other == byte) ≡ false) bytes

place_of : (byte : ℕ) (xs ys : List ℕ) → Lacks byte xs → position_or_len (λ other. other == byte) (xs ++ byte ∷ ys) ≡ length xs
place_of byte xs ys none =
    position_or_len_is (λ other. other == byte) (xs ++ byte ∷ ys) (length xs) 0
    (omega (arith, length-append xs (byte ∷ ys)))
    (λ k below. rw (get_or_append_left xs (byte ∷ ys) 0 k below) (none k 0 below))
    (λ more. rw (get_or-append_seam xs byte ys 0) (eq-eqb byte byte refl))

pub before-cut : (byte : ℕ) (xs ys : List ℕ) → Lacks byte xs → before_byte byte (xs ++ byte ∷ ys) ≡ xs
before-cut byte xs ys none = rw (place_of byte xs ys none) (take_at xs (byte ∷ ys) (length xs) refl)

pub after-cut : (byte : ℕ) (xs ys : List ℕ) → Lacks byte xs → after_byte byte (xs ++ byte ∷ ys) ≡ ys
after-cut byte xs ys none =
    rw (place_of byte xs ys none, ← drop-drop 1 (length xs) (xs ++ byte ∷ ys), drop_at xs (byte ∷ ys) (length xs) refl) refl

-- if something stands after the byte, it is there
pub cut-whole : (byte : ℕ) (bytes : List ℕ) (y : ℕ) (ys : List ℕ) → after_byte byte bytes ≡ y ∷ ys → bytes ≡ before_byte byte bytes ++ byte ∷ y ∷ ys
cut-whole byte bytes y ys e =
    let test = λ (other : ℕ). other == byte in
    let place = position_or_len test bytes in
    elim (cases_lt place (length bytes)) [
      | inl there ↦
          split_at_first test bytes 0 there
          ∙ ap₂ (λ (b : ℕ) (l : List ℕ). before_byte byte bytes ++ b ∷ l) (eqb-true (get_or bytes place 0) byte (passes_at_first test bytes 0 there)) e
      | inr past ↦ absurd (cons_no_nil (sym e ∙ drop_all (place + 1) bytes (omega arith)))
    ]
  where
    cons_no_nil : y ∷ ys ≡ [] → ⊥
    cons_no_nil h = cc

pub before-lacks : (byte : ℕ) (bytes : List ℕ) → Lacks byte (before_byte byte bytes)
before-lacks byte bytes k d below =
    let test = λ (other : ℕ). other == byte in
    let place = position_or_len test bytes in
    let short : k < place = omega (arith, length-take place bytes) in
    rw (get_or-take place bytes k d short) (fails_before_first test bytes k d short)
