-- The place of a byte, and the parts of bytes round it.
use Rattle.std.proofs.Common.{◌≡◌, ℕ, zero, suc, ◌+◌, ◌-◌, ◌<◌, ◌≤◌, Bool, true, false, List, [], ◌∷◌, length, take, drop, get_or, All, Some, None, position, nat_lt, if◌then◌else◌, refl, ◌∙◌, arith, length-drop, take_all}
use Rattle.std.proofs.lemmas.Bool.{and_left, and_right, ltb-true, ltb-false}
use Rattle.std.proofs.lemmas.List.Splits.{slice_split_first, slice_split_none}
use Rattle.std.proofs.lemmas.List.Sums.{fails_before_first}
use Rattle.std.specs.List.{list_all, position_or_len, slice_split}

module _ (test : ℕ → Bool) (xs : List ℕ) where
  place_some : (at : ℕ) (b : Bool) → nat_lt (position_or_len test xs) (length xs) ≡ b → Some at ≡ (if b then Some (position_or_len test xs) else None) → (at ≡ position_or_len test xs) × (position_or_len test xs < length xs)
  place_some at true t e = (cc, ltb-true (position_or_len test xs) (length xs) t)
  place_some at false t e = absurd cc

  pub position-some : (at : ℕ) → Some at ≡ position test xs → (at ≡ position_or_len test xs) × (position_or_len test xs < length xs)
  position-some at e = place_some at (nat_lt (position_or_len test xs) (length xs)) refl e

  place_none : (b : Bool) → nat_lt (position_or_len test xs) (length xs) ≡ b → None ≡ (if b then Some (position_or_len test xs) else None) → length xs ≤ position_or_len test xs
  place_none true t e = absurd cc
  place_none false t e = ltb-false (position_or_len test xs) (length xs) t

  pub position-none : None ≡ position test xs → length xs ≤ position_or_len test xs
  position-none e = place_none (nat_lt (position_or_len test xs) (length xs)) refl e

  pub position-fails : None ≡ position test xs → All (λ x. test x ≡ false) xs
  position-fails e k d below = let past = position-none e in fails_before_first test xs k d (omega arith)

  -- the first part, and those after it
  pub split-some : (at : ℕ) → Some at ≡ position test xs → slice_split test xs ≡ take at xs ∷ slice_split test (take (length xs - (at + 1)) (drop (at + 1) xs))
  split-some at e =
      let place = position-some at e in
      let rest : take (length xs - (at + 1)) (drop (at + 1) xs) ≡ drop (at + 1) xs = take_all (length xs - (at + 1)) (drop (at + 1) xs) (omega (arith, length-drop (at + 1) xs)) in
      slice_split_first test xs 0 place.1 ∙ rw (← place.0, rest) refl

  pub split-none : None ≡ position test xs → slice_split test xs ≡ xs ∷ []
  split-none e = slice_split_none test xs (position-fails e)

-- one element that does not pass
pub list_all-fails : (test : ℕ → Bool) (xs : List ℕ) (i : ℕ) → i < length xs → test (get_or xs i 0) ≡ false → list_all test xs ≡ false
list_all-fails test [] i below h = absurd (omega arith)
list_all-fails test (x ∷ xs) zero below h = and_left (test x) (list_all test xs) h
list_all-fails test (x ∷ xs) (suc i) below h = and_right (test x) (list_all test xs) (list_all-fails test xs i (omega arith) h)
