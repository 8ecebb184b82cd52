-- The last element of a list, and one more element where there is one.
use Rattle.std.proofs.Common.{◌≡◌, ◌-◌, List, [], ◌∷◌, ◌++◌, length, Some, None, refl}
use native.Mathlib.Numerals.{unary_clauses}
use Rattle.std.specs.Prelude.{Option, IfSome, slice_get}
use Rattle.std.specs.List.{All, cons_option, last_or}
use Rattle.std.specs.Option.{option_to_list}
use Rattle.std.proofs.lemmas.List.Elements.{All-head, All-tail}

pub last_or-push : {A : Type 0} (o : Option A) (xs : List A) (x : A) → last_or o (xs ++ x ∷ []) ≡ Some x
last_or-push o [] x = refl
last_or-push o (y ∷ ys) x = last_or-push (Some y) ys x

last_of : {A : Type 0} (o : Option A) (x : A) (xs : List A) → slice_get (x ∷ xs) (length xs) ≡ last_or o (x ∷ xs)
last_of o x [] = refl
last_of o x (y ∷ ys) = last_of (Some x) y ys

-- the last element, read by its index
pub slice_get-last : {A : Type 0} (xs : List A) → slice_get xs (length xs - 1) ≡ last_or None xs
slice_get-last [] = refl
slice_get-last (x ∷ xs) = simp unary_clauses (last_of None x xs)

pub All-last : {A : Type 0} (P : A → Type 0) (o : Option A) (xs : List A) → IfSome o P → All P xs → IfSome (last_or o xs) P
All-last P o [] h all = h
All-last P o (x ∷ xs) h all = All-last P (Some x) xs (All-head P x xs all) (All-tail P x xs all)

pub cons_option-nil : {A : Type 0} (o : Option A) → cons_option o [] ≡ option_to_list o
cons_option-nil None = refl
cons_option-nil (Some x) = refl
