-- The result of the tests of a list: the first fault, or none.
use Rattle.std.specs.Prelude.{◌≡◌, List, [], ◌∷◌, ◌++◌, All, Option, Some, None}

-- The fault is that of some element, and no earlier element has a fault.
pub record IsFirst {A F : Type 0} (test : A → Option F → Type 0) (list : List A) (found : F) : Type 0 where
  pub before : List A
  pub here : A
  pub after : List A
  pub order : list ≡ before ++ (here ∷ after)
  pub faultless : All (λ earlier. test earlier None) before
  pub faulty : test here (Some found)

abbrev pub IsFound : {A F : Type 0} → (A → Option F → Type 0) → List A → Option F → Type 0
IsFound test list None = All (λ here. test here None) list
IsFound test list (Some found) = IsFirst test list found

-- each element of a list after these, with all those before it

abbrev pub with_before : {A : Type 0} → List A → List A → List (List A × A)
with_before before [] = []
with_before before (here ∷ after) = (before, here) ∷ with_before (before ++ here ∷ []) after
