-- A function of each line of a log and of the lines before it.
use Rattle.std.specs.Prelude.{ℕ, List, [], ◌∷◌, ◌++◌, Option, Some, None, Result, Ok, Err}

-- the values of f at each element and at those before it, in order, if the first come before all
unfoldable pub each_after : {A B : Type 0} → (List A → A → B) → List A → List A → List B
each_after f before [] = []
each_after f before (x ∷ xs) = f before x ∷ each_after f (before ++ x ∷ []) xs

-- the same for the lines of a log
abbrev pub each_line : {B : Type 0} → (List (List ℕ) → List ℕ → B) → List (List ℕ) → List B
each_line f lines = each_after f [] lines

-- the value, if there is one
abbrev pub ok_value : {A E : Type 0} → Result A E → Option A
ok_value (Ok value) = Some value
ok_value (Err cause) = None
