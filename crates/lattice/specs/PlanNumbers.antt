-- Plans and their numbers. A plan is a list of choices, one per leg. They are the digits of its number in base
-- `choices`, the first leg's the highest.
use Rattle.std.specs.Prelude.{ℕ, zero, suc, ◌≡◌, ◌/◌, ◌%◌, ◌^◌, ◌<◌, List, [], ◌∷◌, ◌++◌, length}
use Rattle.std.specs.Int.Digits.{number_from_digits, AllBelowBase}

-- the plan with the number
unfoldable pub plan_of : ℕ → ℕ → ℕ → List ℕ
plan_of choices zero number = []
plan_of choices (suc legs) number = plan_of choices legs (number / choices) ++ number % choices ∷ []

-- the number of a plan
abbrev pub number_of : ℕ → List ℕ → ℕ
number_of choices plan = number_from_digits choices plan

-- one choice per leg
pub record IsPlan (choices legs : ℕ) (plan : List ℕ) : Type 0 where
  pub count : length plan ≡ legs
  pub below : AllBelowBase choices plan

-- numbers below `choices ^ legs` and plans correspond one to one
pub record AreInverse (choices legs : ℕ) : Type 0 where
  pub number : (n : ℕ) → n < choices ^ legs → number_of choices (plan_of choices legs n) ≡ n
  pub plan : (plan : List ℕ) → IsPlan choices legs plan → plan_of choices legs (number_of choices plan) ≡ plan
