-- Lists of numbers in order.
use Rattle.std.specs.Prelude.{ℕ, ◌<◌, List, [], ◌∷◌, All}

-- each number is below all that follow it
abbrev pub Ascends : List ℕ → Type 0
Ascends [] = Unit {0}
Ascends (n ∷ ns) = All (λ m. n < m) ns × Ascends ns
