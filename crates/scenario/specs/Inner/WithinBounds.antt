-- An element that is an integer within two numbers.
use Rattle.std.specs.Prelude.{ℤ, ◌≤ℤ◌, MatchOption}
use Rattle.toml.specs.Data.{Data, as_integer}

abbrev pub IsWithin : ℤ → ℤ → Data → Type 0
IsWithin low high found = MatchOption (as_integer found) ⊥ (λ n. (low ≤ℤ n) × (n ≤ℤ high))
