-- Marks of nodes. There are 64, so nodes whose indices are 64 apart share one.
use Rattle.std.specs.Prelude.{◌≡◌, ℕ, ◌%◌, List}
use Rattle.std.specs.Int.{bit_at}
use Rattle.mtl_formulas.specs.declared.verdict.Verdict.{Verdict}
use Rattle.mtl_monitor.specs.Inner.Steps.{value_at}

abbrev pub IsMarked : ℕ → ℕ → Type 0
IsMarked marks k = bit_at marks (k % 64) ≡ 1

abbrev pub IsUnmarked : ℕ → ℕ → Type 0
IsUnmarked marks k = bit_at marks (k % 64) ≡ 0

-- The nodes that are not marked have the values that they had before.
abbrev pub OnlyMarked : List Verdict → List Verdict → ℕ → Type 0
OnlyMarked before values marks = (k : ℕ) → IsUnmarked marks k → value_at values k ≡ value_at before k
