-- Separation while both vessels continue as in a step.
use Rattle.std.specs.Prelude.{ℕ, ◌*◌, ◌<◌, ◌≤◌}
use Rattle.motion.specs.Steps.{RelativeMove}
use Rattle.closest_approach.specs.Separation.{IsApart}

-- The distance is at least r at every instant up to this many ticks after the beginning.
unfoldable pub IsSeparatedFor : RelativeMove → ℕ → ℕ → Type 0
IsSeparatedFor step r ticks = (a b : ℕ) → a ≤ b * ticks → 0 < b → IsApart step r a b
