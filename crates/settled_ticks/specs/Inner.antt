-- Comparisons with a clock.
use Rattle.std.specs.Prelude.{ℕ, Bool, false, nat_lt, Option, Some, None}

-- whether the clock is past a time
abbrev pub is_past : Option ℕ → ℕ → Bool
is_past None time = false
is_past (Some clock) time = nat_lt time clock
