-- The effect of a call on a count of faults.
use Rattle.std.specs.Prelude.{ℕ, ◌+◌, ◌-◌, ◌^◌, ◌≤◌, min}

-- one more; a counter of 64 bits saturates
abbrev pub one_more : ℕ → ℕ
one_more count = min (count + 1) (2 ^ 64 - 1)

-- The count rose by at least one, or has the greatest value of its counter.
abbrev pub Rose : ℕ → ℕ → Type 0
Rose before now = one_more before ≤ now
