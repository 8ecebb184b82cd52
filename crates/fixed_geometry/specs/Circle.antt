-- Differences on a circle.
use Rattle.std.specs.Prelude.{ℕ, ◌*◌, if◌then◌else◌, ℤ, pos, ◌+ℤ◌, ◌-ℤ◌, neg_ℤ, int_lt, int_le}

-- a difference taken along the shorter arc: above minus half a turn and at most half a turn, with one turn added or
-- subtracted
unfoldable pub shorter_arc : ℕ → ℤ → ℤ
shorter_arc half d =
    if int_le d (neg_ℤ (pos half)) then d +ℤ pos (2 * half)
    else (if int_lt (pos half) d then d -ℤ pos (2 * half) else d)
