-- Counts that run down: for how many values more a Yes, and a value that is not No, stay in a window. They name no position, so equal
-- values soon leave them as they were.
use Rattle.std.specs.Prelude.{ℕ, ◌-◌, nat_lt, ◌==◌, ◌&&◌, Bool, if◌then◌else◌}
use Rattle.mtl_formulas.specs.declared.verdict.Verdict.{Verdict}
use Rattle.mtl_formulas.specs.declared.verdict.Verdict.TheVariants.{No, Open, Yes}
use Rattle.mtl_monitor.specs.declared.left.Left.{Left}

abbrev pub same_left : Left → Left → Bool
same_left s r = (s.yes == r.yes) && (s.some == r.some)

-- after one value more, in a window of this width
abbrev pub left_after : Left → ℕ → Verdict → Left
left_after s w No = record { yes = s.yes - 1; some = s.some - 1 }
left_after s w Open = record { yes = s.yes - 1; some = w }
left_after s w Yes = record { yes = w; some = w }

-- if nothing counts for more than a value
abbrev pub left_under : Left → Verdict → Left
left_under s No = record { yes = 0; some = 0 }
left_under s Open = record s { yes = 0 }
left_under s Yes = s

-- the greatest of the values that are left once this number of the oldest are gone
abbrev pub left_beyond : Left → ℕ → Verdict
left_beyond s k = if nat_lt k s.yes then Yes else (if nat_lt k s.some then Open else No)

abbrev pub left_value : Left → Verdict
left_value s = left_beyond s 0
