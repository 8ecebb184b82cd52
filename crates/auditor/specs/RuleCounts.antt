-- The counts of stretches and positions in a total.
use Rattle.std.specs.Prelude.{ℕ, ◌-◌, ◌^◌, ◌==◌, ◌&&◌, min, Bool, false, not}
use Rattle.audit_rows.specs.declared.row.Row.{Row}
use Rattle.audit_rows.specs.declared.row.Row.TheVariants as row

-- the row says that the rule is broken
abbrev pub is_run_of : ℕ → Row → Bool
is_run_of rule (row.Meeting pair kind first last least) = false
is_run_of rule (row.Verdict pair other undecided first last) = (other == rule) && not undecided

-- a number in a total, which saturates at the maximum of its type
abbrev pub told : ℕ → ℕ
told n = min n (2 ^ 64 - 1)
