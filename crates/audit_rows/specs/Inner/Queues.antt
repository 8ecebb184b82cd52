-- What taking rows off a queue does to those that it holds.
use Rattle.std.specs.Prelude.{ℕ, ◌≡◌, ◌<◌, ◌≤◌, List, ◌++◌}
use Rattle.std.specs.List.{Contains}
use Rattle.std.specs.Map.{values_of}
use Rattle.audit_rows.specs.declared.row.Row.{Row}
use Rattle.audit_rows.specs.declared.sort_key.SortKey.{SortKey}
use Rattle.audit_rows.specs.Order.{last_step_of}
use Rattle.audit_rows.specs.Standing.{ArePlaced}

-- The first values were taken off, and their rows end below the bound.
pub record IsPopping (bound : ℕ) (old : List (SortKey × Row)) (rows : List Row) (new : List (SortKey × Row)) : Type 0 where
  pub whole : values_of old ≡ rows ++ values_of new
  pub early : (row : Row) → Contains rows row → last_step_of row < bound
  pub placed : ArePlaced new

-- And no other row does.
pub record IsPopped (bound : ℕ) (old : List (SortKey × Row)) (rows : List Row) (new : List (SortKey × Row)) : Type 0 where
  pub front : IsPopping bound old rows new
  pub late : (row : Row) → Contains (values_of new) row → bound ≤ last_step_of row
