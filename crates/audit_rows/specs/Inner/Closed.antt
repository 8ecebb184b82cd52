-- Rows that no further mark changes.
use Rattle.std.specs.Prelude.{◌≡◌, ◌+◌, ◌<◌, ◌⊎◌, ◌↔◌, List, Option, Some}
use Rattle.audit_rows.specs.declared.mark.Mark.{Mark}
use Rattle.audit_rows.specs.declared.row.Row.{Row}
use Rattle.audit_rows.specs.Order.{last_step_of}
use Rattle.audit_rows.specs.Rows.{AreAll, IsOfOne, IsRowOf}
use Rattle.audit_rows.specs.Tracks.{Track, longer, next_step}

-- A row of the track after which a mark stands already.
abbrev pub IsClosedOf : Track → Row → Type 0
IsClosedOf track row = IsRowOf track row × (last_step_of row + 1 < next_step track)

abbrev pub IsClosed : List Track → Row → Type 0
IsClosed tracks row = IsOfOne IsClosedOf tracks row

abbrev pub AreClosedRows : List Track → List Row → Type 0
AreClosedRows tracks rows = AreAll IsClosedOf tracks rows

-- What the next mark of the track closes: the row of the stretch that the track ended in.
pub record Closes (track : Track) (mark : Mark) (closed : Option Row) : Type 0 where
  pub rows : (row : Row) → IsClosedOf (longer track mark) row ↔ (IsClosedOf track row ⊎ (closed ≡ Some row))
  pub ended : (row : Row) → closed ≡ Some row → IsRowOf track row × (last_step_of row + 1 ≡ next_step track)
