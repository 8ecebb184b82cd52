-- The rows of an audit.
use Rattle.std.specs.Prelude.{ℕ, ◌<◌, ◌↔◌, List}
use Rattle.std.specs.List.{Contains}
use Rattle.audit_rows.specs.Order.{InOrder, last_step_of}
use Rattle.audit_rows.specs.Rows.{IsRowOf}
use Rattle.audit_rows.specs.Tracks.{Track}
use Rattle.audit_rows.specs.declared.row.Row.{Row}
use Rattle.traces.specs.Audited.{AuditNumbers, Sighting}
use Rattle.auditor.specs.AuditTracks.{IsTrack}

module _ (numbers : AuditNumbers) (ticks : List Sighting) where
  -- The row is a maximal stretch in the marks at the positions of some trace.
  abbrev pub IsAuditRow : Row → Type 0
  IsAuditRow row = (track : Track) × (IsTrack numbers ticks track × IsRowOf track row)

  -- The list has each such row and nothing else, in order, so each once.
  pub record AreAuditRows (rows : List Row) : Type 0 where
    pub each : (row : Row) → Contains rows row ↔ IsAuditRow row
    pub ordered : InOrder rows

  -- the same for the rows that end below a bound
  pub record AreAuditRowsBelow (bound : ℕ) (rows : List Row) : Type 0 where
    pub each : (row : Row) → Contains rows row ↔ (IsAuditRow row × (last_step_of row < bound))
    pub ordered : InOrder rows
