-- An audit as a taker of ticks.
use Rattle.std.specs.Prelude.{◌-◌, List, length}
use Rattle.audit_rows.specs.declared.row.Row.{Row}
use Rattle.auditor.specs.AuditRows.{AreAuditRowsBelow}
use Rattle.auditor.specs.SettledRows.{settled_by}
use Rattle.auditor.specs.Standing.{IsSound, StandsFor as AuditStandsFor, given_of, last_tick_of, latest_vessels}
use Rattle.auditor.specs.declared.audit.Audit.{Audit}
use Rattle.traces.specs.Audited.{AuditNumbers, Sighting}
use Rattle.settling.specs.Inner.TakenTicks.{Taker}

-- The audit's model is these ticks and rows, and the rows are those that the ticks decide.
pub record HasAudited (audit : Audit) (numbers : AuditNumbers) (ticks : List Sighting) (given : List Row) : Type 0 where
  pub stands : AuditStandsFor audit numbers ticks given
  pub rows : AreAuditRowsBelow numbers ticks (settled_by numbers (length ticks - 1)) given

abbrev pub audit_taker : Audit → Taker Row
audit_taker audit = record {
  Sound = IsSound audit;
  count = given_of audit;
  last_tick = last_tick_of audit;
  latest = latest_vessels audit;
  Stands = HasAudited audit;
  within = λ sound. sound.traces.given;
  seen_last = λ numbers ticks given up. (λ i. (up.stands.window.stands.latest i).vessels);
}
