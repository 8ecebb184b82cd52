-- The rows of the vessels in the book.
use Rattle.std.specs.Prelude.{ℕ, flat_map, length, List, Option, Some, None}
use Rattle.ais_messages.specs.declared.message.ShipData.{ShipData}
use Rattle.report_csv.specs.CsvRows.{row_of, Fields}
use Rattle.audit_report.specs.ReportRows.{vessel_fields}
use Rattle.plan_situations.specs.declared.near.Near.{Near}
use Rattle.tracks.specs.AcceptedReports.{JudgingNumbers}
use Rattle.tracks.specs.Lengths.{length_of}
use Rattle.tracks.specs.VesselsHeld.{Sent, accepted_of, held_of, legs_of, statics_of}
use Rattle.tracks.specs.declared.statics.Statics.{Statics}

-- a vessel's type, 0 if she sent none
abbrev pub ship_type_of : Option ShipData → ℕ
ship_type_of None = 0
ship_type_of (Some ship) = ship.kind

abbrev pub told_fields : ℕ → Statics → ℕ → ℕ → Fields
told_fields mmsi statics reports legs = vessel_fields mmsi statics.name (ship_type_of statics.ship) (length_of statics.ship) reports legs

abbrev pub held_fields : JudgingNumbers → List Sent → ℕ → Fields
held_fields numbers messages mmsi =
    told_fields mmsi (statics_of messages mmsi) (length (accepted_of numbers messages mmsi)) (length (legs_of numbers messages mmsi))

-- the vessels in the book
abbrev pub vessel_rows : JudgingNumbers → List Sent → List ℕ
vessel_rows numbers messages = flat_map (λ mmsi. row_of (held_fields numbers messages mmsi)) (held_of numbers messages)

-- the vessels near own ship, herself among them
abbrev pub near_rows : JudgingNumbers → List Sent → List Near → List ℕ
near_rows numbers messages near = flat_map (λ (vessel : Near). row_of (held_fields numbers messages vessel.mmsi)) near
