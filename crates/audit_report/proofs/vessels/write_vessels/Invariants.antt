use Rattle.std.proofs.Common.{ℕ, ◌<◌, ◌^◌, List, ◌++◌, flat_map, length, take}
use Rattle.report_csv.specs.CsvRows.{row_of}
use Rattle.audit_report.specs.ReportTexts.{HasText}
use Rattle.tracks.specs.AcceptedReports.{JudgingNumbers}
use Rattle.tracks.specs.Standing.{StandsFor as BookStandsFor}
use Rattle.tracks.specs.VesselsHeld.{Sent, held_of}
use Rattle.audit_report.specs.VesselRows.{held_fields}
use Rattle.audit_report.proofs.vessels.write_vessels.Given as goal

-- the rows of the first vessels were added
abbrev pub invariant-loop-k : goal.invariant-loop-k
invariant-loop-k l = (numbers : JudgingNumbers) (messages : List Sent) (front : List ℕ) → length messages < 2 ^ 64 → BookStandsFor l.book numbers messages → HasText l.initial.text front
    → HasText l.text (front ++ flat_map (λ mmsi. row_of (held_fields numbers messages mmsi)) (take l.k (held_of numbers messages)))
