use Rattle.std.proofs.Common.{ℕ, ◌≡◌, ◌<◌, ◌^◌, List, ◌++◌, length, take, true}
use Rattle.std.specs.List.{All}
use Rattle.audit_report.specs.ReportTexts.{HasText}
use Rattle.plan_situations.specs.declared.near.Near.{Near}
use Rattle.tracks.specs.AcceptedReports.{JudgingNumbers}
use Rattle.tracks.specs.Standing.{StandsFor as BookStandsFor}
use Rattle.tracks.specs.VesselsHeld.{Sent, is_held}
use Rattle.audit_report.specs.VesselRows.{near_rows}
use Rattle.audit_report.proofs.vessels.write_near.Given as goal

-- the rows of the first vessels were added
abbrev pub invariant-loop-vessel : goal.invariant-loop-vessel
invariant-loop-vessel l = (numbers : JudgingNumbers) (messages : List Sent) (front : List ℕ) → length messages < 2 ^ 64 → BookStandsFor l.book numbers messages
    → All (λ (vessel : Near). is_held numbers messages vessel.mmsi ≡ true) l.near → HasText l.initial.text front
    → HasText l.text (front ++ near_rows numbers messages (take l.vessel-index l.near))
