use Rattle.std.proofs.Common.{◌≡◌, ◌++◌, flat_map, take}
use Rattle.drill_log.specs.DrillLog.{report_line}
use Rattle.drill_log.specs.Inner.VesselFigures.{report_by}
use Rattle.drill_log.proofs.log.push_reports.Given as goal

abbrev pub invariant-loop-vessel : goal.invariant-loop-vessel
invariant-loop-vessel l = l.log.items
    ≡ l.initial.log.items ++ flat_map (λ vessel. report_line (record { time = l.time; report = report_by vessel l.reference l.minutes })) (take l.vessel-index l.vessels)
