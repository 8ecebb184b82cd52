-- Facts about each report of a drill.
use Rattle.std.specs.Prelude.{◌≡◌, ◌+◌, ◌*◌, ◌≤◌}
use Rattle.ais_messages.specs.MessageFields.{IsReport}
use Rattle.scenario_values.specs.declared.values.Window.{Window}
use Rattle.drill_log.specs.DrillLog.{TimedReport}

-- It comes from one of the forty vessels and is in the window.
pub record IsDrillReport (window : Window) (timed : TimedReport) : Type 0 where
  pub ranges : IsReport timed.report
  pub kind : timed.report.kind ≡ 1
  pub mmsi_from : 200000001 ≤ timed.report.mmsi
  pub mmsi_to : timed.report.mmsi ≤ 200000040
  pub time_from : window.start ≤ timed.time
  pub time_to : timed.time ≤ window.start + window.ticks * window.tick
