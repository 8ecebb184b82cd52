use Rattle.std.proofs.Common.{◌≡◌}
use Rattle.mtl_monitor.specs.Monitoring.{fed_rows, past_rows}
use Rattle.formulas_rows.proofs.monitors.answers.Given as goal

abbrev pub invariant-loop-row : goal.invariant-loop-row
invariant-loop-row l = record { past : past_rows l.monitor ≡ 0; fed : fed_rows l.monitor ≡ l.row-index }
