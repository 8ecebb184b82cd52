use Rattle.std.proofs.Common.{◌≡◌}
use Rattle.mtl_monitor.specs.Monitoring.{fed_rows, past_rows}
use Rattle.formulas_rows.proofs.monitors.agrees.Given as goal

abbrev pub invariant-loop-i : goal.invariant-loop-i
invariant-loop-i l = record { past : past_rows l.monitor ≡ 0; fed : fed_rows l.monitor ≡ l.i }
