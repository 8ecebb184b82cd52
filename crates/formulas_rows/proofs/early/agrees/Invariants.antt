use Rattle.std.proofs.Common.{◌≡◌}
use Rattle.early_monitor.specs.Standing.{HasGivenAll, rows_fed}
use Rattle.formulas_rows.proofs.early.agrees.Given as goal

abbrev pub invariant-loop-i : goal.invariant-loop-i
invariant-loop-i l = record { done : HasGivenAll l.monitor; fed : rows_fed l.monitor ≡ l.i }
