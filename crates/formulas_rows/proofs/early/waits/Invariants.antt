use Rattle.std.proofs.Common.{◌≡◌}
use Rattle.early_monitor.specs.Standing.{HasGivenAll, rows_fed}
use Rattle.formulas_rows.proofs.early.waits.Given as goal

abbrev pub invariant-loop : goal.invariant-loop
invariant-loop l = record { done : HasGivenAll l.monitor; fed : rows_fed l.monitor ≡ l.counter }
