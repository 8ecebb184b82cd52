use Rattle.std.proofs.Common.{◌≡◌}
use Rattle.early_monitor.specs.Standing.{rows_fed}
use Rattle.formulas_rows.proofs.early.gives_all.Given as goal

abbrev pub invariant-loop-position : goal.invariant-loop-position
invariant-loop-position l = rows_fed l.monitor ≡ rows_fed l.fn.monitor
