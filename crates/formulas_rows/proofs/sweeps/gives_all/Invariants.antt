use Rattle.std.proofs.Common.{◌≡◌}
use Rattle.mtl_early.specs.Standing.{IsStateOf, rows_fed}
use Rattle.formulas_rows.proofs.sweeps.gives_all.Given as goal

abbrev pub invariant-loop-position : goal.invariant-loop-position
invariant-loop-position l = record { of : IsStateOf l.program l.state; fed : rows_fed l.state ≡ rows_fed l.fn.state }
