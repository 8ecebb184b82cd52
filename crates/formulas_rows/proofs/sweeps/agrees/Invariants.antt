use Rattle.std.proofs.Common.{◌≡◌}
use Rattle.mtl_early.specs.Standing.{HasGivenAll, IsStateOf, rows_fed}
use Rattle.formulas_rows.proofs.sweeps.agrees.Given as goal

abbrev pub invariant-loop-i : goal.invariant-loop-i
invariant-loop-i l = record { of : IsStateOf l.program l.state; done : HasGivenAll l.state; fed : rows_fed l.state ≡ l.i }
