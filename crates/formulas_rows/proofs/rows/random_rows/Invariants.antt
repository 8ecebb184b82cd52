use Rattle.std.proofs.Common.{◌≡◌, length}
use Rattle.formulas_rows.proofs.rows.random_rows.Given as goal

abbrev pub invariant-loop : goal.invariant-loop
invariant-loop l = length l.rows.items ≡ l.counter
