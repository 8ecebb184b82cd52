use Rattle.laws.proofs.SameTraces.{rows_behind}
use Rattle.laws.proofs.shares.rows_of_two_windows.Goals as goal

pub returns : goal.returns
returns c = rows_behind
