use Rattle.settling.proofs.SameRows.{same_row}
use Rattle.settling.proofs.laws.rows_look_so_far_ahead.Goals as goal

pub returns : goal.returns
returns c = same_row
