use Rattle.laws.proofs.SomeTotals.{some_totals}
use Rattle.laws.proofs.existence.some_totals.Goals as goal

pub returns : goal.returns
returns c = some_totals c.there_are_rows.ensures.rows
