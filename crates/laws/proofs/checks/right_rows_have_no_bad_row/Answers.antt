use Rattle.refutation_check.proofs.ForCallers.{not_both}
use Rattle.laws.proofs.checks.right_rows_have_no_bad_row.Goals as goal

pub returns : goal.returns
returns c = not_both c.args.situation.now
