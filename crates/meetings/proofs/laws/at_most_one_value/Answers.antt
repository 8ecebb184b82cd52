use Rattle.meetings.proofs.Rows.{one_value}
use Rattle.meetings.proofs.laws.at_most_one_value.Goals as goal

pub returns : goal.returns
returns c = one_value
