use Rattle.laws.proofs.OtherSubjects.{rows_of_a_subject}
use Rattle.laws.proofs.shares.rows_of_a_subject.Goals as goal

pub returns : goal.returns
returns c = rows_of_a_subject
