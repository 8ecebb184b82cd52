use Rattle.meetings.proofs.Rows.{one_list, same_answers}
use Rattle.meetings.proofs.laws.at_most_one_row.Goals as goal

pub returns : goal.returns
returns c = record {
  row = λ terms ranks steps i answers others row other. same_answers terms ranks steps i answers others row other;
  rows = λ terms ranks steps rows others h k. one_list terms ranks steps rows others h k;
}
