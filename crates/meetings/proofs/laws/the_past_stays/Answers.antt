use Rattle.meetings.proofs.ForCallers.{row_over_more, rows_of_front}
use Rattle.meetings.proofs.laws.the_past_stays.Goals as goal

pub returns : goal.returns
returns c = record {
  row = λ terms ranks steps more i answers lt row. row_over_more terms ranks steps more i answers lt row;
  rows = λ terms ranks steps more rows h. rows_of_front terms ranks steps more rows h;
}
