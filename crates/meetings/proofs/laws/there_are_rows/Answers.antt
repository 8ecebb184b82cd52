use Rattle.meetings.proofs.SomeRows.{some_row, some_rows}
use Rattle.meetings.proofs.laws.there_are_rows.Goals as goal

pub returns-clause-row : goal.returns-clause-row
returns-clause-row c = λ terms ranks steps i. some_row terms ranks steps i

pub returns-clause-rows : goal.returns-clause-rows
returns-clause-rows c = λ terms ranks steps. some_rows terms ranks steps
