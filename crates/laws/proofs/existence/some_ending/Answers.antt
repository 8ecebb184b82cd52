use Rattle.laws.proofs.SomeEnding.{some_ending, some_ending_of_run}
use Rattle.laws.proofs.existence.some_ending.Goals as goal

pub returns-clause-in_range : goal.returns-clause-in_range
returns-clause-in_range c = some_ending c.there_are_rows.ensures.rows

pub returns-clause-run : goal.returns-clause-run
returns-clause-run c = some_ending_of_run c.there_are_rows.ensures.rows
