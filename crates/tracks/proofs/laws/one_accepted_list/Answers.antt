use Rattle.tracks.proofs.OneList.{one_list, some_list}
use Rattle.tracks.proofs.laws.one_accepted_list.Goals as goal

pub returns-clause-exists : goal.returns-clause-exists
returns-clause-exists c = λ numbers reports. some_list numbers reports

pub returns-clause-at_most_one : goal.returns-clause-at_most_one
returns-clause-at_most_one c = λ numbers reports accepted h. one_list numbers reports accepted h
