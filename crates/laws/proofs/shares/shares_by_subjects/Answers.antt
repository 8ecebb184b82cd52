use Rattle.laws.proofs.ReportedShares.{some, text_begins, whole}
use Rattle.laws.proofs.shares.shares_by_subjects.Goals as goal

pub returns-clause-whole : goal.returns-clause-whole
returns-clause-whole c = λ scenario log shares rows are cover. whole scenario log shares are cover rows

pub returns-clause-some : goal.returns-clause-some
returns-clause-some c = λ scenario log shares are. some scenario log shares are

pub returns-clause-text : goal.returns-clause-text
returns-clause-text c = λ scenario log text shares rows are cover joined report. text_begins scenario log shares are text rows cover joined report
