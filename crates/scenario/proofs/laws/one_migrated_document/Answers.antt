use Rattle.scenario.specs.Inner.PutTogether.{migrated}
use Rattle.scenario.proofs.MigratedDocuments.{one_migrated, put_together}
use Rattle.scenario.proofs.laws.one_migrated_document.Goals as goal

pub returns-clause-some : goal.returns-clause-some
returns-clause-some c = λ document. (migrated document, put_together document)

pub returns-clause-one : goal.returns-clause-one
returns-clause-one c = λ document after other is also. one_migrated document after other is also
