use Rattle.scenario.proofs.Migrations.{refused, told}
use Rattle.scenario.proofs.SameScenario.{same}
use Rattle.scenario.proofs.migration.migrate.Goals as goal

pub returns-clause-same : goal.returns-clause-same
returns-clause-same c = same c.args.bytes.now c.migration.result c.migration.ensures.migrated

pub returns-clause-refused : goal.returns-clause-refused
returns-clause-refused c = refused c.args.bytes.now c.migration.result c.migration.ensures.refused

pub returns-clause-told : goal.returns-clause-told
returns-clause-told c = told c.args.bytes.now c.migration.result c.migration.ensures.migrated c.migration.ensures.refused
