use Rattle.colregs_program.proofs.Refusals.{limit_told, migration_done, migration_told, set_up_limit, shelf_calm_told}
use Rattle.colregs_program.proofs.migrate.run_migration.Goals as goal

pub returns-in-Err-clause-shelf_calm : goal.returns-in-Err-clause-shelf_calm
returns-in-Err-clause-shelf_calm g c = λ not.
    let told = rw c.into.ensures at c.tell.ensures.same in
    shelf_calm_told c.in-Err.fault _ _ _ _ told not (λ made. made) (λ had. c.in-Err.ensures.calm (λ is. had (cc is)))

pub returns-in-Err-clause-limits : goal.returns-in-Err-clause-limits
returns-in-Err-clause-limits g c =
    let told = rw c.into.ensures at c.tell.ensures.same in
    limit_told _ _ _ told (set_up_limit c.in-Err.fault)

pub returns-in-Err-clause-due : goal.returns-in-Err-clause-due
returns-in-Err-clause-due g c = λ due is shelf sink.
    let told = rw c.into.ensures at c.tell.ensures.same in
    migration_told _ _ c.in-Err.fault _ due _ (c.in-Err.ensures.due due is) shelf told

pub returns-clause-due : goal.returns-clause-due
returns-clause-due g c = λ due is shelf sink. migration_done _ _ due (c.in-Ok.ensures.due due is) shelf
