use Rattle.std.proofs.Common.{inr}
use Rattle.colregs_program.proofs.Migrating.{cause_of, migrated_due, refused_due}
use Rattle.colregs_program.proofs.migrate.migrated.Goals as goal

pub returns-in-Ok-clause-due : goal.returns-in-Ok-clause-due
returns-in-Ok-clause-due g c = λ due is.
    let migrate = rw c.as_slice.ensures.value at c.in-Ok.ensures in
    inr (migrated_due c.args.name.now c.in_ok-text.text c.in-Ok.text migrate.told _ c.in_ok-text.ensures.content due is)

pub returns-clause-due : goal.returns-clause-due
returns-clause-due g c = λ due is.
    let migrate = rw c.as_slice.ensures.value at c.in-Err.ensures in
    rw c.into.ensures (inr (refused_due c.args.name.now c.in_ok-text.text c.in-Err.fault migrate.refused migrate.told _ c.in_ok-text.ensures.content due is))

pub returns-clause-cause : goal.returns-clause-cause
returns-clause-cause g c =
    let migrate = rw c.as_slice.ensures.value at c.in-Err.ensures in
    rw c.into.ensures (cause_of c.args.name.now _ c.in_ok-text.text _ _ c.in-Err.fault c.in_ok-text.ensures.content migrate.refused)
