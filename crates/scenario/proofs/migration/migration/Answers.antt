use Rattle.std.proofs.Common.{sym, ◌∙◌, subst}
use Rattle.toml.specs.View.{table_view}
use Rattle.scenario.specs.DocumentFaults.{IsFaultless}
use Rattle.scenario.specs.declared.purpose.Purpose.{Purpose}
use Rattle.scenario.proofs.SameScenario.{migrated_of}
use Rattle.scenario.proofs.migration.migration.Goals as goal

pub returns-clause-migrated : goal.returns-clause-migrated
returns-clause-migrated c =
    let document = table_view c.in_ok-document.document in
    let faultless = subst (λ (purpose : Purpose). IsFaultless purpose document) c.for_migration.ensures c.in_ok-values_of.ensures.faultless in
    migrated_of c.args.bytes.now document c.migrated_text.result c.in_ok-document.ensures.reads (sym c.is_version_two.ensures ∙ c.if-is_version_two.false) faultless
    c.migrated_text.ensures.printed c.migrated_text.ensures.read_again
