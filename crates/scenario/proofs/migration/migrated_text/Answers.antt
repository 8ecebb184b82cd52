use Rattle.std.proofs.Common.{◌≤◌, IfOk, subst, sym}
use Rattle.toml.specs.Data.{Members, members_depth}
use Rattle.toml.specs.View.{table_view}
use Rattle.scenario.specs.ScenarioReading.{Reads}
use Rattle.scenario.proofs.Shallow.{migrated_deep}
use Rattle.scenario.proofs.migration.migrated_text.Goals as goal

pub text_of-requires : goal.text_of-requires
text_of-requires c =
    subst (λ (d : Members). members_depth d ≤ 5) (sym c.in_ok-migrated.ensures)
    (migrated_deep (table_view c.args.document.now) c.requires.version_one c.requires.faultless)

pub returns-clause-read_again : goal.returns-clause-read_again
returns-clause-read_again c =
    subst (λ (d : Members). IfOk c.text_of.result (λ v. Reads v.items d)) c.in_ok-migrated.ensures c.text_of.ensures.read_again
