use Rattle.std.proofs.Common.{◌≡◌, IfOk, subst}
use Rattle.toml.specs.Data.{Members}
use Rattle.toml.specs.View.{table_view}
use Rattle.scenario.specs.Migration.{table_names}
use Rattle.scenario.specs.Inner.PutTogether.{migrated, with_tables}
use Rattle.scenario.proofs.migration.migrated.Goals as goal

pub returns : goal.returns
unfolding migrated
returns c =
    subst (λ (m : Members). IfOk c.with_tables.result (λ t. table_view t ≡ with_tables (table_view c.args.document.now) table_names m))
    c.in_ok-members.ensures c.with_tables.ensures
