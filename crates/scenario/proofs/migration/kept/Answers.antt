use Rattle.std.proofs.Common.{sym, ◌∙◌}
use Rattle.toml.specs.View.{view}
use Rattle.toml.proofs.Views.{view-Array}
use Rattle.scenario.proofs.Kept.{list_kept}
use Rattle.scenario.proofs.migration.kept.Goals as goal

pub returns-in_ok-known_tables-in-Some : goal.returns-in_ok-known_tables-in-Some
returns-in_ok-known_tables-in-Some c =
    view-Array c.in_ok-known_tables-in-Some.field-0
    ∙ list_kept c.args.row.now.kind c.in-Tables.field-0 c.args.row.now.name.now (view c.args.found.now) c.in-Some.tables.now.items c.in_ok-known_tables-in-Some.field-0.items
    c.in-Tables.is (sym c.in-Some.ensures) c.in_ok-known_tables-in-Some.ensures
