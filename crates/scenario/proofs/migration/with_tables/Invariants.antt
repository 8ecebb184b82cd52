use Rattle.std.proofs.Common.{◌≡◌, map, drop}
use Rattle.toml.specs.View.{table_view}
use Rattle.scenario.specs.Inner.PutTogether.{with_tables}
use Rattle.scenario.proofs.migration.with_tables.Given as goal

abbrev pub invariant-loop-name : goal.invariant-loop-name
invariant-loop-name l =
    with_tables (table_view l.document) (map (λ name. name.now) l.names) (table_view l.initial.members)
    ≡ with_tables (table_view l.document) (map (λ name. name.now) (drop l.name-index l.names)) (table_view l.members)
