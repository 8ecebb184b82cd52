use Rattle.std.proofs.Common.{◌≡◌, map, drop}
use Rattle.toml.specs.View.{table_view}
use Rattle.scenario_keys.specs.Inner.SeenRows.{seen}
use Rattle.scenario.specs.Inner.PutTogether.{with_keys}
use Rattle.scenario.proofs.migration.with_keys.Given as goal

abbrev pub invariant-loop-row : goal.invariant-loop-row
invariant-loop-row l =
    with_keys (table_view l.document) l.table (map seen l.rows) (table_view l.initial.members)
    ≡ with_keys (table_view l.document) l.table (map seen (drop l.row-index l.rows)) (table_view l.members)
