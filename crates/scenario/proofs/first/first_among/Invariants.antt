use Rattle.std.proofs.Common.{◌≡◌, map, drop}
use Rattle.toml.specs.View.{table_view}
use Rattle.scenario.specs.KeyFaults.{fault_of}
use Rattle.scenario_keys.specs.FirstOf.{first_of}
use Rattle.scenario_keys.specs.Inner.SeenRows.{seen}
use Rattle.scenario.proofs.first.first_among.Given as goal

abbrev pub invariant-loop-row : goal.invariant-loop-row
invariant-loop-row l =
    first_of (map (λ row. fault_of l.basis (table_view l.document) (seen row)) l.rows)
    ≡ first_of (map (λ row. fault_of l.basis (table_view l.document) (seen row)) (drop l.row-index l.rows))
