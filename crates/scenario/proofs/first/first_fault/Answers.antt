use Rattle.toml.specs.View.{table_view}
use Rattle.scenario_keys.specs.Inner.SeenRows.{seen}
use Rattle.scenario_keys.specs.ScenarioKeys.{first_rows}
use Rattle.scenario.specs.KeyFaults.{fault_of}
use Rattle.scenario.proofs.Firsts.{first_plain, first_told, found_told}
use Rattle.scenario.proofs.first.first_fault.Goals as goal

pub returns : goal.returns
returns c = λ ranks.
    let document = table_view c.args.document.now in
    found_told c.args.basis ranks document first_rows c.first_among.result first_plain
    (first_told (fault_of c.args.basis document) seen c.first_rows.result.now first_rows c.first_among.result c.first_rows.ensures c.first_among.ensures)
