use Rattle.toml.specs.View.{table_view}
use Rattle.scenario_keys.specs.Inner.SeenRows.{seen}
use Rattle.scenario_keys.specs.ScenarioKeys.{own_rows}
use Rattle.scenario.specs.KeyFaults.{fault_of}
use Rattle.scenario.proofs.Firsts.{first_told, found_told, own_plain}
use Rattle.scenario.proofs.first.own_fault.Goals as goal

pub returns : goal.returns
returns c = λ ranks.
    let document = table_view c.args.document.now in
    found_told c.args.basis ranks document own_rows c.first_among.result own_plain
    (first_told (fault_of c.args.basis document) seen c.own_rows.result.now own_rows c.first_among.result c.own_rows.ensures c.first_among.ensures)
