use Rattle.std.proofs.Common.{ap, ◌∙◌, option_map}
use Rattle.std.specs.Option.{option_or}
use Rattle.scenario_keys.specs.Inner.SeenRows.{seen}
use Rattle.scenario_keys.specs.ScenarioKeys.{first_rows, formula_rows, own_rows}
use Rattle.scenario_keys.proofs.FoundRows.{found_in_three, found_seen}
use Rattle.scenario_keys.proofs.rows.row_of.Goals as goal

pub returns : goal.returns
returns c =
    ap (option_map (λ row. seen row.now)) (c.or-2.ensures ∙ ap (λ first. option_or first c.find_row-of_own_ship.result) c.or.ensures)
    ∙ found_in_three c.args.number (λ row. row.now) c.find_row.result c.find_row-of_formulas.result c.find_row-of_own_ship.result
    (found_seen c.args.number (λ row. row.now) c.first_rows.result.now first_rows c.find_row.result c.find_row.ensures c.first_rows.ensures)
    (found_seen c.args.number (λ row. row.now) c.formula_rows.result.now formula_rows c.find_row-of_formulas.result c.find_row-of_formulas.ensures c.formula_rows.ensures)
    (found_seen c.args.number (λ row. row.now) c.own_rows.result.now own_rows c.find_row-of_own_ship.result c.find_row-of_own_ship.ensures c.own_rows.ensures)
