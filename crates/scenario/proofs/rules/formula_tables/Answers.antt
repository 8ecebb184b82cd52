use Rattle.std.proofs.Common.{length, refl, ap, arith}
use Rattle.std.specs.Prelude.{codes, false}
use Rattle.std.proofs.lemmas.List.{length-map}
use Rattle.toml.specs.View.{table_view, view}
use Rattle.scenario_keys.specs.ScenarioKeys.{first_rows}
use Rattle.scenario.specs.RuleValues.{formula_tables}
use Rattle.scenario.specs.Inner.KnownKeys.{kind_at}
use Rattle.scenario.proofs.ListsHeld.{tables_held}
use Rattle.scenario.proofs.rules.formula_tables.Goals as goal

pub returns-clause-tables : goal.returns-clause-tables
unfolding formula_tables
returns-clause-tables c = c.values_at.ensures

pub returns-clause-few : goal.returns-clause-few
unfolding kind_at first_rows
returns-clause-few c =
    let few = tables_held false (table_view c.args.document.now) (codes "") (codes "formula") 5 refl c.requires in
    let same = ap length c.values_at.ensures in
    let many = length-map c.values_at.result.now view in
    omega arith
