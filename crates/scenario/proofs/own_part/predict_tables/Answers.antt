use Rattle.std.proofs.Common.{length, refl, ap, arith}
use Rattle.std.specs.Prelude.{codes, true}
use Rattle.std.proofs.lemmas.List.{length-map}
use Rattle.toml.specs.View.{table_view, view}
use Rattle.scenario_keys.specs.ScenarioKeys.{own_rows}
use Rattle.scenario.specs.Inner.KnownKeys.{kind_at}
use Rattle.scenario.proofs.ListsHeld.{tables_held}
use Rattle.scenario.proofs.own_part.predict_tables.Goals as goal

pub returns-clause-few : goal.returns-clause-few
unfolding kind_at own_rows
returns-clause-few c =
    let few = tables_held true (table_view c.args.document.now) (codes "") (codes "predict") 64 refl c.requires in
    let same = ap length c.values_at.ensures in
    let many = length-map c.values_at.result.now view in
    omega arith
