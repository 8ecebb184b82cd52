use Rattle.std.specs.Prelude.{codes}
use Rattle.toml.specs.View.{table_view}
use Rattle.scenario_keys.specs.KeyValues.{natural_at}
use Rattle.scenario.specs.KeyFaults.{tick_of}
use Rattle.scenario.proofs.PlansHeld.{predict_held}
use Rattle.scenario.proofs.own_part.predictions_in.Goals as goal

pub predictions_of-requires-clause-faultless : goal.predictions_of-requires-clause-faultless
predictions_of-requires-clause-faultless c =
    let document = table_view c.args.document.now in
    (tick_of document, natural_at (codes "own") (codes "mmsi") document, rw c.predict_tables.ensures.tables (predict_held document c.requires))

pub returns-clause-in_range : goal.returns-clause-in_range
returns-clause-in_range c =
    let document = table_view c.args.document.now in
    c.predictions_of.ensures.in_range (tick_of document) (natural_at (codes "own") (codes "mmsi") document)
    (rw c.predict_tables.ensures.tables (predict_held document c.requires))
