use Rattle.std.proofs.Common.{List, map, sym, subst, ◌∙◌, arith}
use Rattle.std.proofs.lemmas.List.{length-map}
use Rattle.std.proofs.lemmas.Simd.{map-map}
use Rattle.toml.specs.View.{view}
use Rattle.predictions.specs.PredictValues.{predict_of, ArePredictions}
use Rattle.predictions.specs.declared.predictions.Predict.{Predict}
use Rattle.predictions.proofs.Ranges.{in_range, readable}
use Rattle.predictions.proofs.reading.predictions_of.Goals as goal

pub predicts_in-requires : goal.predicts_in-requires
predicts_in-requires c = readable c.args.tables.now c.requires.faultless

pub returns-clause-values : goal.returns-clause-values
returns-clause-values c = c.new.ensures ∙ c.in_ok-list.ensures ∙ sym (map-map predict_of view c.args.tables.now)

pub returns-clause-in_range : goal.returns-clause-in_range
returns-clause-in_range c = λ tick own h.
    let few = c.requires.few in
    let many = length-map c.args.tables.now view in
    subst (λ (l : List Predict). ArePredictions tick own l) (sym (returns-clause-values c))
    (in_range tick own (map view c.args.tables.now) (omega arith) h)
