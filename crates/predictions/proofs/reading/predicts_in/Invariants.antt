use Rattle.std.proofs.Common.{◌≡◌, map, take}
use Rattle.toml.specs.View.{view}
use Rattle.predictions.specs.PredictValues.{predict_of}
use Rattle.predictions.proofs.reading.predicts_in.Given as goal

abbrev pub invariant-loop-table : goal.invariant-loop-table
invariant-loop-table l = l.list.items ≡ map (λ v. predict_of (view v)) (take l.table-index l.tables)
