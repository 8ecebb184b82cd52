use Rattle.std.proofs.Common.{◌≡◌, map, take}
use Rattle.toml.specs.View.{view}
use Rattle.predictions.specs.PredictFaults.{change_numbers_at}
use Rattle.predictions.specs.PredictValues.{change_of}
use Rattle.predictions.proofs.reading.changes_in.Given as goal

abbrev pub invariant-loop-found : goal.invariant-loop-found
invariant-loop-found l = l.changes.items ≡ map (λ v. change_of (change_numbers_at (view v))) (take l.found-index l.list.items)
