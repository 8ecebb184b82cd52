use Rattle.std.proofs.Common.{◌≡◌, map, drop}
use Rattle.toml.specs.View.{view}
use Rattle.predictions.specs.PredictFaults.{after_of, ascend, change_numbers_at}
use Rattle.predictions.specs.Inner.{ascend_behind}
use Rattle.predictions.proofs.changes.ascend.Given as goal

abbrev pub invariant-loop-found : goal.invariant-loop-found
invariant-loop-found l =
    ascend (map (λ v. after_of (change_numbers_at (view v))) l.list.items)
    ≡ ascend_behind l.before (map (λ v. after_of (change_numbers_at (view v))) (drop l.found-index l.list.items))
