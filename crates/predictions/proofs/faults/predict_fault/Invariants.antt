use Rattle.std.proofs.Common.{◌≡◌, map}
use Rattle.scenario_keys.specs.FirstOf.{first_of}
use Rattle.predictions.specs.PredictFaults.{table_fault}
use Rattle.predictions.proofs.Tables.{left_from}
use Rattle.predictions.proofs.faults.predict_fault.Given as goal

abbrev pub invariant-loop-k : goal.invariant-loop-k
invariant-loop-k l =
    first_of (map (table_fault l.tick l.own) (left_from l.tables 0)) ≡ first_of (map (table_fault l.tick l.own) (left_from l.tables l.k))
