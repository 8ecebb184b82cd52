use Rattle.std.proofs.Common.{map, ap, sym, ◌∙◌}
use Rattle.scenario_keys.specs.FirstOf.{first_of}
use Rattle.predictions.specs.PredictFaults.{predict_fault, table_fault}
use Rattle.predictions.proofs.Tables.{found_at, left_none}
use Rattle.predictions.proofs.faults.predict_fault.Goals as goal

pub returns-in-Some : goal.returns-in-Some
unfolding predict_fault
returns-in-Some c =
    sym (c.loop-k.invariant
    ∙ found_at (table_fault c.args.tick c.args.own) c.args.tables.now c.loop-k.k c.index-tables-k.result c.in-Some.fault c.index-tables-k.is c.loop-k-test.true c.in-Some.ensures)

pub returns : goal.returns
unfolding predict_fault
returns c =
    sym (c.loop-k.invariant ∙ ap (λ l. first_of (map (table_fault c.args.tick c.args.own) l)) (left_none c.args.tables.now c.loop-k.k c.loop-k-test.false))
