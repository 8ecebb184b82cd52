use Rattle.std.proofs.lemmas.Result.{IfOk-weaker}
use Rattle.audit_rows.proofs.Queues.{popped, given_rows}
use Rattle.audit_rows.proofs.row_queue.RowQueue.rows_below.Goals as goal

pub returns-clause-stands : goal.returns-clause-stands
returns-clause-stands c = IfOk-weaker c.pop_below.result _ _ (λ rows p tracks old given h le settled. record {
  lanes = h.lanes;
  holds = popped _ _ tracks old c.args.bound given rows.items h.holds le settled (p h.holds.placed);
}) c.pop_below.ensures

pub returns-clause-rows : goal.returns-clause-rows
returns-clause-rows c =
    IfOk-weaker c.pop_below.result _ _ (λ rows p tracks old given h le settled. given_rows _ tracks c.args.bound _ (popped _ _ tracks old c.args.bound given rows.items h.holds le settled (p h.holds.placed))) c.pop_below.ensures
