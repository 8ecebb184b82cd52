use Rattle.audit_rows.specs.Tracks.{begun}
use Rattle.std.proofs.Common.{◌∙◌, arith}
use Rattle.audit_rows.proofs.Ending.{as_many}
use Rattle.audit_rows.proofs.Queues.{begins, push_zip}
use Rattle.audit_rows.proofs.row_queue.RowQueue.begin.Goals as goal

pub returns-clause-index : goal.returns-clause-index
returns-clause-index c = λ tracks bound given h. let many = as_many c.args.self.now.lanes.items tracks h.lanes in c.len-index.ensures ∙ (search arith)

pub returns-clause-stands : goal.returns-clause-stands
returns-clause-stands c = λ tracks bound first given h new le. record {
  lanes = rw c.in_ok-push.ensures.items (push_zip c.args.self.now.lanes.items tracks c.new.result (begun c.args.topic first) h.lanes (c.new.ensures first));
  holds = begins c.args.self.now.pending.entries tracks bound given c.args.topic first h.holds new le;
}
