use Rattle.std.proofs.Common.{◌∙◌, arith}
use Rattle.audit_rows.proofs.Ending.{as_many}
use Rattle.audit_rows.proofs.row_queue.RowQueue.track_count.Goals as goal

pub returns : goal.returns
returns c = λ tracks bound given h. let many = as_many c.args.self.now.lanes.items tracks h.lanes in c.len.ensures ∙ (search arith)
