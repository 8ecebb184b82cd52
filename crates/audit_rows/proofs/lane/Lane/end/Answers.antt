use Rattle.std.proofs.Common.{sym, subst}
use Rattle.audit_rows.specs.declared.mark.Mark.TheVariants.{Nothing}
use Rattle.audit_rows.specs.Inner.Closed.{Closes}
use Rattle.audit_rows.proofs.Closing.{lane_end_closes}
use Rattle.audit_rows.proofs.lane.Lane.end.Goals as goal

pub returns : goal.returns
returns c = λ track h next. subst (Closes track Nothing) (sym (rw c.ended.ensures at c.row.ensures)) (lane_end_closes c.args.self.now track c.in_ok-stretch.stretch c.args.step h c.in_ok-stretch.was next)
