use Rattle.std.proofs.Common.{sym, subst}
use Rattle.audit_rows.specs.declared.counts.MarkCounts.{MarkCounts}
use Rattle.audit_rows.specs.MarkCounts.{AreCounts}
use Rattle.audit_rows.proofs.Closing.{lane_counts}
use Rattle.audit_rows.proofs.lane.Lane.counts.Goals as goal

pub returns-in-Some : goal.returns-in-Some
returns-in-Some c = λ track h next.
    subst (λ (counts : MarkCounts). AreCounts counts track.marks) (sym (rw c.length.ensures at c.with.ensures))
    (lane_counts c.args.self.now track c.in-Some.stretch c.args.step c.ranges.step.fits h c.in-Some.is next)
