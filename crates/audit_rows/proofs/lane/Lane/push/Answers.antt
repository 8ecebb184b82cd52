use Rattle.std.proofs.Common.{sym, subst}
use Rattle.audit_rows.specs.Inner.Closed.{Closes}
use Rattle.audit_rows.proofs.Closing.{lane_closes, latest_of, same_sort_closes, stands_other, stands_same}
use Rattle.audit_rows.proofs.lane.Lane.push.Goals as goal

pub returns-then-is_like-clause-stands : goal.returns-then-is_like-clause-stands
returns-then-is_like-clause-stands c = λ track h next.
    rw c.go_on.ensures (stands_same c.args.self.now track c.args.mark c.in-Some.stretch h c.in-Some.is (c.is_like.ensures.0 c.if-is_like.true))

pub returns-then-is_like-clause-closes : goal.returns-then-is_like-clause-closes
returns-then-is_like-clause-closes c = λ track h next.
    same_sort_closes track c.args.mark _ (latest_of c.args.self.now track c.in-Some.stretch h c.in-Some.is) (c.is_like.ensures.0 c.if-is_like.true)

pub returns-clause-stands : goal.returns-clause-stands
returns-clause-stands c = λ track h next.
    rw (c.turn-2.ensures, c.count.ensures) (stands_other c.args.self.now track c.args.mark c.in-Some.stretch c.args.step c.ranges.step.fits h c.in-Some.is next (λ e. let like = c.is_like.ensures.1 e in let unlike = c.if-is_like.false in absurd (cc)))

pub returns-clause-closes : goal.returns-clause-closes
returns-clause-closes c = λ track h next.
    subst (Closes track c.args.mark) (sym (rw (c.turn-2.ensures, c.count.ensures, c.ended.ensures) at c.row.ensures))
    (lane_closes c.args.self.now track c.args.mark c.in-Some.stretch c.args.step h c.in-Some.is next (λ e. let like = c.is_like.ensures.1 e in let unlike = c.if-is_like.false in absurd (cc)))
