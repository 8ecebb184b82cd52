use Rattle.std.proofs.Common.{◌+◌, sym, subst, ◌∙◌}
use Rattle.traces.specs.Audited.{MoveLittle, SeenVessels}
use Rattle.auditor_rows.specs.WorkedMeeting.{head_on_at}
use Rattle.auditor_rows.proofs.WorkedMeeting.{moves_at}
use Rattle.auditor_rows.proofs.alarms.take.Goals as goal

pub returns-clause-moves : goal.returns-clause-moves
returns-clause-moves c = subst (λ (s : SeenVessels). MoveLittle s (head_on_at (c.args.k + 1))) (sym (c.in_ok-given.ensures.latest ∙ c.head_on-seen.ensures)) (moves_at c.args.k)
