use Rattle.std.proofs.Common.{◌+◌, sym, subst, ◌∙◌}
use Rattle.traces.specs.Audited.{MoveLittle, SeenVessels}
use Rattle.auditor_rows.specs.WorkedMeeting.{seen_at}
use Rattle.auditor_rows.proofs.WorkedMeeting.{moves_on}
use Rattle.auditor_rows.proofs.audits.take.Goals as goal

pub returns-clause-moves : goal.returns-clause-moves
returns-clause-moves c = subst (λ (s : SeenVessels). MoveLittle s (seen_at c.args.encounter.now.still (c.args.k + 1))) (sym (c.in_ok-given.ensures.latest ∙ c.seen_at-seen.ensures.vessels)) (moves_on c.args.encounter.now.still c.args.k)
