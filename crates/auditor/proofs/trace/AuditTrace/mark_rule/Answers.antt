use Rattle.std.proofs.Common.{refl}
use Rattle.std.proofs.lemmas.Result.{on_ok_weaker}
use Rattle.auditor.proofs.RowAnswers.{with_mark, with_none}
use Rattle.auditor.proofs.trace.AuditTrace.mark_rule.Goals as goal

pub returns-in-Some : goal.returns-in-Some
returns-in-Some c = on_ok_weaker c.mark.result
    (with_mark c.args.program.now c.args.self.now c.args.index c.args.rule c.args.queue.now c.mark.new.self c.in-Some.position c.in-Some.value
    (record { fed = c.in-Some.ensures.fed; ended = c.in-Some.ensures.ended }))
    (rw c.mark_of.ensures at c.mark.ensures)

pub returns-in-None : goal.returns-in-None
returns-in-None c = with_none c.args.program.now c.args.self.now c.args.index c.args.rule c.args.queue.now c.args.queue.now refl
    (record { fed = c.in-None.ensures.fed; ended = c.in-None.ensures.ended })
