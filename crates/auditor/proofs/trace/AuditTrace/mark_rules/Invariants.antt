use Rattle.auditor.specs.Inner.RowAnswers.{MarksRules}
use Rattle.auditor.proofs.trace.AuditTrace.mark_rules.Given as goal

abbrev pub invariant-loop-rule : goal.invariant-loop-rule
invariant-loop-rule l = MarksRules l.program l.self l.first l.rule l.fn.queue l.queue
