use Rattle.auditor.proofs.RowAnswers.{no_rules, one_rule_more}
use Rattle.auditor.proofs.trace.AuditTrace.mark_rules.Goals as goal

pub loop-rule-init : goal.loop-rule-init
loop-rule-init c = no_rules c.args.program.now c.args.self.now c.args.first c.args.queue.now

pub loop-rule-preserved : goal.loop-rule-preserved
loop-rule-preserved c =
    one_rule_more c.args.program.now c.args.self.now c.args.first c.loop-rule.rule c.args.queue.now c.loop-rule.queue c.mark_rule.new.queue c.loop-rule.invariant
    c.in_ok-mark_rule.ensures
