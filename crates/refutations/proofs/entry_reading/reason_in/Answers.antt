use Rattle.refutations.proofs.ToldEntries.{empty, not_empty, reason_rule}
use Rattle.refutations.proofs.entry_reading.reason_in.Goals as goal

pub returns-then-not-is_empty-2 : goal.returns-then-not-is_empty-2
returns-then-not-is_empty-2 c = λ reason h.
    not_empty c.args.b.now c.is_empty-2.result c.is_empty-2.ensures c.if-not-is_empty-2.true
    (reason_rule c.args.situation.now c.args.name.now c.args.step.now c.args.a.now c.args.b.now reason h (empty c.args.a.now c.is_empty.result c.is_empty.ensures c.if-not-is_empty.false)).0

pub returns-in-None-rule_in : goal.returns-in-None-rule_in
returns-in-None-rule_in c = λ reason h.
    let found = (reason_rule c.args.situation.now c.args.name.now c.args.step.now c.args.a.now c.args.b.now reason h (empty c.args.a.now c.is_empty.result c.is_empty.ensures c.if-not-is_empty.false)).1 in
    c.in-None-rule_in.ensures found.0 found.1 found.2
