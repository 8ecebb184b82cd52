use Rattle.settling.proofs.AuditedTicks.{audit_step}
use Rattle.settling.proofs.settled_audit.AuditTickTaker.take_tick.Goals as goal

pub returns-clause-takes : goal.returns-clause-takes
returns-clause-takes c =
    let told = c.step_ranked.ensures in
    audit_step c.args.self.now c.step_ranked.new.self (record { vessels = c.args.seen.now; ranks = c.args.ranks.now }) c.step_ranked.result
    told.sound told.given told.last_tick told.stands told.rows told.few

pub returns-clause-many : goal.returns-clause-many
returns-clause-many c = λ is numbers before given up. c.step_ranked.ensures.many is numbers before given up.stands
