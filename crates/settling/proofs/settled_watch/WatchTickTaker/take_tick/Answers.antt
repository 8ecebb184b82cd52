use Rattle.settling.proofs.WatchedTicks.{watch_step}
use Rattle.settling.proofs.settled_watch.WatchTickTaker.take_tick.Goals as goal

pub returns-clause-takes : goal.returns-clause-takes
returns-clause-takes c =
    let told = c.step.ensures in
    watch_step c.args.self.now c.step.new.self (record { vessels = c.args.seen.now; ranks = c.args.ranks.now }) c.step.result
    told.sound told.given told.last_tick told.stands told.all told.few

pub returns-clause-many : goal.returns-clause-many
returns-clause-many c = λ is numbers before given up. c.step.ensures.many is numbers before up.stands
