use Rattle.plan_situations.proofs.OwnStates.{move_from}
use Rattle.plan_situations.proofs.situation.Situation.own_at.Goals as goal

pub returns-else-k-now-clause-moves : goal.returns-else-k-now-clause-moves
returns-else-k-now-clause-moves c = λ before e.
    move_from c.args.self.now c.args.plan.now c.args.k before _ c.requires.situation.tracked e (rw (← c.now-now.ensures.value) c.if-k-now.false) (rw (← c.now-now.ensures.value) c.own_ahead.ensures.value)
    (rw (← c.now-now.ensures.value) c.own_ahead.ensures.moves)
