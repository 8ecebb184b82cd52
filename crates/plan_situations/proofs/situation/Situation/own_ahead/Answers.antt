use Rattle.plan_situations.proofs.OwnStates.{known_move, short_move}
use Rattle.plan_situations.proofs.situation.Situation.own_ahead.Goals as goal

pub returns-clause-moves : goal.returns-clause-moves
returns-clause-moves c = λ before e.
    short_move c.args.self.now.tick _ c.requires.situation.short_tick
    (known_move c.args.self.now c.args.plan.now c.args.k before c.own_motion.result.point c.requires.situation.course c.requires.situation.speed c.own_motion.ensures.moved e)
