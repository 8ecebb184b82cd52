use Rattle.plan_situations.proofs.Moving.{to_predicted}
use Rattle.plan_situations.proofs.track.KnownTrack.predicted.Goals as goal

pub returns-clause-moves : goal.returns-clause-moves
returns-clause-moves c = λ earlier next.
    to_predicted c.args.self.now c.requires.track earlier c.args.tick next c.predicted.result c.requires.from
    (rw (c.time.ensures, c.time-now.ensures) at c.predicted.ensures.moves)
