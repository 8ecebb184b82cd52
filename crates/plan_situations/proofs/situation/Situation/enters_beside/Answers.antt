use Rattle.plan_situations.proofs.Beside.{apart_along}
use Rattle.plan_situations.proofs.situation.Situation.enters_beside.Goals as goal

pub returns-then-lie_apart : goal.returns-then-lie_apart
returns-then-lie_apart c = λ plan states. (
  λ t. cc,
  λ along. absurd (apart_along c.args.self.now plan c.args.target.now c.requires.target c.args.first c.args.path.now c.requires.planned states c.requires.track
      c.args.bounds.now c.args.beside.now c.requires.bounds c.requires.beside c.reach.result (c.lie_apart.ensures.0 c.if-lie_apart.true) c.reach.ensures along),
)
