use Rattle.plan_situations.proofs.Entries.{entered_circle}
use Rattle.plan_situations.proofs.situation.Situation.enters.Goals as goal
use Rattle.plan_situations.proofs.situation.Situation.enters.Goals.{in_default-via-in-Some+in_default, in_default-via-in_default}

pub returns-in_default : goal.returns-in_default
returns-in_default c =
    entered_circle c.args.self.now c.args.target.now c.args.pair.now
    (λ vertices direction has heads. elim c.in_default.branch [ in_default-via-in-Some+in_default w ↦ cc | in_default-via-in_default w ↦ cc ])
    c.separated.result c.separated.ensures.exact
