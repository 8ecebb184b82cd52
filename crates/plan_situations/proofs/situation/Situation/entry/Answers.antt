use Rattle.std.proofs.Common.{sym}
use Rattle.plan_situations.proofs.Entries.{entry_by_circle, entry_by_shape}
use Rattle.plan_situations.proofs.situation.Situation.entry.Goals as goal
use Rattle.plan_situations.proofs.situation.Situation.entry.Goals.{in_default-via-in-Some+in_default, in_default-via-in_default}

pub returns-in-Some-Some : goal.returns-in-Some-Some
returns-in-Some-Some c =
    entry_by_shape c.args.self.now c.args.target.now c.args.pair.now c.in-Some-Some.shape c.in-Some-Some.direction (sym c.in-Some-Some.is-0) (sym c.in-Some-Some.is-1)
    c.enters.result c.enters.ensures.none c.enters.ensures.moment c.enters.ensures.instant c.enters.ensures.inside

pub returns-in_default : goal.returns-in_default
returns-in_default c =
    entry_by_circle c.args.self.now c.args.target.now c.args.pair.now
    (λ vertices direction has heads. elim c.in_default.branch [ in_default-via-in-Some+in_default w ↦ cc | in_default-via-in_default w ↦ cc ])
    c.nearest_within.result c.nearest_within.ensures.small c.nearest_within.ensures.none c.nearest_within.ensures.moment c.nearest_within.ensures.instant c.nearest_within.ensures.nearer
