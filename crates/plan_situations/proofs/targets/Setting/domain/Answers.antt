use Rattle.std.proofs.Common.{refl}
use Rattle.plan_situations.proofs.Vessels.{held}
use Rattle.plan_situations.proofs.targets.Setting.domain.Goals as goal

pub returns-clause-value : goal.returns-clause-value
returns-clause-value c = λ numbers messages stands.
    let length = c.length.ensures.value numbers messages stands
    (held numbers messages c.args.vessel.now.mmsi c.args.vessel.now.latest (c.requires.near.latest numbers messages stands)) in
    rw (c.from.ensures, c.from-2.ensures, c.from-length.ensures, length) refl
