use Rattle.std.proofs.Common.{◌+◌, inl, inr, refl, arith}
use Rattle.plan_situations.specs.FailingPlans.{EntersDomain}
use Rattle.plan_situations.specs.Prefixes.{reached}
use Rattle.planner.proofs.Extending.{enters_before_or_in, enters_in_leg}
use Rattle.planner.proofs.towards.Towards.fails_by.Goals as goal

pub returns-then-enters_beside-clause-fails : goal.returns-then-enters_beside-clause-fails
returns-then-enters_beside-clause-fails c = λ cut is stands outside. (
  λ t. inl (enters_in_leg c.args.self.now.situation.now c.args.leg.now c.requires.leg c.args.path.now c.requires.path c.args.self.now.target.now
      ((c.enters_beside.ensures c.args.leg.now.plan c.requires.path.states).0 c.if-enters_beside.true)),
  λ h. refl,
)

pub returns-then-follow_from-clause-fails : goal.returns-then-follow_from-clause-fails
returns-then-follow_from-clause-fails c = λ cut is stands outside. (
  λ t. inr (c.follow_from.ensures.followed.breaks c.if-follow_from.true cut is stands),
  λ h. refl,
)

pub returns-clause-stands : goal.returns-clause-stands
returns-clause-stands c = λ e cut is stands. c.follow_from.ensures.followed.stands c.if-follow_from.false cut is stands

pub returns-clause-fails : goal.returns-clause-fails
returns-clause-fails c = λ cut is stands outside.
    let s = c.args.self.now.situation.now in
    let leg = c.args.leg.now in
    let T = c.args.self.now.target.now in
    let end = reached s (leg.index + 1) in
    let here = c.follow_from.ensures.followed.stands c.if-follow_from.false cut is stands in
    let breaks = c.ends_newly_broken.ensures.breaks leg.plan cut end (omega arith) is here in
    let out : ¬ EntersDomain s leg.plan end T = λ enters. elim (enters_before_or_in s leg c.requires.leg c.args.path.now c.requires.path T enters) [
      | inl before ↦ outside before
      | inr along ↦ (let t = (c.enters_beside.ensures leg.plan c.requires.path.states).1 along in let f = c.if-enters_beside.false in cc)
    ] in (
      λ t. inr (breaks.0 t),
      λ h. elim h [ inl enters ↦ absurd (out enters) | inr broken ↦ breaks.1 broken ],
    )
