use Rattle.std.proofs.Common.{◌+◌, ◌-◌, ◌<◌, List, length, get_or, refl, ap, subst, ◌∙◌, arith}
use Rattle.plan_situations.specs.Paths.{EntersAlong}
use Rattle.plan_situations.specs.Situations.{now_of}
use Rattle.plan_situations.specs.declared.situation.Target.{Target}
use Rattle.plan_situations.proofs.FlatList.{none_some, none_so_far_of, some_here}
use Rattle.planner.proofs.Places.{beside_here}
use Rattle.planner.proofs.level.entered.Goals as goal

pub enters_beside-requires-clause-beside : goal.enters_beside-requires-clause-beside
enters_beside-requires-clause-beside c =
    let s = c.args.situation.now in
    let index = c.loop-index.index in
    let T = c.index-targets-index.result in
    let inside : index < length s.targets = subst (λ (xs : List Target). index < length xs) c.as_slice-targets.ensures c.loop-index-test.true in
    beside_here s c.args.leg.now.begins (length c.args.path.now) c.args.beside.now index T c.requires.beside inside
    (c.index-targets-index.is ∙ ap (λ (xs : List Target). get_or xs index T) c.as_slice-targets.ensures) _

pub loop-index-preserved : goal.loop-index-preserved
loop-index-preserved c =
    let s = c.args.situation.now in
    none_so_far_of (λ (T : Target). EntersAlong s c.args.leg.now.plan T (now_of s + c.args.leg.now.begins) (length c.args.path.now - 1)) s.targets c.loop-index.index c.index-targets-index.result
    (subst (λ (xs : List Target). c.loop-index.index < length xs) c.as_slice-targets.ensures c.loop-index-test.true)
    (c.index-targets-index.is ∙ ap (λ (xs : List Target). get_or xs c.loop-index.index c.index-targets-index.result) c.as_slice-targets.ensures)
    c.loop-index.invariant
    (λ h. let t = (c.enters_beside.ensures c.args.leg.now.plan c.requires.path.states).1 h in let f = c.if-enters_beside.false in cc)

pub returns-then-enters_beside : goal.returns-then-enters_beside
returns-then-enters_beside c =
    let s = c.args.situation.now in
    let T = c.index-targets-index.result in
    let Enters : Target → Type 0 = λ target. EntersAlong s c.args.leg.now.plan target (now_of s + c.args.leg.now.begins) (length c.args.path.now - 1) in (
      λ t. some_here Enters s.targets c.loop-index.index T
          (subst (λ (xs : List Target). c.loop-index.index < length xs) c.as_slice-targets.ensures c.loop-index-test.true)
          (subst Enters (c.index-targets-index.is ∙ ap (λ (xs : List Target). get_or xs c.loop-index.index T) c.as_slice-targets.ensures)
          ((c.enters_beside.ensures c.args.leg.now.plan c.requires.path.states).0 c.if-enters_beside.true)),
      λ h. refl,
    )

pub returns : goal.returns
returns c =
    let s = c.args.situation.now in (
      λ t. cc,
      λ h. absurd (none_some (λ (T : Target). EntersAlong s c.args.leg.now.plan T (now_of s + c.args.leg.now.begins) (length c.args.path.now - 1)) s.targets
          (λ k d lt. c.loop-index.invariant k d (omega (arith, ap length c.as_slice-targets.ensures))) h),
    )
