use Rattle.std.proofs.Common.{◌+◌, ◌-◌, ◌<◌, List, length, get_or, ap, subst, ◌∙◌}
use Rattle.plan_situations.specs.Paths.{EntersAlong}
use Rattle.plan_situations.specs.Situations.{now_of}
use Rattle.plan_situations.specs.declared.situation.Target.{Target}
use Rattle.plan_situations.proofs.FlatList.{some_here}
use Rattle.planner.proofs.Places.{beside_here}
use Rattle.planner.proofs.level.enters_one.Goals as goal

pub enters_beside-requires-clause-beside : goal.enters_beside-requires-clause-beside
enters_beside-requires-clause-beside c =
    let s = c.args.situation.now in
    let T = c.index-targets-index.result in
    let inside : c.args.index < length s.targets = subst (λ (xs : List Target). c.args.index < length xs) c.as_slice-targets.ensures c.if-index-targets.true in
    beside_here s c.args.leg.now.begins (length c.args.path.now) c.args.beside.now c.args.index T c.requires.beside inside
    (c.index-targets-index.is ∙ ap (λ (xs : List Target). get_or xs c.args.index T) c.as_slice-targets.ensures) _

pub returns-then-index-targets : goal.returns-then-index-targets
returns-then-index-targets c = λ t.
    let s = c.args.situation.now in
    let T = c.index-targets-index.result in
    let Enters : Target → Type 0 = λ target. EntersAlong s c.args.leg.now.plan target (now_of s + c.args.leg.now.begins) (length c.args.path.now - 1) in
    some_here Enters s.targets c.args.index T
    (subst (λ (xs : List Target). c.args.index < length xs) c.as_slice-targets.ensures c.if-index-targets.true)
    (subst Enters (c.index-targets-index.is ∙ ap (λ (xs : List Target). get_or xs c.args.index T) c.as_slice-targets.ensures) ((c.enters_beside.ensures c.args.leg.now.plan c.requires.path.states).0 t))
