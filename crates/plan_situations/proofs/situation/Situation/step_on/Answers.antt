use Rattle.std.proofs.Common.{◌≡◌, ◌+◌, ◌∙◌, ap, arith}
use Rattle.plan_situations.specs.Situations.{now_of, own_at, target_at}
use Rattle.plan_situations.proofs.OwnStates.{own_on_path, step_by}
use Rattle.plan_situations.proofs.situation.Situation.step_on.Goals as goal

pub returns-clause-value : goal.returns-clause-value
returns-clause-value c = λ plan is.
    let s = c.args.self.now in
    let T = c.args.target.now in
    let before = c.requires.step in
    let here : now_of s + c.args.first + c.args.j ≡ now_of s + (c.args.first + c.args.j) = omega arith in
    let next : now_of s + c.args.first + c.args.j + 1 ≡ now_of s + (c.args.first + c.args.j + 1) = omega arith in
    let further : now_of s + c.args.first + c.args.j + 1 ≡ now_of s + c.args.first + (c.args.j + 1) = omega arith in
    step_by (own_at s plan) (target_at s T) (now_of s + c.args.first + c.args.j) _ _ _ _ c.step_between.result
    (own_on_path s plan c.args.first c.args.path.now c.args.j _ (omega (arith, before)) is)
    (ap (target_at s T) here ∙ c.target_ahead-other.ensures)
    (ap (own_at s plan) further ∙ own_on_path s plan c.args.first c.args.path.now (c.args.j + 1) _ before is)
    (ap (target_at s T) next ∙ c.target_ahead-other_next.ensures)
    c.step_between.ensures.value
