use Rattle.std.proofs.Common.{ℕ, ◌≡◌, ◌+◌, ◌-◌, ◌∙◌, ap, arith}
use Rattle.meetings.specs.Traces.{step_at}
use Rattle.plan_situations.specs.Situations.{now_of, own_at, target_at}
use Rattle.plan_situations.proofs.situation.Situation.step_along.Goals as goal

pub returns-else-k-now-clause-value : goal.returns-else-k-now-clause-value
returns-else-k-now-clause-value c =
    let s = c.args.self.now in
    let later = c.if-k-now.false in
    let at : now_of s + 0 + (c.args.k - c.now-now.result) ≡ c.args.k = omega (arith, c.now-now.ensures.value) in
    c.step_on.ensures.value c.args.plan.now c.requires.path ∙ ap (λ (k : ℕ). step_at (own_at s c.args.plan.now) (target_at s c.args.target.now) k) at
