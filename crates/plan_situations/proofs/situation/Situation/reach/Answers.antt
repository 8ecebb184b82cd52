use Rattle.std.proofs.Common.{ℕ, ◌≤◌, sym, subst, arith}
use Rattle.std.proofs.Math.Nat.{le-max_left, le-max_right}
use Rattle.plan_situations.proofs.Reaching.{reach_circle, reach_shape}
use Rattle.plan_situations.proofs.situation.Situation.reach.Goals as goal

pub returns-in-Some : goal.returns-in-Some
returns-in-Some c =
    let around = c.radius_about.result in
    let radius = c.args.target.now.domain.radius in
    reach_shape c.args.self.now c.args.target.now c.max.result (subst (λ (n : ℕ). radius ≤ n) (sym c.max.ensures) (le-max_right around radius))
    c.in-Some.shape c.in-Some.is around (subst (λ (n : ℕ). around ≤ n) (sym c.max.ensures) (le-max_left around radius)) c.radius_about.ensures.outside

pub returns-in-None : goal.returns-in-None
returns-in-None c = reach_circle c.args.self.now c.args.target.now c.args.target.now.domain.radius (omega arith) c.in-None.is
