use Rattle.std.proofs.Common.{ℕ, ◌≤◌}
use Rattle.closest_approach.specs.Separation.{IsSeparated}
use Rattle.closest_approach.proofs.Decision.{separated_one, square_within_quotient, none_greater}
use Rattle.closest_approach.proofs.Ends.{by_ends, from_ends}
use Rattle.closest_approach.proofs.separation.least.Goals as goal

at_most : (c : goal.After-isqrt) (m : ℕ) → IsSeparated c.args.step.now m → m ≤ c.isqrt.result
at_most c m separated =
    let square = c.least_square-square in
    c.isqrt.ensures.greatest m (none_greater c.args.step.now m square.result.over square.result.under square.ensures.some (square.ensures.nearer m) separated)

up_to : (c : goal.After-isqrt) (m : ℕ) → m ≤ c.isqrt.result → IsSeparated c.args.step.now m
up_to c m le =
    let square = c.least_square-square in
    separated_one c.args.step.now m
    (square.ensures.apart m (square_within_quotient m c.isqrt.result square.result.over square.result.under le c.isqrt.ensures.square_le))

pub returns-clause-exact : goal.returns-clause-exact
returns-clause-exact c = λ m. (at_most c m, up_to c m)

pub returns-clause-ends : goal.returns-clause-ends
returns-clause-ends c =
    let step = c.args.step.now in
    λ m. (λ apart. at_most c m (from_ends step m apart), λ le. by_ends step m (up_to c m le))
