use Rattle.std.proofs.Common.{subst, ℕ, ◌≤◌}
use Rattle.lattice.proofs.Digits.{inverse}
use Rattle.lattice.specs.Grids.{choices_of}
use Rattle.lattice.proofs.laws.numbers_and_plans_are_inverse.Goals as goal

pub returns : goal.returns
returns c = inverse (choices_of c.args.lattice.now) c.args.lattice.now.legs (subst (λ (n : ℕ). 1 ≤ n) c.choices-choices.ensures.value c.choices-choices.ensures.some)
