use Rattle.std.proofs.Common.{◌≡◌, take}
use Rattle.lattice.specs.PlanNumbers.{number_of}
use Rattle.lattice.proofs.numbers.number_of.Given as goal

abbrev pub invariant-loop-choice : goal.invariant-loop-choice
invariant-loop-choice l = l.number ≡ number_of l.choices (take l.choice-index l.legs)
