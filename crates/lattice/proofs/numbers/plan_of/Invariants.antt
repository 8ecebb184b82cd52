use Rattle.std.proofs.Common.{◌≡◌, ◌^◌, ◌-◌, ◌/◌}
use Rattle.lattice.specs.PlanNumbers.{plan_of}
use Rattle.lattice.proofs.numbers.plan_of.Given as goal

abbrev pub invariant-loop-leg : goal.invariant-loop-leg
invariant-loop-leg l = record {
  weight : l.weight ≡ l.choices ^ (l.legs - l._leg);
  plan : l.plan ≡ plan_of l.choices l._leg (l.number / l.weight);
}
