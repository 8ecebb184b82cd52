use Rattle.std.proofs.Common.{◌≡◌, ◌+◌, take}
use Rattle.scenario_values.specs.LightRules.{greatest_weight, total_weight}
use Rattle.scenario_rules.proofs.scenario_rules.are_light.Given as goal

abbrev pub invariant-loop-k : goal.invariant-loop-k
invariant-loop-k l = total_weight (take l.k l.rules) + l.left ≡ greatest_weight
