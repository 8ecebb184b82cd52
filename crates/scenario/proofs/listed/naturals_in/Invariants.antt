use Rattle.std.proofs.Common.{◌≡◌, map, take}
use Rattle.toml.specs.Data.{as_integer}
use Rattle.toml.specs.View.{view}
use Rattle.scenario_keys.specs.KeyValues.{natural_of}
use Rattle.scenario.proofs.listed.naturals_in.Given as goal

abbrev pub invariant-loop-found : goal.invariant-loop-found
invariant-loop-found l = l.naturals.items ≡ map (λ v. natural_of (as_integer (view v))) (take l.found-index l.list.items)
