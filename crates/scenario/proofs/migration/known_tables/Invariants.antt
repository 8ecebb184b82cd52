use Rattle.std.proofs.Common.{◌≡◌, map, take}
use Rattle.toml.specs.View.{view}
use Rattle.scenario.specs.Migration.{known_members}
use Rattle.scenario.proofs.migration.known_tables.Given as goal

abbrev pub invariant-loop-here : goal.invariant-loop-here
invariant-loop-here l = map view l.known.items ≡ map (λ v. known_members l.list (view v)) (take l.here-index l.tables.items)
