use Rattle.std.proofs.Common.{map, take}
use Rattle.toml.specs.View.{view}
use Rattle.scenario_rules.specs.Inner.{Stands}
use Rattle.scenario_rules.proofs.scenario_rules.all_rules.Given as goal

abbrev pub invariant-loop-table : goal.invariant-loop-table
invariant-loop-table l = Stands l.fn.ranks l.tick l.numbers (map view (take l.table-index l.tables)) l.rules l.item
