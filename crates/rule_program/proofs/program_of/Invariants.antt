use Rattle.std.proofs.Common.{◌≡◌, map, take}
use Rattle.mtl_monitor.specs.Following.{IsProgramOf, count_of}
use Rattle.rule_set.specs.NamedTrees.{NamedTree}
use Rattle.rule_program.proofs.program_of.Given as goal

abbrev pub invariant-loop-rule : goal.invariant-loop-rule
invariant-loop-rule l = record {
  count : count_of l.program ≡ l.rule;
  formulas : IsProgramOf l.program (map (λ (r : NamedTree). r.tree) (take l.rule l.rules));
}
