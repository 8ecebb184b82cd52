use Rattle.std.proofs.Common.{◌≡◌, take}
use Rattle.mtl_monitor.specs.Following.{count_of}
use Rattle.early_monitor.specs.Inner.RulesWatched.{IsPlainProgram}
use Rattle.early_monitor.proofs.rule_lists.plain_program.Given as goal

abbrev pub invariant-loop-rule : goal.invariant-loop-rule
invariant-loop-rule l = record {
  count : count_of l.program ≡ l.rule;
  plain : IsPlainProgram l.program (take l.rule l.early) (take l.rule l.rules);
}
