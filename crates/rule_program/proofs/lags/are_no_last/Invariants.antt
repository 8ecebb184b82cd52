use Rattle.rule_program.proofs.LagsOfRules.{HaveWholeLags}
use Rattle.rule_program.proofs.lags.are_no_last.Given as goal

abbrev pub invariant-loop-rule : goal.invariant-loop-rule
invariant-loop-rule l = HaveWholeLags l.rules l.rule
