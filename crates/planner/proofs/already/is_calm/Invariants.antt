use Rattle.std.proofs.Common.{◌≢◌, ℕ, ◌<◌}
use Rattle.mtl_formulas.specs.declared.verdict.Verdict.TheVariants.{No}
use Rattle.mtl_monitor.specs.Following.{last_value}
use Rattle.planner.proofs.already.is_calm.Given as goal

abbrev pub invariant-loop-rule : goal.invariant-loop-rule
invariant-loop-rule l = (rule : ℕ) → rule < l.rule → last_value l.program l.values rule ≢ No
