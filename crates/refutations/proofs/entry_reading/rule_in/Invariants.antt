use Rattle.std.proofs.Common.{ℕ, ◌<◌, ◌≢◌}
use Rattle.rule_set.specs.NamedTrees.{rule_at}
use Rattle.refutations.proofs.entry_reading.rule_in.Given as goal

abbrev pub invariant-loop-index : goal.invariant-loop-index
invariant-loop-index l = (i : ℕ) → i < l.index → (rule_at l.rules i).name ≢ l.name
