use Rattle.std.proofs.Common.{◌≡◌, ◌++◌, ◌-◌, ◌≤◌, length, drop}
use Rattle.mtl_language.specs.FormulaTokens.{tokens_from}
use Rattle.mtl_language.proofs.tokens.split.Given as goal

abbrev pub decreases-loop-at : goal.decreases-loop-at
decreases-loop-at l = length l.initial.text - l.at

abbrev pub invariant-loop-at : goal.invariant-loop-at
invariant-loop-at l = record {
  within : l.at ≤ length l.text;
  told : l.tokens.items ++ tokens_from 0 l.at (drop l.at l.text) ≡ tokens_from 0 0 l.text;
}
