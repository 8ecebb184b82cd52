use Rattle.std.proofs.Common.{drop}
use Rattle.mtl_language.proofs.Refusals.{Scanned}
use Rattle.mtl_language.proofs.numbers.first_refused.Given as goal

abbrev pub invariant-loop-indexed : goal.invariant-loop-indexed
invariant-loop-indexed l = Scanned l.tick l.tokens (drop l.indexed-index l.tokens) l.earlier l.previous
