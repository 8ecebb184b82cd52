use Rattle.std.proofs.Common.{drop}
use Rattle.mtl_language.proofs.ParserRun.{Arranged}
use Rattle.mtl_language.proofs.postfix.arrange.Given as goal

abbrev pub invariant-loop-indexed : goal.invariant-loop-indexed
invariant-loop-indexed l = Arranged l.end l.tokens l.stack.items l.postfix.items (drop l.indexed-index l.tokens)
