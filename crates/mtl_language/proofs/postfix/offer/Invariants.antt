use Rattle.std.proofs.Common.{length}
use Rattle.mtl_language.proofs.ParserLoops.{Offered}
use Rattle.mtl_language.proofs.postfix.offer.Given as goal

abbrev pub invariant-loop-expected : goal.invariant-loop-expected
invariant-loop-expected l = Offered l.token l.fn.stack.items l.stack.items l.fn.postfix.items l.postfix.items

abbrev pub decreases-loop-expected : goal.decreases-loop-expected
decreases-loop-expected l = length l.stack.items
