use Rattle.mtl_language.proofs.ParserLoops.{Left}
use Rattle.mtl_language.proofs.postfix.finish.Given as goal

abbrev pub invariant-loop-expected : goal.invariant-loop-expected
invariant-loop-expected l = Left l.fn.stack.items l.stack.items l.fn.postfix.items l.postfix.items

abbrev pub decreases-loop-expected : goal.decreases-loop-expected
decreases-loop-expected l = goal.left-loop-expected l
