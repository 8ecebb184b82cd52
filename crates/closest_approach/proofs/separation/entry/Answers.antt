use Rattle.std.proofs.Common.{IsTrue, false}
use Rattle.closest_approach.proofs.Decision.{in_step, nearest_in_step, nearer_at}
use Rattle.closest_approach.proofs.separation.entry.Goals as goal

pub returns-else-separated-clause-instant : goal.returns-else-separated-clause-instant
returns-else-separated-clause-instant c = in_step c.args.step.now c.nearest.result c.nearest.ensures.value

pub returns-else-separated-clause-nearest : goal.returns-else-separated-clause-nearest
returns-else-separated-clause-nearest c = nearest_in_step c.args.step.now c.nearest.result c.nearest.ensures.value

pub returns-else-separated-clause-nearer : goal.returns-else-separated-clause-nearer
returns-else-separated-clause-nearer c =
    nearer_at c.args.step.now c.args.r c.nearest.result c.nearest.ensures.value (λ separated. let impossible : IsTrue false = c.if-separated.ensures.exact.1 separated in cc)
