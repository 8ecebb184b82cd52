use Rattle.std.proofs.Common.{unsigned_abs, ap, ◌∙◌, arith, rules}
use Rattle.std.specs.Int.{w128}
use Rattle.std.proofs.lemmas.Int.{ints, to_z-of_z}
use Rattle.closest_approach.proofs.Choice.{start_taken, last_taken, within_taken}
use Rattle.closest_approach.proofs.nearest.nearest.Goals as goal

pub returns-then-along-ge0-clause-value : goal.returns-then-along-ge0-clause-value
returns-then-along-ge0-clause-value c = start_taken c.args.step.now c.args.ticks c.along-along.result c.along-along.ensures.value (omega (arith, ints))

pub returns-then-back-from-clause-value : goal.returns-then-back-from-clause-value
returns-then-back-from-clause-value c =
    last_taken c.args.step.now c.args.ticks c.along-along.result c.along-along.ensures.value (omega (arith, ints)) c.unsigned_abs-back.result
    (c.unsigned_abs-back.ensures.value ∙ ap unsigned_abs (to_z-of_z w128 c.along-along.result (search rules))) c.length2-length2.result
    c.length2-length2.ensures.value c.from.result c.from.ensures c.if-back-from.true c.from-then-back-from.result c.from-then-back-from.ensures

pub returns-clause-value : goal.returns-clause-value
returns-clause-value c =
    within_taken c.args.step.now c.args.ticks c.along-along.result c.along-along.ensures.value (omega (arith, ints)) c.unsigned_abs-back.result
    (c.unsigned_abs-back.ensures.value ∙ ap unsigned_abs (to_z-of_z w128 c.along-along.result (search rules))) c.length2-length2.result
    c.length2-length2.ensures.value c.from.result c.from.ensures c.if-back-from.false
