use Rattle.std.proofs.Common.{pos, ◌*ℤ◌, ◌+ℤ◌, ℤ, ap, ◌∙◌, arith, w64}
use Rattle.std.proofs.lemmas.Int.{to_z-of_z}
use Rattle.drill_log.proofs.Sums.{sum_fits, sum_is}
use Rattle.drill_log.proofs.vessel.reached.Goals as goal

pub overflow_cast-result : goal.overflow_cast-result
overflow_cast-result c =
    sum_fits c.args.reference c.args.start c.gone.result c.from.result c.from-2.result c.from.ensures c.from-2.ensures c.requires.reference c.requires.start
    (omega (arith, c.gone.ensures.small, c.requires.minutes))

pub returns : goal.returns
returns c =
    sum_is c.args.reference c.args.start c.gone.result c.from.result c.from-2.result c.from.ensures c.from-2.ensures c.requires.reference c.requires.start
    (omega (arith, c.gone.ensures.small, c.requires.minutes))
    ∙ ap (λ (gone : ℤ). c.args.reference +ℤ c.args.start +ℤ gone) (c.gone.ensures.value ∙ ap (λ (way : ℤ). pos c.args.minutes *ℤ way) (to_z-of_z w64 c.args.way c.ranges.way))
