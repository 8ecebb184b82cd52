use Rattle.std.proofs.Common.{unsigned_abs, arith}
use Rattle.std.proofs.lemmas.Int.{ints}
use Rattle.hull_domains.proofs.Sizes.{change_small}
use Rattle.hull_domains.proofs.sides.dot_of_change.Goals as goal

pub returns-clause-small : goal.returns-clause-small
returns-clause-small c =
    let h = change_small (unsigned_abs c.w.result.x) (unsigned_abs c.w.result.y) (unsigned_abs c.args.normal.x) (unsigned_abs c.args.normal.y)
    c.w.ensures.small.x c.w.ensures.small.y c.requires in
    omega (arith, ints)
