use Rattle.std.proofs.Common.{unsigned_abs, arith}
use Rattle.std.proofs.lemmas.Int.{ints}
use Rattle.hull_domains.proofs.Sizes.{start_small}
use Rattle.hull_domains.proofs.sides.dot_at_start.Goals as goal

pub returns-clause-small : goal.returns-clause-small
returns-clause-small c =
    let h = start_small (unsigned_abs c.p.result.x) (unsigned_abs c.p.result.y) (unsigned_abs c.args.normal.x) (unsigned_abs c.args.normal.y)
    c.p.ensures.small.x c.p.ensures.small.y c.requires in
    omega (arith, ints)
