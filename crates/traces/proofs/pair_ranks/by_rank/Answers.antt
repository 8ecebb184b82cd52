use Rattle.std.proofs.Common.{refl}
use Rattle.traces.proofs.ByRanks.{told_so}
use Rattle.traces.proofs.pair_ranks.by_rank.Goals as goal

pub returns : goal.returns
returns c =
    let gives = told_so c.args.a c.args.b c.gives.result c.gives.ensures in
    let stands = told_so c.args.b c.args.a c.gives-2.result c.gives-2.ensures in
    rw (gives, stands, c.are_power.ensures) refl
