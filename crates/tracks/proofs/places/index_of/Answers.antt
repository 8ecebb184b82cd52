use Rattle.std.proofs.Common.{arith}
use Rattle.tracks.proofs.Ascending.{not_among, stands_at, with_number-insert}
use Rattle.tracks.proofs.places.index_of.Goals as goal

pub returns-then-at-numbers-clause-more : goal.returns-then-at-numbers-clause-more
returns-then-at-numbers-clause-more c =
    let ns = c.args.numbers.now in
    let m = c.args.number in
    let at = c.count_below-at.result in
    with_number-insert m ns at (omega arith)
    (stands_at m ns at c.requires c.count_below-at.ensures.parts.0 c.count_below-at.ensures.parts.1 (λ lt. absurd (omega arith)))

pub returns-else-numbers-at-clause-absent : goal.returns-else-numbers-at-clause-absent
returns-else-numbers-at-clause-absent c =
    let ns = c.args.numbers.now in
    let m = c.args.number in
    let at = c.count_below-at.result in
    not_among m ns at
    (stands_at m ns at c.requires c.count_below-at.ensures.parts.0 c.count_below-at.ensures.parts.1 (λ lt. c.if-numbers-at.false))

pub returns-else-numbers-at-clause-more : goal.returns-else-numbers-at-clause-more
returns-else-numbers-at-clause-more c =
    let ns = c.args.numbers.now in
    let m = c.args.number in
    let at = c.count_below-at.result in
    with_number-insert m ns at (omega arith)
    (stands_at m ns at c.requires c.count_below-at.ensures.parts.0 c.count_below-at.ensures.parts.1 (λ lt. c.if-numbers-at.false))
