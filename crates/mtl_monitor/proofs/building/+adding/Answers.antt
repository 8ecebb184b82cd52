use Rattle.mtl_monitor.proofs.building.+adding.Goals as goal

pub add_not-returns-clause-made : goal.add_not-returns-clause-made
add_not-returns-clause-made t c = let x = c.in_ok-x.ensures.made in rw (x.0, x.1) at c.put.ensures.made

pub add_pair-returns-clause-made : goal.add_pair-returns-clause-made
add_pair-returns-clause-made t c =
    let x = c.in_ok-x.ensures.made in
    let y = c.in_ok-y.ensures.made in
    rw (y.0, y.1, x.0, x.1) at c.join.ensures.made

pub add_span-returns-in-F-clause-made : goal.add_span-returns-in-F-clause-made
add_span-returns-in-F-clause-made t c =
    let x = c.in_ok-x.ensures.made in rw (c.in-F.is) (rw (x.0, x.1) at c.look_ahead.ensures.made)

pub add_span-returns-in-G-clause-made : goal.add_span-returns-in-G-clause-made
add_span-returns-in-G-clause-made t c =
    let x = c.in_ok-x.ensures.made in rw (c.in-G.is) (rw (x.0, x.1) at c.look_ahead-in-G.ensures.made)

pub add_span-returns-in-O-clause-made : goal.add_span-returns-in-O-clause-made
add_span-returns-in-O-clause-made t c =
    let x = c.in_ok-x.ensures.made in rw (c.in-O.is) (rw (x.0, x.1) at c.look_back.ensures.made)

pub add_span-returns-in-H-clause-made : goal.add_span-returns-in-H-clause-made
add_span-returns-in-H-clause-made t c =
    let x = c.in_ok-x.ensures.made in rw (c.in-H.is) (rw (x.0, x.1) at c.look_back-in-H.ensures.made)

pub add_link-returns-in-U-clause-made : goal.add_link-returns-in-U-clause-made
add_link-returns-in-U-clause-made t c =
    let x = c.in_ok-x.ensures.made in
    let y = c.in_ok-y.ensures.made in
    rw (c.in-U.is) (rw (y.0, y.1, x.0, x.1) at c.look_until.ensures.made)

pub add_link-returns-in-S-clause-made : goal.add_link-returns-in-S-clause-made
add_link-returns-in-S-clause-made t c =
    let x = c.in_ok-x.ensures.made in
    let y = c.in_ok-y.ensures.made in
    rw (c.in-S.is) (rw (y.0, y.1, x.0, x.1) at c.look_since.ensures.made)
