use Rattle.formulas_rows.proofs.monitors.traces_are_followed.Goals as goal

pub copy_from-requires : goal.copy_from-requires
copy_from-requires g c =
    let one = c.feed-second.ensures in
    let two = c.feed-second-2.ensures in
    (two.fits, two.room (c.feed-first-2.ensures.room c.in_ok-two.ensures.room), one.fits, one.room (c.feed-first.ensures.room c.in_ok-one.ensures.room))
