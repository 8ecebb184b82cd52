use Rattle.std.proofs.Common.{◌<◌, refl, arith}
use Rattle.traces.specs.Inner.Distances.{component_distance_of}
use Rattle.traces.proofs.Reach.{far_apart}
use Rattle.traces.proofs.followed_trace.glance_between.Goals as goal

pub returns-else-distance-watch-clause-shows : goal.returns-else-distance-watch-clause-shows
returns-else-distance-watch-clause-shows c =
    let seen = c.in-Some-Some-Some-Some in
    let over : c.args.watch < component_distance_of seen.a.now.point seen.b.now.point = omega (arith, c.if-distance-watch.false, c.component_distance-distance.ensures.distance) in
    rw (seen.is-0, seen.is-1, seen.is-2, seen.is-3) (refl, far_apart c.args.watch seen.a.now.point seen.b.now.point over)
