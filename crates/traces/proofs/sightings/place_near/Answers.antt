use Rattle.std.proofs.Common.{ltb-true, sym}
use Rattle.traces.proofs.SeenVessels.{place_behind, place_here}
use Rattle.traces.proofs.sightings.place_near.Goals as goal

pub returns-then-vessel-mmsi : goal.returns-then-vessel-mmsi
returns-then-vessel-mmsi c =
    let inside = ltb-true _ _ (sym c.in-Some.ensures.lookup.0) in
    place_here c.args.mmsi c.args.seen.now c.args.place c.in-Some.vessel.now c.requires inside (sym c.in-Some.ensures.lookup.1) c.if-vessel-mmsi.true

pub returns : goal.returns
returns c = place_behind c.args.mmsi c.args.seen.now c.count_below.result c.requires c.count_below.ensures.parts
