use Rattle.std.proofs.Common.{ltb-true, sym}
use Rattle.traces.proofs.SeenVessels.{present}
use Rattle.traces.proofs.sightings.state_near.Goals as goal

pub returns-then-vessel-mmsi : goal.returns-then-vessel-mmsi
returns-then-vessel-mmsi c =
    let inside = ltb-true _ _ (sym c.in-Some.ensures.lookup.0) in
    sym (present c.args.mmsi c.args.seen.now c.in-Some.vessel.now c.requires (c.args.place.now, inside, sym c.in-Some.ensures.lookup.1) c.if-vessel-mmsi.true)
