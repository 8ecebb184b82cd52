use Rattle.std.proofs.Common.{◌≡◌, ◌∙◌, length, set, ap, arith}
use Rattle.tracks.specs.Standing.{VesselValue}
use Rattle.tracks.specs.Inner.Keeping.{vessel_since}
use Rattle.tracks.proofs.Gone.{one_on}
use Rattle.tracks.proofs.book.forget_each.Goals as goal

pub loop-vessel-preserved : goal.loop-vessel-preserved
loop-vessel-preserved c =
    let items = c.args.vessels.now.items in
    let count : length c.deref_mut-vessel-items.result.now ≡ length items = ap (length {A = VesselValue}) c.deref_mut-vessel-items.ensures.value in
    ap (λ (vessel : VesselValue). set c.loop-vessel.vessel-items c.loop-vessel.vessel-index vessel) c.forget.ensures
    ∙ one_on (vessel_since c.args.gap c.args.time) items c.loop-vessel.vessel-items c.loop-vessel.vessel-index _ (omega (arith, c.loop-vessel-test.true)) c.loop-vessel.invariant
