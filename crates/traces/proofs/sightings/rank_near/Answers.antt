use Rattle.std.proofs.Common.{ℕ, ltb-true, ltb-false, sym, ap, ◌∙◌, arith}
use Rattle.std.proofs.lemmas.List.{get_or_default}
use Rattle.motion.specs.declared.leg.TickState.{TickState}
use Rattle.traces.proofs.SeenVessels.{absent_there, rank_absent, rank_present}
use Rattle.traces.proofs.sightings.rank_near.Goals as goal

pub returns-in-None : goal.returns-in-None
returns-in-None c =
    let past = ltb-false _ _ (sym c.in-None.ensures.lookup.0) in
    sym (rank_absent c.args.mmsi c.args.seen.now c.args.ranks.now
    (absent_there c.args.mmsi c.args.seen.now c.place_near-place.result c.place_near-place.ensures (λ lt. absurd (omega arith))))

pub returns-then-vessel-mmsi : goal.returns-then-vessel-mmsi
returns-then-vessel-mmsi c =
    let inside = ltb-true _ _ (sym c.in-Some.ensures.lookup.0) in
    c.rank_at.ensures
    ∙ sym (rank_present c.args.mmsi c.args.seen.now c.args.ranks.now c.place_near-place.result c.in-Some.vessel.now c.requires inside (sym c.in-Some.ensures.lookup.1) c.if-vessel-mmsi.true)

pub returns-else-vessel-mmsi : goal.returns-else-vessel-mmsi
returns-else-vessel-mmsi c =
    let v = c.in-Some.vessel.now in
    let at = c.place_near-place.result in
    sym (rank_absent c.args.mmsi c.args.seen.now c.args.ranks.now
    (absent_there c.args.mmsi c.args.seen.now at c.place_near-place.ensures
    (λ lt d e. c.if-vessel-mmsi.false (ap (λ (w : ℕ × TickState). w.0) (c.in-Some.ensures.lookup.1 ∙ get_or_default c.args.seen.now at v d lt) ∙ e))))
