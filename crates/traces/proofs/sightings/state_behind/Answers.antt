use Rattle.std.proofs.Common.{ℕ, ltb-true, ltb-false, refl, sym, ap, ◌∙◌, arith}
use Rattle.std.proofs.lemmas.List.{get_or_default}
use Rattle.motion.specs.declared.leg.TickState.{TickState}
use Rattle.traces.proofs.SeenVessels.{absent_at, present}
use Rattle.traces.proofs.sightings.state_behind.Goals as goal

pub returns-in_err-vessel : goal.returns-in_err-vessel
returns-in_err-vessel c =
    let past = ltb-false _ _ (sym c.in_err-vessel.ensures.lookup.0) in
    let none = absent_at c.args.mmsi c.args.seen.now c.args.below c.requires.ascending c.requires.parts (λ lt. absurd (omega arith)) in
    rw (c.from_residual.ensures, none) refl

pub returns-then-vessel-mmsi : goal.returns-then-vessel-mmsi
returns-then-vessel-mmsi c =
    let inside = ltb-true _ _ (sym c.in_ok-vessel.ensures.lookup.0) in
    sym (present c.args.mmsi c.args.seen.now c.in_ok-vessel.vessel.now c.requires.ascending (c.args.below, inside, sym c.in_ok-vessel.ensures.lookup.1) c.if-vessel-mmsi.true)

pub returns-else-vessel-mmsi : goal.returns-else-vessel-mmsi
returns-else-vessel-mmsi c =
    let v = c.in_ok-vessel.vessel.now in
    let at = c.args.below in
    sym (absent_at c.args.mmsi c.args.seen.now at c.requires.ascending c.requires.parts
    (λ lt d e. c.if-vessel-mmsi.false (ap (λ (w : ℕ × TickState). w.0) (c.in_ok-vessel.ensures.lookup.1 ∙ get_or_default c.args.seen.now at v d lt) ∙ e)))
