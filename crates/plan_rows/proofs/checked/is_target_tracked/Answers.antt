use Rattle.std.proofs.Common.{ℕ, ◌+◌, subst, refl}
use Rattle.std.specs.Prelude.{Option, IfSome}
use Rattle.encounters.specs.Directions.{HasDirection}
use Rattle.meetings.specs.Traces.{IsPlaced, IsShortMove}
use Rattle.motion.specs.declared.leg.TickState.{TickState}
use Rattle.plan_situations.specs.Situations.{target_at}
use Rattle.planner.proofs.Grown.{grow}
use Rattle.plan_rows.proofs.checked.is_target_tracked.Goals as goal

pub loop-k-preserved : goal.loop-k-preserved
loop-k-preserved c = record {
  placed = grow (λ (i : ℕ). IsPlaced (target_at c.args.situation.now c.args.target.now i)) c.loop-k.k c.loop-k.invariant.placed
      (subst (λ (o : Option TickState). IsPlaced o) c.target_known.ensures (c.if-not-is_seen_well.ensures.placed refl));
  heads = grow (λ (i : ℕ). IfSome (target_at c.args.situation.now c.args.target.now i) HasDirection) c.loop-k.k c.loop-k.invariant.heads
      (subst (λ (o : Option TickState). IfSome o HasDirection) c.target_known.ensures (c.if-not-is_seen_well.ensures.heads refl));
}

pub loop-k-2-preserved : goal.loop-k-2-preserved
loop-k-2-preserved c =
    grow (λ (i : ℕ). IsShortMove (target_at c.args.situation.now c.args.target.now i) (target_at c.args.situation.now c.args.target.now (i + 1)))
    c.loop-k-2.k c.loop-k-2.invariant
    (subst (λ (o : Option TickState). IsShortMove (target_at c.args.situation.now c.args.target.now c.loop-k-2.k) o) c.target_known-in-loop-k-2-2.ensures
    (subst (λ (o : Option TickState). IsShortMove o c.target_known-in-loop-k-2-2.result) c.target_known-in-loop-k-2.ensures (c.if-not-is_short_move.ensures refl)))
