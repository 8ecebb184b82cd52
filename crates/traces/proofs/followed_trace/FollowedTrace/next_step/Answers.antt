use Rattle.std.proofs.Common.{sym, subst}
use Rattle.std.specs.Prelude.{IfSome, Option}
use Rattle.motion.specs.declared.leg.TickState.{TickState}
use Rattle.encounters.specs.Directions.{HasDirection}
use Rattle.meetings.specs.Traces.{IsPlaced}
use Rattle.traces.proofs.SightingFacts.{directed_state, placed_state}
use Rattle.traces.proofs.followed_trace.FollowedTrace.next_step.Goals as goal

pub step_between-requires-clause-a0 : goal.step_between-requires-clause-a0
step_between-requires-clause-a0 c =
    subst (λ (o : Option TickState). IsPlaced o) (sym c.state_near-a0.ensures) (placed_state c.args.self.now.pair.subject c.args.before.now c.requires.before_placed)

pub step_between-requires-clause-b0 : goal.step_between-requires-clause-b0
step_between-requires-clause-b0 c =
    subst (λ (o : Option TickState). IsPlaced o) (sym c.state_near-b0.ensures) (placed_state c.args.self.now.pair.other c.args.before.now c.requires.before_placed)

pub step_between-requires-clause-a1 : goal.step_between-requires-clause-a1
step_between-requires-clause-a1 c =
    subst (λ (o : Option TickState). IsPlaced o) (sym c.state_near-a1.ensures) (placed_state c.args.self.now.pair.subject c.args.seen.now c.requires.placed)

pub step_between-requires-clause-b1 : goal.step_between-requires-clause-b1
step_between-requires-clause-b1 c =
    subst (λ (o : Option TickState). IsPlaced o) (sym c.state_near-b1.ensures) (placed_state c.args.self.now.pair.other c.args.seen.now c.requires.placed)

pub returns-clause-directions : goal.returns-clause-directions
returns-clause-directions c = c.step_between.ensures.directions
    (subst (λ (o : Option TickState). IfSome o HasDirection) (sym c.state_near-a0.ensures) (directed_state c.args.self.now.pair.subject c.args.before.now c.requires.before_placed))
    (subst (λ (o : Option TickState). IfSome o HasDirection) (sym c.state_near-b0.ensures) (directed_state c.args.self.now.pair.other c.args.before.now c.requires.before_placed))
