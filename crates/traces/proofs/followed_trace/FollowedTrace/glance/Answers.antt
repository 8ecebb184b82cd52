use Rattle.std.proofs.Common.{◌≡◌, ◌∙◌, ℕ, ap, sym, subst}
use Rattle.std.specs.Option.{option_copied}
use Rattle.std.specs.Prelude.{Option}
use Rattle.std.proofs.lemmas.Option.{IfSome_then}
use Rattle.encounters.specs.Standing.{IsStateAfter}
use Rattle.encounters.specs.declared.engagement_state.EngagementState.TheVariants.{Apart}
use Rattle.mtl_formulas.specs.declared.glance.Glance.TheVariants as glance
use Rattle.encounters.specs.declared.pair_step.PairStep.{PairStep}
use Rattle.meetings.specs.Traces.{IsPlaced, step_between}
use Rattle.meetings.specs.declared.pair.Pair.{Pair}
use Rattle.motion.specs.declared.leg.TickState.{TickState}
use Rattle.traces.specs.Audited.{state_in, step_of, terms_of, trace_ranks}
use Rattle.traces.specs.Inner.Distances.{AreFarUntil}
use Rattle.traces.specs.Inner.TracesKept.{ShowsApart}
use Rattle.traces.proofs.Drifting.{shows_far}
use Rattle.traces.proofs.SightingFacts.{placed_state}
use Rattle.traces.proofs.StayingApart.{follows_apart}
use Rattle.traces.proofs.followed_trace.FollowedTrace.glance.Goals as goal

pub glance_between-requires-clause-a0 : goal.glance_between-requires-clause-a0
glance_between-requires-clause-a0 c =
    subst (λ (o : Option TickState). IsPlaced o) (sym c.state_near-a0.ensures) (placed_state c.args.self.now.pair.subject c.args.before.now c.requires.before_placed)

pub glance_between-requires-clause-b0 : goal.glance_between-requires-clause-b0
glance_between-requires-clause-b0 c =
    subst (λ (o : Option TickState). IsPlaced o) (sym c.state_near-b0.ensures) (placed_state c.args.self.now.pair.other c.args.before.now c.requires.before_placed)

pub glance_between-requires-clause-far : goal.glance_between-requires-clause-far
glance_between-requires-clause-far c =
    subst (λ (o : Option TickState). AreFarUntil c.args.watch c.args.drift c.args.self.now.far_until o (option_copied c.state_near-b0.result)) (sym c.state_near-a0.ensures)
    (subst (λ (o : Option TickState). AreFarUntil c.args.watch c.args.drift c.args.self.now.far_until (state_in c.args.self.now.pair.subject c.args.before.now) o) (sym c.state_near-b0.ensures)
    c.requires.far)

pub returns-then-drift-self-clause-rests : goal.returns-then-drift-self-clause-rests
returns-then-drift-self-clause-rests c = λ numbers ticks known h same short.
    let was : IsStateAfter numbers.detect known.steps Apart =
    rw c.in-Apart.is at (c.state.ensures (terms_of numbers) (trace_ranks ticks known.pair known.start) known.steps h.follows) in
    let before = c.args.before.now in
    let seen = c.args.seen.now in
    let own = shows_far c.args.watch c.args.drift before seen c.args.self.now (c.requires.same c.if-same.true) c.if-drift-self.true c.requires.far in
    let here = subst (λ (pair : Pair). ShowsApart c.args.watch (step_of pair before seen) glance.Apart) h.pair own in
    follows_apart numbers ticks _ known (step_of known.pair before seen) glance.Apart (record { pair = h.pair; start = h.start; follows = h.follows }) short was
    (subst (λ (watch : ℕ). ShowsApart watch (step_of known.pair before seen) glance.Apart) same here)

pub returns-clause-rests : goal.returns-clause-rests
returns-clause-rests c = IfSome_then c.glance_between.result c.glance_between.ensures.shows (λ glance shows numbers ticks known h same short.
    let was : IsStateAfter numbers.detect known.steps Apart =
    rw c.in-Apart.is at (c.state.ensures (terms_of numbers) (trace_ranks ticks known.pair known.start) known.steps h.follows) in
    let before = c.args.before.now in
    let seen = c.args.seen.now in
    let between : Option PairStep =
    step_between (option_copied c.state_near-a0.result) (option_copied c.state_near-b0.result) (option_copied c.state_near-a1.result) (option_copied c.state_near-b1.result) in
    let own : between ≡ step_of c.args.self.now.pair before seen =
    λ i. step_between (c.state_near-a0.ensures i) (c.state_near-b0.ensures i) (c.state_near-a1.ensures i) (c.state_near-b1.ensures i) in
    let here : between ≡ step_of known.pair before seen = own ∙ ap (λ (pair : Pair). step_of pair before seen) h.pair in
    follows_apart numbers ticks _ known (step_of known.pair before seen) glance (record { pair = h.pair; start = h.start; follows = h.follows }) short was
    (subst (λ (o : Option PairStep). ShowsApart numbers.detect.watch o glance) here (subst (λ (watch : ℕ). ShowsApart watch between glance) same shows)))
