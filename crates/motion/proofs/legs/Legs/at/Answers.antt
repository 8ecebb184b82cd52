use Rattle.std.proofs.Common.{◌≡◌, ◌∙◌, sym, ap, subst, get_or, Some, ◌-◌, true, false, ◌<◌, arith, refl}
use Rattle.std.specs.List.{All}
use Rattle.motion.specs.TickStates.{holds, state_at, state_on}
use Rattle.motion.specs.declared.leg.Leg.{Leg}
use Rattle.motion.specs.declared.leg.TickState.{TickState}
use Rattle.motion.proofs.Search.{none_begun, none_holds, no_state, state_here}
use Rattle.motion.proofs.legs.Legs.at.Goals as goal

none_of : (c : goal.Else-holds) → All (λ leg. holds c.args.time leg ≡ false) c.args.self.now
none_of c =
    let parts = rw c.deref.ensures.value at c.begun-begun.ensures.parts in
    let bound = rw c.deref.ensures.value at c.begun-begun.ensures.bound in
    let some : 0 < c.begun-begun.result = omega arith in
    let not : holds c.args.time (get_or c.self.inside.legs.items (c.begun-begun.result - 1) c.index-leg.result.now) ≡ false =
    subst (λ (leg : Leg). holds c.args.time leg ≡ false) c.index-leg.ensures (sym c.if-holds.ensures) in
    rw (← c.self.view_is) (none_holds c.self.inside.legs.items c.args.time c.begun-begun.result c.index-leg.result.now c.self.invariant parts bound some not)

pub returns-then-begun-eq0-clause-value : goal.returns-then-begun-eq0-clause-value
returns-then-begun-eq0-clause-value c =
    let parts = rw c.deref.ensures.value at c.begun-begun.ensures.parts in
    rw (← c.self.view_is) (no_state c.self.inside.legs.items c.args.time (none_begun c.self.inside.legs.items c.args.time c.begun-begun.result parts c.if-begun-eq0.true))

pub returns-then-holds-clause-value : goal.returns-then-holds-clause-value
returns-then-holds-clause-value c =
    let parts = rw c.deref.ensures.value at c.begun-begun.ensures.parts in
    let bound = rw c.deref.ensures.value at c.begun-begun.ensures.bound in
    let some : 0 < c.begun-begun.result = omega arith in
    let held : holds c.args.time (get_or c.self.inside.legs.items (c.begun-begun.result - 1) c.index-leg.result.now) ≡ true =
    subst (λ (leg : Leg). holds c.args.time leg ≡ true) c.index-leg.ensures (sym c.if-holds.ensures) in
    let here = state_here c.self.inside.legs.items c.args.time c.begun-begun.result c.index-leg.result.now parts bound some held in
    let same : c.state.result ≡ state_on c.args.time (get_or c.self.inside.legs.items (c.begun-begun.result - 1) c.index-leg.result.now) =
    c.state.ensures.value ∙ ap (state_on c.args.time) c.index-leg.ensures in
    ap (λ (s : TickState). Some s) same ∙ (here ∙ ap (state_at c.args.time) c.self.view_is)

pub returns-else-holds-clause-value : goal.returns-else-holds-clause-value
returns-else-holds-clause-value c = no_state c.args.self.now c.args.time (none_of c)

pub returns-else-holds-clause-none : goal.returns-else-holds-clause-none
returns-else-holds-clause-none c = (λ _. none_of c, λ _. refl)
