use Rattle.std.proofs.Common.{◌≡◌, ◌≢◌, ℕ, inl, inr, ◌+◌, ◌*◌, ◌<◌, List, length, unsigned_abs, arith, get_or, subst, sym, ap, ◌∙◌}
use Rattle.std.specs.Prelude.{slice_set}
use Rattle.std.proofs.lemmas.Bool.{cases_lt}
use Rattle.std.proofs.lemmas.Grind.{common_steps}
use Rattle.std.proofs.lemmas.List.{get_or-set_other}
use Rattle.fixed_geometry.specs.Displacement.{displacement}
use Rattle.fixed_geometry.specs.Sizes.{IsWithin}
use Rattle.fixed_geometry.specs.declared.point.Point.{Point}
use Rattle.fixed_geometry.specs.declared.velocities.TheConstants.{GREATEST_VELOCITY}
use Rattle.motion.specs.TickStates.{IsTickState}
use Rattle.motion.specs.declared.leg.TickState.{TickState}
use Rattle.motion.specs.declared.leg.TheConstants.{FARTHEST}
use Rattle.lattice.specs.Inner.Passages.{IsPassage}
use Rattle.lattice.specs.OwnMotion.{own_state}
use Rattle.lattice.specs.UnderWays.{HasAdvanced}
use Rattle.lattice.proofs.Advancing.{still_near}
use Rattle.lattice.proofs.lattice.Lattice.fill.Goals as goal

set_here : (path : List TickState) (j i : ℕ) (state d : TickState) → j < length path → i + 1 ≡ j + 1 → get_or (slice_set path j state) i d ≡ state
set_here path j i state d lt e = grind (arith, common_steps)

-- the states so far, and one more
one_state_more : (path : List TickState) (j : ℕ) (state : TickState) (told : ℕ → TickState) → j < length path → state ≡ told j
    → ((i : ℕ) (d : TickState) → i < j → get_or path i d ≡ told i) → (i : ℕ) (d : TickState) → i < j + 1 → get_or (slice_set path j state) i d ≡ told i
one_state_more path j state told lt here before i d less = grind (arith, common_steps)

set_before : (path : List TickState) (j i : ℕ) (state d : TickState) → i < j → get_or (slice_set path j state) i d ≡ get_or path i d
set_before path j i state d lt = let other : i ≢ j = λ e. omega arith in get_or-set_other path j i state d other

-- what holds of each state so far and of one more
each_more : (Is : TickState → Type 0) (path : List TickState) (j : ℕ) (state : TickState) → j < length path → Is state
    → ((i : ℕ) (d : TickState) → i < j → Is (get_or path i d)) → (i : ℕ) (d : TickState) → i < j + 1 → Is (get_or (slice_set path j state) i d)
each_more Is path j state lt here before i d less =
    elim (cases_lt i j) [
      | inl earlier ↦ subst Is (sym (set_before path j i state d earlier)) (before i d earlier)
      | inr last ↦ subst Is (sym (set_here path j i state d lt (omega arith))) here
    ]

-- what holds from each place so far to the next, and to one more
next_more : (Leads : Point → Point → Type 0) (path : List TickState) (j : ℕ) (state : TickState) → j < length path
    → ((i : ℕ) (d : TickState) → i + 1 < j → Leads (get_or path i d).point (get_or path (i + 1) d).point)
    → ((i : ℕ) (d : TickState) → i + 1 ≡ j → Leads (get_or path i d).point state.point)
    → (i : ℕ) (d : TickState) → i + 1 < j + 1 → Leads (get_or (slice_set path j state) i d).point (get_or (slice_set path j state) (i + 1) d).point
next_more Leads path j state lt before last i d less =
    rw (set_before path j i state d (omega arith)) (elim (cases_lt (i + 1) j) [
      | inl earlier ↦ rw (set_before path j (i + 1) state d earlier) (before i d earlier)
      | inr over ↦ rw (set_here path j (i + 1) state d lt (omega arith)) (last i d (omega arith))
    ])

pub loop-j-preserved : goal.loop-j-preserved
loop-j-preserved c = record {
  count = grind (arith, common_steps);
  advanced = λ h.
      let next : c.args.first + c.loop-j.j + 1 ≡ c.args.first + (c.loop-j.j + 1) = omega arith in
      subst (λ (k : ℕ). HasAdvanced c.args.self.now c.args.plan.now c.args.tick c.args.start k c.tick_on.result.1.vessel) next
      (c.tick_on.ensures.advanced (c.loop-j.invariant.advanced (omega arith)) (omega arith));
  passage = λ h.
      let next : c.args.first + c.loop-j.j + 1 ≡ c.args.first + (c.loop-j.j + 1) = omega arith in
      subst (λ (k : ℕ). IsPassage c.args.self.now c.args.plan.now c.args.tick c.args.start k c.tick_on.result.1) next (c.tick_on.ensures.passage (omega arith));
  value = one_state_more c.loop-j.path c.loop-j.j c.tick_on.result.0
      (λ i. own_state c.args.self.now c.args.plan.now c.args.tick c.args.start.point c.args.start.direction c.args.start.speed (c.args.first + i))
      (omega arith) (c.tick_on.ensures.value (c.loop-j.invariant.advanced (omega arith))) c.loop-j.invariant.value;
  moved = next_more (λ p q. IsWithin (c.args.tick * GREATEST_VELOCITY) (displacement p q)) c.loop-j.path c.loop-j.j c.tick_on.result.0 (omega arith) c.loop-j.invariant.moved
      (λ i d e. subst (λ (p : Point). IsWithin (c.args.tick * GREATEST_VELOCITY) (displacement (get_or c.loop-j.path i d).point p)) (sym c.tick_on.ensures.point) (c.loop-j.invariant.last i d e));
  last = λ i d e.
      subst (λ (p : Point). IsWithin (c.args.tick * GREATEST_VELOCITY) (displacement p c.tick_on.result.1.vessel.point))
      (sym (ap (λ (s : TickState). s.point) (set_here c.loop-j.path c.loop-j.j i c.tick_on.result.0 d (omega arith) e) ∙ c.tick_on.ensures.point)) c.tick_on.ensures.moved;
  states = each_more (IsTickState FARTHEST) c.loop-j.path c.loop-j.j c.tick_on.result.0 (omega arith) c.tick_on.ensures.state c.loop-j.invariant.states;
  near_x = grind (arith, common_steps);
  near_y = grind (arith, common_steps);
}

pub tick_on-requires-clause-point : goal.tick_on-requires-clause-point
tick_on-requires-clause-point c =
    let start = c.requires.start.point in
    record {
      x = still_near (unsigned_abs c.args.start.point.x) _ (c.args.first + c.loop-j.j) _ (c.args.tick * GREATEST_VELOCITY) _ start.x c.requires.near (omega arith) c.loop-j.invariant.near_x;
      y = still_near (unsigned_abs c.args.start.point.y) _ (c.args.first + c.loop-j.j) _ (c.args.tick * GREATEST_VELOCITY) _ start.y c.requires.near (omega arith) c.loop-j.invariant.near_y;
    }
