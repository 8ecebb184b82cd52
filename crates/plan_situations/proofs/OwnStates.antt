-- Own ship's states from tick to tick.
use Rattle.std.proofs.Common.{◌≡◌, ◌∙◌, ℕ, ◌+◌, ◌-◌, ◌*◌, ◌^◌, ◌<◌, ◌≤◌, inl, inr, List, length, get_or, Bool, refl, sym, ap, subst, arith, Some, None}
use Rattle.std.specs.Prelude.{Option, IfSome, IsSome, IsTrue, unwrap_or}
use Rattle.std.proofs.lemmas.Bool.{cases_lt}
use Rattle.encounters.specs.declared.pair_step.PairStep.{PairStep}
use Rattle.fixed_geometry.specs.Sizes.{IsBelow, IsWithin}
use Rattle.fixed_geometry.specs.declared.point.Point.{Point}
use Rattle.lattice.specs.OwnMotion.{own_state, point_after}
use Rattle.meetings.specs.Traces.{AreInContact, IsContact, IsShortMove, step_at, step_between}
use Rattle.motion.specs.Displacement.{displacement}
use Rattle.motion.specs.declared.leg.TickState.{TickState}
use Rattle.plan_situations.specs.Paths.{IsPath}
use Rattle.plan_situations.specs.Situations.{IsTracked, known_at, now_of, own_at, planned_state, sighting}
use Rattle.plan_situations.specs.declared.situation.Situation.{Situation}
use Rattle.plan_situations.proofs.CommonLegs.{own_before, own_from, when_less, when_not_less}

pub short_move : (tick : ℕ) (p : Point) → tick ≤ 60 → IsWithin (tick * 525763) p → IsBelow (2 ^ 25) p
short_move tick p le h = let x = h.x in let y = h.y in record { x = omega arith; y = omega arith }

by_values : (d v : Option ℕ) (P : ℕ → ℕ → Type 0) → IsSome d → IsSome v → IfSome d (λ course. IfSome v (λ speed. P course speed)) → P (unwrap_or d 0) (unwrap_or v 0)
by_values None v P some_d some_v h = cc
by_values (Some d) None P some_d some_v h = cc
by_values (Some d) (Some v) P some_d some_v h = h

-- from one tick after now to the next
pub known_move : (s : Situation) (plan : List ℕ) (k before : ℕ) (q : Point) → IsSome s.start.direction → IsSome s.start.speed
    → IfSome s.start.direction (λ course. IfSome s.start.speed (λ speed. (step : ℕ) → k ≡ step + 1
    → IsWithin (s.tick * 525763) (displacement (point_after s.lattice plan s.tick s.start.point course speed step) q)))
    → k ≡ before + 1 → IsWithin (s.tick * 525763) (displacement (planned_state s plan before).point q)
unfolding own_state
known_move s plan k before q some_d some_v h e =
    by_values s.start.direction s.start.speed (λ course speed. (step : ℕ) → k ≡ step + 1
    → IsWithin (s.tick * 525763) (displacement (point_after s.lattice plan s.tick s.start.point course speed step) q)) some_d some_v h before e

-- she is at her point of now
pub at_now : (s : Situation) (plan : List ℕ) → (planned_state s plan 0).point ≡ s.start.point
unfolding own_state point_after
at_now s plan = refl

moved_to : (o : Option TickState) (p q : TickState) → p.point ≡ q.point → IsShortMove o (Some p) → IsShortMove o (Some q)
moved_to None p q e h = tt
moved_to (Some o) p q e h = subst (λ (r : Point). IsBelow (2 ^ 25) (displacement o.point r)) e h

-- from a tick to one that is not before now
pub move_from : (s : Situation) (plan : List ℕ) (k before : ℕ) (result : TickState) → IsTracked (now_of s) (known_at s) → k ≡ before + 1 → now_of s ≤ k
    → result ≡ planned_state s plan (k - now_of s)
    → ((earlier : ℕ) → k - now_of s ≡ earlier + 1 → IsBelow (2 ^ 25) (displacement (planned_state s plan earlier).point result.point))
    → IsShortMove (own_at s plan before) (Some result)
move_from s plan k before result tracked e from is moves = elim (cases_lt before (now_of s)) [
  | inl lt ↦ (let here : k ≡ now_of s = omega arith in
      let move = tracked.moves before lt in
      let known : known_at s before ≡ sighting s.own_past before = when_less before (now_of s) (sighting s.own_past before) (Some s.start) lt in
      let next : known_at s (before + 1) ≡ Some s.start = when_not_less (before + 1) (now_of s) (sighting s.own_past (before + 1)) (Some s.start) (omega arith) in
      let none : k - now_of s ≡ 0 = omega arith in
      let place : s.start.point ≡ result.point = sym (ap (λ (state : TickState). state.point) (is ∙ ap (planned_state s plan) none) ∙ at_now s plan) in
      subst (λ (o : Option TickState). IsShortMove o (Some result)) (sym (own_before s plan before lt))
      (moved_to (sighting s.own_past before) s.start result place
      (subst (λ (o : Option TickState). IsShortMove o (Some s.start)) known (subst (λ (o : Option TickState). IsShortMove (known_at s before) o) next move))))
  | inr ge ↦ (let ahead : k - now_of s ≡ (before - now_of s) + 1 = omega arith in
      subst (λ (o : Option TickState). IsShortMove o (Some result)) (sym (own_from s plan before ge)) (moves (before - now_of s) ahead))
]

-- ---- on a path

pub own_on_path : (s : Situation) (plan : List ℕ) (first : ℕ) (path : List TickState) (j : ℕ) (d : TickState) → j < length path → IsPath s plan first path
    → own_at s plan (now_of s + first + j) ≡ Some (get_or path j d)
own_on_path s plan first path j d lt is =
    let ahead : now_of s + first + j - now_of s ≡ first + j = omega arith in
    own_from s plan (now_of s + first + j) (omega arith) ∙ (ap (λ (k : ℕ). Some (planned_state s plan k)) ahead ∙ ap (λ (state : TickState). Some state) (sym (is j d lt)))

pub step_by : (a b : ℕ → Option TickState) (k : ℕ) (own other own_next other_next : TickState) (result : Option PairStep) → a k ≡ Some own → b k ≡ Some other → a (k + 1) ≡ Some own_next
    → b (k + 1) ≡ Some other_next → result ≡ step_between (Some own) (Some other) (Some own_next) (Some other_next) → result ≡ step_at a b k
step_by a b k own other own_next other_next result e f g h is = rw (e, f, g, h) is

pub contact_by : (watch : ℕ) (o p : Option TickState) (a b : TickState) (t : Bool) → o ≡ Some a → p ≡ Some b → (IsTrue t → IsContact watch a b) × (IsContact watch a b → IsTrue t)
    → (IsTrue t → AreInContact watch o p) × (AreInContact watch o p → IsTrue t)
contact_by watch o p a b t e f h = (
  λ holds. subst (λ (x : Option TickState). AreInContact watch x p) (sym e) (subst (λ (y : Option TickState). AreInContact watch (Some a) y) (sym f) (h.0 holds)),
  λ touch. h.1 (subst (λ (y : Option TickState). AreInContact watch (Some a) y) f (subst (λ (x : Option TickState). AreInContact watch x p) e touch)),
)
