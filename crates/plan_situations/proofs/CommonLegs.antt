-- Plans that have legs in common move alike in them.
use Rattle.std.proofs.Common.{◌≡◌, ◌∙◌, ℕ, zero, suc, ◌+◌, ◌-◌, ◌*◌, ◌/◌, ◌<◌, ◌≤◌, ◌⊎◌, inl, inr, List, ◌∷◌, refl, sym, ap, ap₂, subst, arith, Some, None, true, false}
use Rattle.std.specs.Prelude.{Option, nat_lt, if◌then◌else◌, slice_index}
use Rattle.std.proofs.Math.Nat.{div-lt_iff_lt-mul}
use Rattle.std.proofs.lemmas.Bool.{cases_lt}
use Rattle.std.proofs.lemmas.Bool.Decides.{nat_tests}
use Rattle.encounters.specs.declared.pair_step.PairStep.{PairStep}
use Rattle.fixed_geometry.specs.Velocity.{velocity_of}
use Rattle.fixed_geometry.specs.declared.point.Point.{Point}
use Rattle.lattice.specs.Grids.{Grid, positions_of}
use Rattle.lattice.specs.OwnMotion.{begun_at, choice_in_force, direction_after, hastened, leg_in_force, ordered_course, ordered_speed, own_state, point_after, point_by, speed_after, turned}
use Rattle.lattice.specs.UnderWays.{IsReached}
use Rattle.lattice.specs.declared.under_way.UnderWay.{UnderWay}
use Rattle.meetings.specs.Traces.{AreInContact, IsContactAt, step_at, step_between, steps_from}
use Rattle.motion.specs.declared.leg.TickState.{TickState}
use Rattle.plan_situations.specs.Prefixes.{steps_told}
use Rattle.plan_situations.specs.Situations.{now_of, own_at, planned_state, sighting, target_at}
use Rattle.plan_situations.specs.declared.situation.Situation.{Situation}
use Rattle.plan_situations.specs.declared.situation.Target.{Target}

-- ---- tests

pub when_less : {X : Type 0} (a b : ℕ) (x y : X) → a < b → (if nat_lt a b then x else y) ≡ x
when_less a b x y lt = let e : nat_lt a b ≡ true = grind (arith, nat_tests) in rw e refl

pub when_not_less : {X : Type 0} (a b : ℕ) (x y : X) → b ≤ a → (if nat_lt a b then x else y) ≡ y
when_not_less a b x y le = let e : nat_lt a b ≡ false = grind (arith, nat_tests) in rw e refl

-- ---- own motion

module _ (grid : Grid) (X Y : List ℕ) (n : ℕ) (same : (step : ℕ) → step < n → choice_in_force grid X step ≡ choice_in_force grid Y step) where
  same_direction : (course k : ℕ) → k ≤ n → direction_after grid X course k ≡ direction_after grid Y course k
  unfolding direction_after
  same_direction course zero le = refl
  same_direction course (suc k) le =
      ap₂ (λ (d c : ℕ). turned grid.turn_rate d (ordered_course grid c course)) (same_direction course k (omega arith)) (same k (omega arith))

  same_speed : (speed k : ℕ) → k ≤ n → speed_after grid X speed k ≡ speed_after grid Y speed k
  unfolding speed_after
  same_speed speed zero le = refl
  same_speed speed (suc k) le =
      ap₂ (λ (v c : ℕ). hastened grid.speed_rate v (ordered_speed grid c speed)) (same_speed speed k (omega arith)) (same k (omega arith))

  pub same_point : (tick : ℕ) (p : Point) (course speed k : ℕ) → k ≤ n → point_after grid X tick p course speed k ≡ point_after grid Y tick p course speed k
  unfolding point_after
  same_point tick p course speed zero le = refl
  same_point tick p course speed (suc k) le =
      ap₂ (λ (v q : Point). point_by tick v q)
      (ap₂ (λ (d v : ℕ). velocity_of d v) (same_direction course (suc k) le) (same_speed speed (suc k) le))
      (same_point tick p course speed k (omega arith))

  pub same_state : (tick : ℕ) (p : Point) (course speed k : ℕ) → k < n → own_state grid X tick p course speed k ≡ own_state grid Y tick p course speed k
  unfolding own_state
  same_state tick p course speed k lt =
      let begun : begun_at grid k ≤ n = omega arith in
      let d = same_direction course (begun_at grid k) begun in
      let v = same_speed speed (begun_at grid k) begun in
      let q = same_point tick p course speed k (omega arith) in
      rw (q, d, v) refl

  -- where she is after the steps in common
  pub same_reached : (tick : ℕ) (start own : UnderWay) (k : ℕ) → k ≤ n → IsReached grid X tick start k own → IsReached grid Y tick start k own
  same_reached tick start own k le h = record {
    advanced = record {
      point = h.advanced.point ∙ same_point tick start.point start.direction start.speed k le;
      direction = h.advanced.direction ∙ same_direction start.direction k le;
      speed = h.advanced.speed ∙ same_speed start.speed k le;
    };
    direction = h.direction;
    speed = h.speed;
    near_x = h.near_x;
    near_y = h.near_y;
  }

-- ---- the legs in force

pub in_force : (grid : Grid) (X Y : List ℕ) (legs : ℕ) → ((i : ℕ) → i < legs → slice_index X i ≡ slice_index Y i) → 1 ≤ grid.legs → grid.legs ≤ legs ⊎ legs < grid.legs
    → (step : ℕ) → step < steps_told grid legs → choice_in_force grid X step ≡ choice_in_force grid Y step
in_force grid X Y legs same some (inl all) step lt = same (leg_in_force grid step) (omega arith)
in_force grid X Y legs same some (inr fewer) step lt =
    let within : step < legs * grid.leg_ticks = subst (λ (k : ℕ). step < k) (when_less legs grid.legs (legs * grid.leg_ticks) (positions_of grid) fewer) lt in
    let quotient : step / grid.leg_ticks < legs = in_leg grid.leg_ticks within in
    same (leg_in_force grid step) (omega arith)
  where
    in_leg : (ticks : ℕ) → step < legs * ticks → step / ticks < legs
    in_leg zero h = absurd (omega arith)
    in_leg (suc t) h = let some : 0 < suc t = omega arith in (div-lt_iff_lt-mul some).1 h

-- ---- states and steps

pub own_before : (s : Situation) (X : List ℕ) (k : ℕ) → k < now_of s → own_at s X k ≡ sighting s.own_past k
own_before s X k lt = when_less k (now_of s) (sighting s.own_past k) (Some (planned_state s X (k - now_of s))) lt

pub own_from : (s : Situation) (X : List ℕ) (k : ℕ) → now_of s ≤ k → own_at s X k ≡ Some (planned_state s X (k - now_of s))
own_from s X k le = when_not_less k (now_of s) (sighting s.own_past k) (Some (planned_state s X (k - now_of s))) le

place_of : Option TickState → Option Point
place_of None = None
place_of (Some state) = Some state.point

step_alike : (a0 b0 a1 c1 b1 : Option TickState) → place_of a1 ≡ place_of c1 → step_between a0 b0 a1 b1 ≡ step_between a0 b0 c1 b1
unfolding place_of
step_alike None b0 a1 c1 b1 e = refl
step_alike (Some a) None a1 c1 b1 e = refl
step_alike (Some a) (Some b) None None b1 e = refl
step_alike (Some a) (Some b) None (Some w) b1 e = cc
step_alike (Some a) (Some b) (Some v) None b1 e = cc
step_alike (Some a) (Some b) (Some v) (Some w) None e = refl
step_alike (Some a) (Some b) (Some v) (Some w) (Some u) e = let same : v.point ≡ w.point = cc in rw same refl

module _ (s : Situation) (X Y : List ℕ) (n : ℕ) (same : (step : ℕ) → step < n → choice_in_force s.lattice X step ≡ choice_in_force s.lattice Y step) where
  pub same_own : (k : ℕ) → k < now_of s + n → own_at s X k ≡ own_at s Y k
  same_own k lt = elim (cases_lt k (now_of s)) [
    | inl before ↦ own_before s X k before ∙ sym (own_before s Y k before)
    | inr from ↦ own_from s X k from
        ∙ (ap (λ (state : TickState). Some state) (same_state s.lattice X Y n same _ _ _ _ (k - now_of s) (omega arith)) ∙ sym (own_from s Y k from))
  ]

  same_place : (k : ℕ) → k ≤ now_of s + n → place_of (own_at s X k) ≡ place_of (own_at s Y k)
  unfolding place_of own_state
  same_place k le = elim (cases_lt k (now_of s)) [
    | inl before ↦ ap place_of (own_before s X k before ∙ sym (own_before s Y k before))
    | inr from ↦ ap place_of (own_from s X k from)
        ∙ (ap (λ (p : Point). Some p) (same_point s.lattice X Y n same _ _ _ _ (k - now_of s) (omega arith)) ∙ sym (ap place_of (own_from s Y k from)))
  ]

  pub same_step : (target : Target) (k : ℕ) → k < now_of s + n → step_at (own_at s X) (target_at s target) k ≡ step_at (own_at s Y) (target_at s target) k
  same_step target k lt =
      ap (λ (a : Option TickState). step_between a (target_at s target k) (own_at s X (k + 1)) (target_at s target (k + 1))) (same_own k lt)
      ∙ step_alike (own_at s Y k) (target_at s target k) (own_at s X (k + 1)) (own_at s Y (k + 1)) (target_at s target (k + 1)) (same_place (k + 1) (omega arith))

  pub same_steps : (target : Target) (i count : ℕ) → i + count ≤ now_of s + n → steps_from (own_at s X) (target_at s target) i count ≡ steps_from (own_at s Y) (target_at s target) i count
  same_steps target i zero le = refl
  same_steps target i (suc count) le =
      ap₂ (λ (x : Option PairStep) (xs : List (Option PairStep)). x ∷ xs) (same_step target i (omega arith)) (same_steps target (i + 1) count (omega arith))

  pub same_contact : (target : Target) (watch k : ℕ) → k < now_of s + n → IsContactAt (own_at s X) (target_at s target) watch k → IsContactAt (own_at s Y) (target_at s target) watch k
  same_contact target watch k lt h =
      subst (λ (a : Option TickState). AreInContact watch a (target_at s target k)) (same_own k lt) h
