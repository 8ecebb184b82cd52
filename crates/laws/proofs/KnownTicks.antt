-- What is known of a vessel at the ticks up to now, and what is predicted of her at those from now on.
use Rattle.std.proofs.Common.{◌≡◌, ◌∙◌, ℕ, ◌+◌, ◌-◌, ◌*◌, ◌^◌, ◌<◌, ◌≤◌, inl, inr, List, length, map, Option, None, Some, mul-le-mul, ap, sym, subst, subst₂, refl, arith}
use Rattle.std.specs.Prelude.{IfSome, slice_get}
use Rattle.std.specs.List.{range_with_len}
use Rattle.std.proofs.Math.Nat.{add-mul}
use Rattle.std.proofs.lemmas.Bool.{cases_lt}
use Rattle.std.proofs.lemmas.List.FromFn.{length-map-range_with_len}
use Rattle.fixed_geometry.specs.Sizes.{IsBelow, IsWithin}
use Rattle.fixed_geometry.specs.declared.point.Point.{Point}
use Rattle.meetings.specs.Traces.{IsShortMove}
use Rattle.motion.specs.Displacement.{displacement}
use Rattle.motion.specs.TickStates.{IsTickState, state_at}
use Rattle.motion.specs.declared.leg.Leg.{Leg}
use Rattle.motion.specs.declared.leg.TickState.{TickState}
use Rattle.plan_situations.specs.Domains.{IsDomain}
use Rattle.plan_situations.specs.KnownStates.{known_state}
use Rattle.plan_situations.specs.Prediction.{AreChanges, predicted_state}
use Rattle.plan_situations.specs.Situations.{sighting}
use Rattle.plan_situations.specs.declared.situation.Target.{Target}
use Rattle.plan_situations.specs.Inner.Facts.{IsFresh, IsKnownBelow, IsTargetOver}
use Rattle.plan_situations.proofs.Moving.{at_once, known_before, known_from, later_tick, starts, through}
use Rattle.plan_situations.proofs.TickLists.{sighting_made, slice_get_made}
use Rattle.plan_situations.proofs.Tracking.{known_so, tracked}
use Rattle.predictions.specs.declared.changes.Change.{Change}
use Rattle.scenario_values.specs.Ticks.{time_of_tick, window_end}
use Rattle.scenario_values.specs.declared.values.Window.{Window}
use Rattle.tracks.specs.declared.accepted.Accepted.{Accepted}
use Rattle.laws.proofs.FollowingReports.{IsInRegion}
use Rattle.laws.proofs.PredictedStates.{predicted_as, predicted_moves}

-- ---- states

one_seen : (o : Option TickState) (after : TickState) → ((before : TickState) → o ≡ Some before → IsBelow (2 ^ 25) (displacement before.point after.point)) → IsShortMove o (Some after)
one_seen None after h = tt
one_seen (Some before) after h = h before refl

two_seen : (o p : Option TickState) → ((before after : TickState) → o ≡ Some before → p ≡ Some after → IsBelow (2 ^ 25) (displacement before.point after.point)) → IsShortMove o p
two_seen None p h = tt
two_seen (Some before) None h = tt
two_seen (Some before) (Some after) h = h before after refl refl

wider : (o : Option TickState) → IfSome o (IsTickState 2222400000) → IfSome o (IsTickState 7900640400)
wider None h = tt
wider (Some state) h = let x = h.point.x in let y = h.point.y in record { point = record { x = omega arith; y = omega arith }; direction = h.direction; speed = h.speed }

soon : (t u length : ℕ) → u ≡ t + length → length ≤ 60 → (u - t) * 525763 + 2 < 2 ^ 25
soon t u length a b = omega arith

soon_by : (t l u length : ℕ) → t < l → l ≤ u → u ≡ t + length → length ≤ 60 → ((l - t) * 525763 + 2) + (u - l) * 525763 < 2 ^ 25
soon_by t l u length a b c d = omega arith

next_tick : (window : Window) (k : ℕ) → time_of_tick window (k + 1) ≡ time_of_tick window k + window.tick
next_tick window k = let more : (k + 1) * window.tick ≡ k * window.tick + 1 * window.tick = add-mul k 1 window.tick in omega (arith, more)

no_later : (window : Window) (k : ℕ) → k < window.ticks + 1 → time_of_tick window k ≤ window_end window
no_later window k lt = let le : k * window.tick ≤ window.ticks * window.tick = mul-le-mul (omega arith) (omega arith) in omega arith

planned : (window : Window) (positions k : ℕ) → positions * window.tick ≤ 7200 → k < positions + 1 → time_of_tick window (window.ticks + k) ≤ window_end window + 7200
planned window positions k short lt =
    let le : k * window.tick ≤ positions * window.tick = mul-le-mul (omega arith) (omega arith) in
    let more : (window.ticks + k) * window.tick ≡ window.ticks * window.tick + k * window.tick = add-mul window.ticks k window.tick in
    omega (arith, more)

-- Her legs, and her latest accepted report, which is fresh.
pub record IsKnown (window : Window) (latest : Accepted) (legs : List Leg) : Type 0 where
  pub fresh : IsFresh (window_end window) latest
  pub in_region : IsInRegion latest
  pub seen : (t : ℕ) → IfSome (state_at t legs) (IsTickState 2222400000)
  pub moves : (t u : ℕ) (before after : TickState) → t ≤ u → u ≤ t + window.tick → state_at t legs ≡ Some before → state_at u legs ≡ Some after
      → IsWithin ((u - t) * 525763 + 2) (displacement before.point after.point)
  pub comes : (t : ℕ) (before : TickState) → t < latest.time → latest.time ≤ t + window.tick → state_at t legs ≡ Some before
      → IsWithin ((latest.time - t) * 525763 + 2) (displacement before.point latest.point)

module _ (window : Window) (latest : Accepted) (legs : List Leg) (changes : List Change) (minute : window.tick ≤ 60) (is : IsKnown window latest legs) (are : AreChanges changes) where
  abbrev pub KnownAt : ℕ → Option TickState
  KnownAt k = known_state latest legs changes (window_end window) (time_of_tick window k)

  abbrev pub AheadAt : ℕ → TickState
  AheadAt k = predicted_state latest changes (window_end window) (time_of_tick window (window.ticks + k))

  abbrev Predicted : ℕ → TickState
  Predicted time = predicted_state latest changes (window_end window) time

  -- ---- at a tick

  before : (k : ℕ) → time_of_tick window k < latest.time → KnownAt k ≡ state_at (time_of_tick window k) legs
  before k lt = known_before latest legs changes (window_end window) (time_of_tick window k) lt

  from : (k : ℕ) → latest.time ≤ time_of_tick window k → KnownAt k ≡ Some (Predicted (time_of_tick window k))
  from k le = known_from latest legs changes (window_end window) (time_of_tick window k) le

  state : (k : ℕ) → time_of_tick window k ≤ window_end window + 7200 → IfSome (KnownAt k) (IsTickState 7900640400)
  state k to = elim (cases_lt (time_of_tick window k) latest.time) [
    | inl lt ↦ subst (λ (o : Option TickState). IfSome o (IsTickState 7900640400)) (sym (before k lt)) (wider (state_at (time_of_tick window k) legs) (is.seen (time_of_tick window k)))
    | inr le ↦ subst (λ (o : Option TickState). IfSome o (IsTickState 7900640400)) (sym (from k le))
        (let hour = is.fresh.fresh in predicted_as latest changes (window_end window) is.in_region are 7900640400 (time_of_tick window k) (omega arith))
  ]

  -- ---- from one tick to the next

  on_legs : (k : ℕ) → time_of_tick window (k + 1) < latest.time → IsShortMove (KnownAt k) (KnownAt (k + 1))
  on_legs k lt =
      let t = time_of_tick window k in
      let u = time_of_tick window (k + 1) in
      let next : u ≡ t + window.tick = next_tick window k in
      subst₂ IsShortMove (sym (before k (omega arith))) (sym (before (k + 1) lt))
      (two_seen (state_at t legs) (state_at u legs) (λ was now seen_was seen_now.
      at_once was.point now.point ((u - t) * 525763 + 2) (is.moves t u was now (omega arith) (omega arith) seen_was seen_now) (soon t u window.tick next minute)))

  to_latest : (k : ℕ) → time_of_tick window k < latest.time → latest.time ≤ time_of_tick window (k + 1) → IsShortMove (KnownAt k) (KnownAt (k + 1))
  to_latest k lt le =
      let t = time_of_tick window k in
      let u = time_of_tick window (k + 1) in
      let next : u ≡ t + window.tick = next_tick window k in
      let on : IsWithin ((u - latest.time) * 525763) (displacement latest.point (Predicted u).point) =
      subst (λ (p : Point). IsWithin ((u - latest.time) * 525763) (displacement p (Predicted u).point)) (starts latest changes (window_end window))
      (predicted_moves latest changes (window_end window) is.in_region are latest.time u (omega arith) le) in
      subst₂ IsShortMove (sym (before k lt)) (sym (from (k + 1) le))
      (one_seen (state_at t legs) (Predicted u) (λ was seen.
      through was.point latest.point (Predicted u).point ((latest.time - t) * 525763 + 2) ((u - latest.time) * 525763) (is.comes t was lt (omega arith) seen) on
      (soon_by t latest.time u window.tick lt le next minute)))

  ahead : (k : ℕ) → latest.time ≤ time_of_tick window k → IsShortMove (KnownAt k) (KnownAt (k + 1))
  ahead k le =
      let t = time_of_tick window k in
      let u = time_of_tick window (k + 1) in
      let next : u ≡ t + window.tick = next_tick window k in
      let small = soon t u window.tick next minute in
      subst₂ IsShortMove (sym (from k le)) (sym (from (k + 1) (omega arith)))
      (at_once (Predicted t).point (Predicted u).point ((u - t) * 525763) (predicted_moves latest changes (window_end window) is.in_region are t u le (omega arith)) (omega arith))

  move : (k : ℕ) → IsShortMove (KnownAt k) (KnownAt (k + 1))
  move k = elim (cases_lt (time_of_tick window (k + 1)) latest.time) [
    | inl lt ↦ on_legs k lt
    | inr le ↦ elim (cases_lt (time_of_tick window k) latest.time) [
      | inl before ↦ to_latest k before le
      | inr after ↦ ahead k after
    ]
  ]

  -- ---- up to now

  pub past_known : IsKnownBelow (window.ticks + 1) (sighting (map KnownAt (range_with_len 0 (window.ticks + 1))))
  past_known =
      known_so KnownAt (sighting (map KnownAt (range_with_len 0 (window.ticks + 1)))) (window.ticks + 1) (λ k lt. sighting_made KnownAt (window.ticks + 1) k lt) (record {
        states = λ k lt. state k (let le = no_later window k lt in omega arith);
        moves = λ k lt. move k;
      })

  -- ---- from now on

  known_ahead : (k : ℕ) → KnownAt (window.ticks + k) ≡ Some (AheadAt k)
  known_ahead k =
      let before = is.fresh.before in
      let later = later_tick window k in
      from (window.ticks + k) (omega arith)

  ahead_known : (positions : ℕ) → positions * window.tick ≤ 7200 → IsKnownBelow (positions + 1) (slice_get (map AheadAt (range_with_len 0 (positions + 1))))
  ahead_known positions short =
      known_so (λ (k : ℕ). Some (AheadAt k)) (slice_get (map AheadAt (range_with_len 0 (positions + 1)))) (positions + 1)
      (λ k lt. slice_get_made AheadAt (positions + 1) k lt) (record {
        states = λ k lt. subst (λ (o : Option TickState). IfSome o (IsTickState 7900640400)) (known_ahead k) (state (window.ticks + k) (planned window positions k short lt));
        moves = λ k lt. (let e : window.ticks + k + 1 ≡ window.ticks + (k + 1) = omega arith in
            subst₂ IsShortMove (known_ahead k) (ap KnownAt e ∙ known_ahead (k + 1)) (move (window.ticks + k)));
      })

  -- ---- as a target

  pub is_target : (positions : ℕ) (target : Target) → positions * window.tick ≤ 7200 → target.past ≡ map KnownAt (range_with_len 0 (window.ticks + 1))
      → target.ahead ≡ map AheadAt (range_with_len 0 (positions + 1)) → IsDomain target.domain → IsTargetOver window.ticks positions target
  is_target positions target short past-is ahead-is domain =
      let ticks = window.ticks in
      let none : ticks ≡ ticks + 0 = omega arith in
      let now : sighting target.past ticks ≡ slice_get target.ahead 0 =
      ap (λ (xs : List (Option TickState)). sighting xs ticks) past-is ∙ sighting_made KnownAt (ticks + 1) ticks (omega arith)
      ∙ ap KnownAt none ∙ known_ahead 0
      ∙ sym (ap (λ (xs : List TickState). slice_get xs 0) ahead-is ∙ slice_get_made AheadAt (positions + 1) 0 (omega arith)) in
      record {
        until_now = ap length past-is ∙ length-map-range_with_len KnownAt 0 (ticks + 1);
        from_now = ap length ahead-is ∙ length-map-range_with_len AheadAt 0 (positions + 1);
        tracked = tracked ticks positions target (subst (λ (xs : List (Option TickState)). IsKnownBelow (ticks + 1) (sighting xs)) (sym past-is) past_known)
            (subst (λ (xs : List TickState). IsKnownBelow (positions + 1) (slice_get xs)) (sym ahead-is) (ahead_known positions short)) now;
        domain = domain;
      }
