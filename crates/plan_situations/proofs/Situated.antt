-- What is prepared is a situation in which a plan may be searched for.
use Rattle.std.proofs.Common.{◌≡◌, ◌∙◌, ℕ, suc, ◌+◌, ◌-◌, ◌*◌, ◌^◌, ◌<◌, ◌≤◌, inl, inr, List, [], ◌∷◌, length, map, get_or, refl, ap, subst, subst₂, sym, arith, Some, None}
use Rattle.std.specs.Prelude.{Option, IfSome, IsSome, nat_lt, if◌then◌else◌}
use Rattle.std.specs.List.{All, AllPairs}
use Rattle.std.proofs.lemmas.Bool.{cases_lt}
use Rattle.std.proofs.lemmas.Bool.Decides.{nat_tests}
use Rattle.std.proofs.lemmas.List.Elements.{All-map}
use Rattle.std.proofs.lemmas.List.Kept.{AllPairs-cons}
use Rattle.std.proofs.lemmas.List.FromFn.{length-map-range_with_len}
use Rattle.encounters.specs.Risk.{IsDetect}
use Rattle.fixed_geometry.specs.Sizes.{IsBelow}
use Rattle.fixed_geometry.specs.declared.point.Point.{Point}
use Rattle.lattice.specs.Grids.{Grid, choices_of, positions_of}
use Rattle.meetings.specs.Traces.{IsShortMove}
use Rattle.motion.specs.Displacement.{displacement}
use Rattle.motion.specs.TickStates.{IsTickState}
use Rattle.motion.specs.declared.leg.TickState.{TickState}
use Rattle.plan_situations.specs.Prediction.{predicted_state}
use Rattle.plan_situations.specs.Situations.{IsSituation, IsTarget, IsTracked, now_of, sighting}
use Rattle.plan_situations.specs.declared.situation.Situation.{Situation}
use Rattle.plan_situations.specs.declared.situation.Target.{Target}
use Rattle.scenario_values.specs.ValueRanges.{IsInRange, IsOwnPart}
use Rattle.scenario_values.specs.Ticks.{window_end}
use Rattle.scenario_values.specs.declared.own_part.OwnPart.{OwnPart}
use Rattle.scenario_values.specs.declared.values.Scenario.{Scenario}
use Rattle.tracks.specs.AcceptedReports.{JudgingNumbers}
use Rattle.tracks.specs.VesselsHeld.{Sent, legs_of}
use Rattle.plan_situations.specs.NearVessels.{point_now}
use Rattle.plan_situations.specs.PlanSituations.{past_of, situation_of, target_of, targets_near, vessels_near}
use Rattle.plan_situations.specs.Inner.Facts.{IsFresh, IsKnownBelow, IsSized, IsTargetOver, told_at}
use Rattle.plan_situations.specs.declared.near.Near.{Near}
use Rattle.plan_situations.proofs.TickLists.{sighting_made}
use Rattle.plan_situations.proofs.Moving.{known_from}
use Rattle.plan_situations.specs.declared.readiness.Ready.{Ready}
use Rattle.plan_situations.proofs.Nearness.{IsBefore, near_in_order, others_in_order}
use Rattle.plan_situations.proofs.Tracking.{heads, placed}

-- ---- own ship's states

-- her state at a tick, as it was seen before now, and at now as she starts
abbrev pub starting : List (Option TickState) → TickState → ℕ → ℕ → Option TickState
starting past start ticks k = if nat_lt k ticks then sighting past k else Some start

early : (past : List (Option TickState)) (start : TickState) (ticks k : ℕ) → k < ticks → starting past start ticks k ≡ sighting past k
early past start ticks k lt = grind (arith, nat_tests)

late : (past : List (Option TickState)) (start : TickState) (ticks k : ℕ) → ticks ≤ k → starting past start ticks k ≡ Some start
late past start ticks k le = grind (arith, nat_tests)

same_point : (o : Option TickState) (s start : TickState) → s.point ≡ start.point → IsShortMove o (Some s) → IsShortMove o (Some start)
same_point None s start e h = tt
same_point (Some before) s start e h = subst (λ (p : Point). IsBelow (2 ^ 25) (displacement before.point p)) e h

module _ (ticks : ℕ) (past : List (Option TickState)) (start s : TickState) (known : IsKnownBelow (ticks + 1) (sighting past)) (is : IsTickState 7900640400 start)
    (last : sighting past ticks ≡ Some s) (there : s.point ≡ start.point) where
  state : (k : ℕ) → k ≤ ticks → IfSome (starting past start ticks k) (IsTickState 7900640400)
  state k le = elim (cases_lt k ticks) [
    | inl lt ↦ subst (λ (o : Option TickState). IfSome o (IsTickState 7900640400)) (sym (early past start ticks k lt)) (known.states k (omega arith))
    | inr ge ↦ subst (λ (o : Option TickState). IfSome o (IsTickState 7900640400)) (sym (late past start ticks k ge)) is
  ]

  move : (k : ℕ) → k < ticks → IsShortMove (starting past start ticks k) (starting past start ticks (k + 1))
  move k lt = elim (cases_lt (k + 1) ticks) [
    | inl still ↦ subst₂ IsShortMove (sym (early past start ticks k lt)) (sym (early past start ticks (k + 1) still)) (known.moves k (omega arith))
    | inr no_more ↦ (let e : ticks ≡ k + 1 = omega arith in
        let here : sighting past (k + 1) ≡ Some s = subst (λ (m : ℕ). sighting past m ≡ Some s) e last in
        subst₂ IsShortMove (sym (early past start ticks k lt)) (sym (late past start ticks (k + 1) (omega arith)))
        (same_point (sighting past k) s start there (subst (IsShortMove (sighting past k)) here (known.moves k (omega arith)))))
  ]

  pub own_tracked : IsTracked ticks (starting past start ticks)
  own_tracked = record {
    placed = λ k le. placed (starting past start ticks k) (state k le);
    heads = λ k le. heads (starting past start ticks k) (state k le);
    moves = move;
  }

-- ---- lists of targets

targets_in_order : (f : Near → Target) (near : List Near) → ((v : Near) → (f v).mmsi ≡ v.mmsi) → AllPairs IsBefore near → AllPairs (λ (a b : Target). a.mmsi < b.mmsi) (map f near)
targets_in_order f [] same h = λ i j d lt within. absurd (omega arith)
targets_in_order f (v ∷ vs) same h =
    AllPairs-cons (λ (a b : Target). a.mmsi < b.mmsi) (f v) (map f vs)
    (All-map (λ (b : Target). (f v).mmsi < b.mmsi) f vs (λ k d lt.
    let first : v.mmsi < (get_or vs k d).mmsi = h 0 (suc k) d (omega arith) (omega arith) in
    let a = same v in
    let b = same (get_or vs k d) in
    omega arith))
    (targets_in_order f vs same (λ i j d lt within. h (suc i) (suc j) d (omega arith) (omega arith)))

number_of_target : (numbers : JudgingNumbers) (messages : List Sent) (scenario : Scenario) (own : OwnPart) (v : Near) → (target_of numbers messages scenario.window own v).mmsi ≡ v.mmsi
unfolding target_of
number_of_target numbers messages scenario own v = refl

pub in_order : (numbers : JudgingNumbers) (messages : List Sent) (scenario : Scenario) (own : OwnPart) (near : List Near) (targets : List Target) → AllPairs IsBefore near
    → targets ≡ map (target_of numbers messages scenario.window own) near → AllPairs (λ (a b : Target). a.mmsi < b.mmsi) targets
in_order numbers messages scenario own near targets h is =
    subst (AllPairs (λ (a b : Target). a.mmsi < b.mmsi)) (sym is)
    (targets_in_order (target_of numbers messages scenario.window own) near (number_of_target numbers messages scenario own) h)

-- The targets of a situation are in the order of their MMSIs.
pub situation_in_order : (numbers : JudgingNumbers) (messages : List Sent) (scenario : Scenario) (own : OwnPart) (ready : Ready)
    → AllPairs (λ (a b : Target). a.mmsi < b.mmsi) (situation_of numbers messages scenario own ready).targets
unfolding situation_of vessels_near
situation_in_order numbers messages scenario own ready =
    in_order numbers messages scenario own (targets_near numbers messages scenario own ready) _ (others_in_order own.mmsi _ (near_in_order numbers messages _ _ _)) refl

-- ---- the situation

wider : (size : ℕ) (state : TickState) → size ≤ 7900640400 → IsTickState size state → IsTickState 7900640400 state
wider size state le h = let x = h.point.x in let y = h.point.y in record { point = record { x = omega arith; y = omega arith }; direction = h.direction; speed = h.speed }

not_far : (planned : ℕ) (state : TickState) → planned ≤ 7200 → IsTickState (2222400000 + 3600 * 525763) state → IsTickState (7900640400 - planned * 525763) state
not_far planned state le h = let x = h.point.x in let y = h.point.y in record { point = record { x = omega arith; y = omega arith }; direction = h.direction; speed = h.speed }

-- what holds of it as it was made
pub record IsSituationOf (situation : Situation) : Type 0 where
  pub course : IsSome situation.start.direction
  pub speed : IsSome situation.start.speed
  pub detect : IsDetect situation.detect
  pub few : length situation.targets ≤ 64
  pub ascending : AllPairs (λ (a b : Target). a.mmsi < b.mmsi) situation.targets

module _ (numbers : JudgingNumbers) (messages : List Sent) (scenario : Scenario) (own : OwnPart) (vessel : Near) (situation : Situation)
    (in_range : IsInRange scenario) (part : IsOwnPart scenario.window.tick own) (grid : IsSized own.lattice) (fresh : IsFresh (window_end scenario.window) vessel.latest)
    (past : situation.own_past ≡ past_of numbers messages scenario.window [] vessel) (known : IsKnownBelow (scenario.window.ticks + 1) (sighting situation.own_past))
    (start : IsTickState (2222400000 + 3600 * 525763) situation.start) (there : situation.start.point ≡ point_now (window_end scenario.window) vessel.latest)
    (lattice : situation.lattice ≡ own.lattice) (tick : situation.tick ≡ scenario.window.tick) where
  count : length situation.own_past ≡ scenario.window.ticks + 1
  count = ap length past ∙ length-map-range_with_len _ 0 (scenario.window.ticks + 1)

  now_is : now_of situation ≡ scenario.window.ticks
  now_is = let e = count in omega (arith, e)

  seen_now : sighting situation.own_past scenario.window.ticks ≡ Some (predicted_state vessel.latest [] (window_end scenario.window) (window_end scenario.window))
  seen_now =
      let before = fresh.before in
      ap (λ (xs : List (Option TickState)). sighting xs scenario.window.ticks) past
      ∙ sighting_made _ (scenario.window.ticks + 1) scenario.window.ticks (omega arith)
      ∙ known_from vessel.latest (legs_of numbers messages vessel.mmsi) [] (window_end scenario.window) (window_end scenario.window) before

  is_target : (target : Target) → IsTargetOver scenario.window.ticks (positions_of own.lattice) target → IsTarget situation target
  is_target target over = record {
    until_now = over.until_now ∙ sym count;
    from_now = over.from_now ∙ ap (λ (g : Grid). positions_of g + 1) (sym lattice);
    tracked = subst₂ (λ (n : ℕ) (g : Grid). IsTracked (n + positions_of g) (told_at n target)) (sym now_is) (sym lattice) over.tracked;
    domain = over.domain;
  }

  pub is_situation : IsSituationOf situation → All (IsTargetOver scenario.window.ticks (positions_of own.lattice)) situation.targets → IsSituation situation
  is_situation of over =
      let window = in_range.window in
      let few = count in
      let ticks_from = window.ticks_from in
      let ticks_to = window.ticks_to in
      record {
        some_past = omega (arith, few);
        short_past = omega (arith, few);
        course = of.course;
        speed = of.speed;
        short_tick = subst (λ (t : ℕ). t ≤ 60) (sym tick) window.tick_to;
        some_leg = subst (λ (g : Grid). 1 ≤ g.legs) (sym lattice) grid.some_leg;
        few_legs = subst (λ (g : Grid). g.legs ≤ 8) (sym lattice) grid.few_legs;
        some_choice = subst (λ (g : Grid). 1 ≤ choices_of g) (sym lattice) grid.some_choice;
        few_positions = subst (λ (g : Grid). positions_of g ≤ 7200) (sym lattice) grid.few_positions;
        short = subst₂ (λ (g : Grid) (t : ℕ). positions_of g * t ≤ 7200) (sym lattice) (sym tick) part.plan_time;
        near = subst₂ (λ (g : Grid) (t : ℕ). IsTickState (7900640400 - positions_of g * t * 525763) situation.start) (sym lattice) (sym tick)
            (not_far (positions_of own.lattice * scenario.window.tick) situation.start part.plan_time start);
        tracked = subst (λ (n : ℕ). IsTracked n (starting situation.own_past situation.start n)) (sym now_is)
            (own_tracked scenario.window.ticks situation.own_past situation.start (predicted_state vessel.latest [] (window_end scenario.window) (window_end scenario.window)) known
            (wider (2222400000 + 3600 * 525763) situation.start (omega arith) start) seen_now (sym there));
        is_detect = of.detect;
        few = of.few;
        ascending = of.ascending;
        are_targets = λ k d lt. is_target (get_or situation.targets k d) (over k d lt);
      }
