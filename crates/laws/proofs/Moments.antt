-- An entry into a domain has a moment of small numbers: own ship and the targets move little from tick to tick, and a shape's edges are short.
use Rattle.std.proofs.Common.{◌≡◌, ◌∙◌, ℕ, zero, suc, ◌+◌, ◌-◌, ◌*◌, ◌/◌, ◌%◌, ◌^◌, ◌<◌, ◌≤◌, Bool, true, false, ℤ, pos, negsuc, neg_ℤ, ◌+ℤ◌, ◌-ℤ◌, ◌*ℤ◌, ◌<ℤ◌, unsigned_abs, List, Option, None, Some, refl, sym, ap, subst, subst₂, arith, mul-le-mul}
use Rattle.std.specs.Prelude.{IfSome, ◌&&◌, int_lt, slice_get, unwrap_or, if◌then◌else◌}
use Rattle.std.specs.Int.{int_div_euclid}
use Rattle.std.specs.List.{Contains}
use Rattle.std.proofs.lemmas.Int.{by_lt_z, ints, unsigned_abs-mul}
use Rattle.std.proofs.lemmas.Option.{slice_get_within}
use Rattle.closest_approach.specs.Separation.{IsNearer, nearest_of}
use Rattle.closest_approach.specs.declared.nearest.Moment.{Moment}
use Rattle.closest_approach.proofs.Choice.{size_is}
use Rattle.closest_approach.proofs.Decision.{in_step, nearer_where_not, not_nearer}
use Rattle.closest_approach.proofs.LeastDistance.{norm2-nonneg}
use Rattle.encounters.specs.Directions.{HasDirection}
use Rattle.encounters.specs.declared.pair_step.PairStep.{PairStep}
use Rattle.fixed_geometry.specs.Compass.{quarter_of, quarters_further, unit_of}
use Rattle.fixed_geometry.specs.Displacement.{displacement}
use Rattle.fixed_geometry.specs.Plane.{norm2_of}
use Rattle.fixed_geometry.specs.Rounding.{rounded}
use Rattle.fixed_geometry.specs.Sizes.{IsBelow, IsWithin}
use Rattle.fixed_geometry.specs.Velocity.{velocity_of}
use Rattle.fixed_geometry.specs.declared.point.Point.{Point}
use Rattle.fixed_geometry.proofs.Table.{quarter_cosine, quarter_sine, sine_small}
use Rattle.hull_domains.specs.Crossings.{earlier, earliest, entry_moment, is_less, later, latest, lower, mediant, side_of, upper}
use Rattle.hull_domains.specs.Domains.{IsInside}
use Rattle.hull_domains.specs.Inner.EdgeSides.{normal_of, side_by}
use Rattle.hull_domains.specs.Shapes.{IsNearVertex, IsShape, edge_of, vertex_of}
use Rattle.hull_domains.proofs.Bounding.{AreBounds, bounds_of, inside_between, none_inside}
use Rattle.hull_domains.proofs.EdgeSides.{sides_agree}
use Rattle.hull_domains.proofs.Sizes.{change_small, normal_small}
use Rattle.hull_domains.proofs.SoFar.{beside, inside_edge, on_inside}
use Rattle.lattice.specs.Grids.{Grid}
use Rattle.lattice.specs.OwnMotion.{choice_in_force, hastened, held, ordered_speed, own_state, point_after, point_by, speed_after, direction_after, speed_change}
use Rattle.meetings.specs.Traces.{IsShortMove, step_at, step_between}
use Rattle.motion.specs.Steps.{RelativeMove}
use Rattle.motion.specs.declared.leg.TickState.{TickState}
use Rattle.plan_situations.specs.Domains.{Enters, IsEntry, IsInsideBy, moment_by, moment_of}
use Rattle.plan_situations.specs.Situations.{IsSituation, IsTarget, end_of, now_of, own_at, planned_state, sighting, target_at}
use Rattle.plan_situations.specs.declared.situation.Situation.{Situation}
use Rattle.plan_situations.specs.declared.situation.Target.{Target}
use Rattle.plan_situations.proofs.CommonLegs.{own_from, when_not_less}
use Rattle.plan_situations.proofs.Entries.{nearest_small}

-- ---- directions and velocities

negated : (z : ℤ) (n : ℕ) → unsigned_abs z ≤ n → unsigned_abs (neg_ℤ z) ≤ n
negated z n h = omega (arith, ints)

turned_small : (n : ℕ) (p : Point) → IsWithin 1000000 p → IsWithin 1000000 (quarters_further n p)
turned_small zero p h = h
turned_small (suc n) p h =
    let before = turned_small n p h in
    record { x = before.y; y = negated (quarters_further n p).x 1000000 before.x }

entry_small : (z : ℤ) (n : ℕ) → pos n ≡ z → n ≤ 1000000 → unsigned_abs z ≤ 1000000
entry_small z n is h = omega (arith, ints)

quarter_small : (k : ℕ) → k ≤ 900 → IsWithin 1000000 (quarter_of k)
quarter_small k le = record {
  x = entry_small (quarter_of k).x _ (quarter_sine k le) (sine_small k);
  y = entry_small (quarter_of k).y _ (quarter_cosine k le) (sine_small (900 - k));
}

unit_small : (d : ℕ) → IsWithin 1000000 (unit_of d)
unfolding unit_of
unit_small d = turned_small (d / 900) (quarter_of (d % 900)) (quarter_small (d % 900) (omega arith))

down_small : (z : ℤ) → unsigned_abs z ≤ 946372900000 → unsigned_abs (int_div_euclid z (pos 1800000)) ≤ 525763
down_small (pos n) h = omega (arith, h)
down_small (negsuc n) h = omega (arith, h)

component_small : (speed : ℕ) (m : ℤ) → speed ≤ 1022 → unsigned_abs m ≤ 1000000 → unsigned_abs (rounded (pos speed *ℤ m *ℤ pos 463) 900000) ≤ 525763
unfolding rounded
component_small speed m slow small =
    let scaled : ℕ = unsigned_abs (pos speed *ℤ m) in
    let product : scaled ≡ speed * unsigned_abs m = unsigned_abs-mul (pos speed) m in
    let most : speed * unsigned_abs m ≤ 1022 * 1000000 = mul-le-mul slow small in
    let whole : unsigned_abs (pos speed *ℤ m *ℤ pos 463) ≡ scaled * 463 = unsigned_abs-mul (pos speed *ℤ m) (pos 463) in
    down_small (pos 2 *ℤ (pos speed *ℤ m *ℤ pos 463) +ℤ pos 900000) (twice (pos speed *ℤ m *ℤ pos 463) (omega arith))
  where
    twice : (z : ℤ) → unsigned_abs z ≤ 473186000000 → unsigned_abs (pos 2 *ℤ z +ℤ pos 900000) ≤ 946372900000
    twice z h = omega (arith, ints)

pub velocity_small : (course speed : ℕ) → speed ≤ 1022 → IsWithin 525763 (velocity_of course speed)
unfolding velocity_of
velocity_small course speed slow =
    let unit = unit_small course in
    record { x = component_small speed (unit_of course).x slow unit.x; y = component_small speed (unit_of course).y slow unit.y }

-- ---- own ship under a plan

hastened_slow : (rate speed ordered : ℕ) → speed ≤ 1022 → ordered ≤ 1022 → hastened rate speed ordered ≤ 1022
unfolding hastened
hastened_slow rate speed ordered slow h = grind (arith, ints)

ordered_slow : (grid : Grid) (choice speed : ℕ) → ordered_speed grid choice speed ≤ 1022
unfolding ordered_speed
ordered_slow grid choice speed = held_slow (pos speed +ℤ speed_change grid choice)
  where
    held_slow : (z : ℤ) → unsigned_abs (held (pos 0) (pos 1022) z) ≤ 1022
    held_slow z = grind (arith, ints)

speed_slow : (grid : Grid) (plan : List ℕ) (speed step : ℕ) → speed ≤ 1022 → speed_after grid plan speed step ≤ 1022
unfolding speed_after
speed_slow grid plan speed zero slow = slow
speed_slow grid plan speed (suc step) slow =
    hastened_slow grid.speed_rate (speed_after grid plan speed step) (ordered_speed grid (choice_in_force grid plan step) speed) (speed_slow grid plan speed step slow)
    (ordered_slow grid (choice_in_force grid plan step) speed)

gone : (x v : ℤ) (tick : ℕ) → tick ≤ 60 → unsigned_abs v ≤ 525763 → unsigned_abs ((x +ℤ pos tick *ℤ v) -ℤ x) < 2 ^ 25
gone x v tick short slow =
    let product : unsigned_abs (pos tick *ℤ v) ≡ tick * unsigned_abs v = unsigned_abs-mul (pos tick) v in
    let most : tick * unsigned_abs v ≤ 60 * 525763 = mul-le-mul short slow in
    only (pos tick *ℤ v) (omega arith)
  where
    only : (w : ℤ) → unsigned_abs w < 2 ^ 25 → unsigned_abs ((x +ℤ w) -ℤ x) < 2 ^ 25
    only w h = omega (arith, ints)

module _ (s : Situation) (sound : IsSituation s) (plan : List ℕ) where
  start_slow : (o : Option ℕ) → IfSome o (λ v. v ≤ 1022) → unwrap_or o 0 ≤ 1022
  start_slow None slow = omega arith
  start_slow (Some v) slow = slow

  planned_short : (k : ℕ) → IsBelow (2 ^ 25) (displacement (planned_state s plan k).point (planned_state s plan (suc k)).point)
  unfolding own_state point_after point_by
  planned_short k =
      let speed = speed_slow s.lattice plan (unwrap_or s.start.speed 0) (suc k) (start_slow s.start.speed sound.near.speed) in
      let course = direction_after s.lattice plan (unwrap_or s.start.direction 0) (suc k) in
      let slow = velocity_small course (speed_after s.lattice plan (unwrap_or s.start.speed 0) (suc k)) speed in
      let from = (planned_state s plan k).point in
      record { x = gone from.x _ s.tick sound.short_tick slow.x; y = gone from.y _ s.tick sound.short_tick slow.y }

  own_short : (k : ℕ) → now_of s ≤ k → IsShortMove (own_at s plan k) (own_at s plan (k + 1))
  own_short k from =
      let next : k + 1 - now_of s ≡ suc (k - now_of s) = omega arith in
      subst₂ IsShortMove (sym (own_from s plan k from)) (sym (own_from s plan (k + 1) (omega arith)))
      (subst (λ (n : ℕ). IsBelow (2 ^ 25) (displacement (planned_state s plan (k - now_of s)).point (planned_state s plan n).point)) (sym next) (planned_short (k - now_of s)))

-- ---- a step of both

record IsSmallStep (pair : PairStep) : Type 0 where
  pub change : IsBelow (2 ^ 26) pair.step.w
  pub heads : HasDirection pair.b

changed : (a b c d : ℤ) → unsigned_abs (c -ℤ a) < 2 ^ 25 → unsigned_abs (d -ℤ b) < 2 ^ 25 → unsigned_abs ((d -ℤ c) -ℤ (b -ℤ a)) < 2 ^ 26
changed a b c d h k = omega (arith, ints)

small_step : (a b a' b' : Option TickState) (pair : PairStep) → step_between a b a' b' ≡ Some pair → IsShortMove a a' → IsShortMove b b' → IfSome b HasDirection → IsSmallStep pair
small_step (Some a) (Some b) (Some a') (Some b') pair is own other heads =
    let made : PairStep = record {
      step = record { p = displacement a.point b.point; w = displacement (displacement a.point b.point) (displacement a'.point b'.point) };
      a = a;
      b = b;
    } in
    let same : made ≡ pair = cc is in
    let w : IsBelow (2 ^ 26) made.step.w = record {
      x = changed a.point.x b.point.x a'.point.x b'.point.x own.x other.x;
      y = changed a.point.y b.point.y a'.point.y b'.point.y own.y other.y;
    } in
    let small : IsSmallStep made = record { change = w; heads = heads } in
    subst IsSmallStep same small
small_step None b a' b' pair is own other heads = cc is
small_step (Some a) None a' b' pair is own other heads = cc is
small_step (Some a) (Some b) None b' pair is own other heads = cc is
small_step (Some a) (Some b) (Some a') None pair is own other heads = cc is

-- the other is seen at both ends
seen_next : (a b a' b' : Option TickState) (pair : PairStep) → step_between a b a' b' ≡ Some pair → (state : TickState) × (b' ≡ Some state)
seen_next (Some a) (Some b) (Some a') (Some b') pair is = (b', refl)
seen_next None b a' b' pair is = cc is
seen_next (Some a) None a' b' pair is = cc is
seen_next (Some a) (Some b) None b' pair is = cc is
seen_next (Some a) (Some b) (Some a') None pair is = cc is

module _ (s : Situation) (sound : IsSituation s) (plan : List ℕ) (T : Target) (is_target : IsTarget s T) (step : ℕ) (from : now_of s ≤ step) (pair : PairStep)
    (at : step_at (own_at s plan) (target_at s T) step ≡ Some pair) where
  planned : step < end_of s
  planned =
      let next = seen_next (own_at s plan step) (target_at s T step) (own_at s plan (step + 1)) (target_at s T (step + 1)) pair at in
      let ahead : target_at s T (step + 1) ≡ slice_get T.ahead (step + 1 - now_of s) = when_not_less (step + 1) (now_of s) (sighting T.past (step + 1)) (slice_get T.ahead (step + 1 - now_of s)) (omega arith) in
      let within = slice_get_within T.ahead (step + 1 - now_of s) next.0 (sym ahead ∙ next.1) in
      let count = is_target.from_now in
      omega arith

  small_pair : IsSmallStep pair
  small_pair =
      let lt = planned in
      small_step (own_at s plan step) (target_at s T step) (own_at s plan (step + 1)) (target_at s T (step + 1)) pair at (own_short s sound plan step from)
      (is_target.tracked.moves step lt) (is_target.tracked.heads step (omega arith))

-- ---- a circle

square_small : (z : ℤ) → unsigned_abs z < 2 ^ 26 → unsigned_abs (z *ℤ z) ≤ 2 ^ 52
square_small z h =
    let product : unsigned_abs (z *ℤ z) ≡ unsigned_abs z * unsigned_abs z = unsigned_abs-mul z z in
    let below : unsigned_abs z ≤ 2 ^ 26 = omega arith in
    let most : unsigned_abs z * unsigned_abs z ≤ 2 ^ 26 * 2 ^ 26 = mul-le-mul below below in
    omega arith

two_squares : (x y : ℤ) → unsigned_abs x ≤ 2 ^ 52 → unsigned_abs y ≤ 2 ^ 52 → unsigned_abs (x +ℤ y) ≤ 2 ^ 53
two_squares x y h k = omega (arith, ints)

abbrev IsGood : Option (List (ℤ × ℤ)) → Option ℕ → ℕ → RelativeMove → Moment → Type 0
IsGood shape direction radius step moment = (moment.a ≤ moment.b) × (0 < moment.b) × (moment.b < 2 ^ 60) × IsInsideBy shape direction radius step moment.a moment.b

module _ (step : RelativeMove) (small : IsBelow (2 ^ 26) step.w) (a b : ℕ) (within : a ≤ b) (some : 0 < b) where
  circle_good : (radius : ℕ) → IsNearer step radius a b → IsGood None None radius step (nearest_of step 1)
  circle_good radius inside =
      let instant = in_step step (nearest_of step 1) refl in
      let length : norm2_of step.w ≡ pos (unsigned_abs (norm2_of step.w)) = size_is (norm2_of step.w) (norm2-nonneg step.w.x step.w.y) in (
        instant.0,
        instant.1,
        nearest_small step (unsigned_abs (norm2_of step.w)) (sym length) (two_squares (step.w.x *ℤ step.w.x) (step.w.y *ℤ step.w.y) (square_small step.w.x small.x) (square_small step.w.y small.y)),
        nearer_where_not step radius (λ apart. not_nearer step radius a b apart within some inside),
      )

  -- ---- a shape

  module _ (d : ℕ) (below : d < 3600) (shape : List (ℤ × ℤ)) (is : IsShape shape) where
    near : (k : ℕ) → k < 6 → IsNearVertex (vertex_of shape k)
    near k lt = let count = is.count in is.near k (pos 0, pos 0) (omega arith)

    way : (x y : ℤ) → unsigned_abs x ≤ 2000 → unsigned_abs y ≤ 2000 → unsigned_abs (y -ℤ x) ≤ 4000
    way x y h k = omega (arith, ints)

    edge_short : (k : ℕ) → k < 6 → IsWithin 4000 (edge_of shape k).along
    unfolding edge_of
    edge_short k lt =
        let here = near k lt in
        let next = near ((k + 1) % 6) (omega arith) in
        record { x = way (vertex_of shape k).0 (vertex_of shape ((k + 1) % 6)).0 here.0 next.0; y = way (vertex_of shape k).1 (vertex_of shape ((k + 1) % 6)).1 here.1 next.1 }

    dot_low : (u v m n : ℤ) → unsigned_abs u * unsigned_abs m + unsigned_abs v * unsigned_abs n ≤ 536870904000000000 → unsigned_abs (u *ℤ m +ℤ v *ℤ n) < 2 ^ 59
    dot_low u v m n h =
        let first = unsigned_abs-mul u m in
        let second = unsigned_abs-mul v n in
        sum (u *ℤ m) (v *ℤ n) (omega arith)
      where
        sum : (x y : ℤ) → unsigned_abs x + unsigned_abs y ≤ 536870904000000000 → unsigned_abs (x +ℤ y) < 2 ^ 59
        sum x y h = omega (arith, ints)

    change_low : (k : ℕ) → k < 6 → unsigned_abs (side_of step d shape k).change < 2 ^ 59
    unfolding side_by
    change_low k lt =
        let along = edge_short k lt in
        let unit = unit_small d in
        let edge = (edge_of shape k).along in
        let ahead = unit_of d in
        let normal = normal_of edge ahead in
        let normal_low : unsigned_abs normal.x + unsigned_abs normal.y ≤ 8000000000 = normal_small edge.x edge.y ahead.x ahead.y along.x along.y unit.x unit.y in
        let low = change_small (unsigned_abs step.w.x) (unsigned_abs step.w.y) (unsigned_abs normal.x) (unsigned_abs normal.y) small.x small.y normal_low in
        let same = ap (λ l. l.change) (sides_agree step d shape k below) in
        subst (λ (z : ℤ). unsigned_abs z < 2 ^ 59) same (dot_low step.w.x step.w.y normal.x normal.y low)

    chosen : {X : Type 0} (under : X → ℕ) (t : Bool) (x y : X) → under x < 2 ^ 59 → under y < 2 ^ 59 → under (if t then x else y) < 2 ^ 59
    chosen under true x y h k = h
    chosen under false x y h k = k

    latest_low : (n : ℕ) → n ≤ 6 → (latest (side_of step d shape) n).under < 2 ^ 59
    unfolding latest later
    latest_low zero le = omega arith
    latest_low (suc n) le =
        chosen (λ f. f.under) (int_lt (side_of step d shape n).change (pos 0) && is_less (latest (side_of step d shape) n) (lower (side_of step d shape n))) (lower (side_of step d shape n)) (latest (side_of step d shape) n) (change_low n (omega arith)) (latest_low n (omega arith))

    earliest_low : (n : ℕ) → n ≤ 6 → (earliest (side_of step d shape) n).under < 2 ^ 59
    unfolding earliest earlier
    earliest_low zero le = omega arith
    earliest_low (suc n) le =
        chosen (λ f. f.under) (int_lt (pos 0) (side_of step d shape n).change && is_less (upper (side_of step d shape n)) (earliest (side_of step d shape) n)) (upper (side_of step d shape n)) (earliest (side_of step d shape) n) (change_low n (omega arith)) (earliest_low n (omega arith))

    moment_low : (entry_moment step d shape).b < 2 ^ 60
    unfolding mediant
    moment_low = let from = latest_low 6 (omega arith) in let to = earliest_low 6 (omega arith) in omega arith

    module _ (inside : IsInside step d shape a b) where
      level : (k : ℕ) → k < 6 → (side_of step d shape k).change ≡ pos 0 → (side_of step d shape k).start <ℤ pos 0
      level k lt flat =
          by_lt_z (side_of step d shape k).start (pos 0) (λ in_it. in_it) (λ out. absurd (beside step d shape below k (side_of step d shape k) lt refl flat out a b within some inside))

      bounds : AreBounds (side_of step d shape) 6 (latest (side_of step d shape) 6) (earliest (side_of step d shape) 6)
      bounds = bounds_of (side_of step d shape) 6 level

      leaves_time : is_less (latest (side_of step d shape) 6) (earliest (side_of step d shape) 6) ≡ true
      unfolding IsInside
      leaves_time = go (is_less (latest (side_of step d shape) 6) (earliest (side_of step d shape) 6)) refl
        where
          go : (t : Bool) → is_less (latest (side_of step d shape) 6) (earliest (side_of step d shape) 6) ≡ t → t ≡ true
          go true e = refl
          go false e = absurd (none_inside (side_of step d shape) 6 (latest (side_of step d shape) 6) (earliest (side_of step d shape) 6) bounds e a b within some (λ k lt. inside_edge step d shape below a b k (inside k lt)))

      shape_good : (radius : ℕ) → IsGood (Some shape) (Some d) radius step (entry_moment step d shape)
      unfolding IsInside
      shape_good radius =
          let found = inside_between (side_of step d shape) 6 (latest (side_of step d shape) 6) (earliest (side_of step d shape) 6) bounds leaves_time in
          let moment = entry_moment step d shape in
          (found.0, found.1, moment_low, λ k lt. on_inside step d shape below moment.a moment.b k (found.2 k lt))

  by_domain : (shape : Option (List (ℤ × ℤ))) (direction : Option ℕ) (radius : ℕ) → IfSome shape IsShape → IfSome direction (λ d. d < 3600)
      → IsInsideBy shape direction radius step a b → IsGood shape direction radius step (moment_by shape direction step)
  by_domain (Some shape) (Some d) radius is below inside = shape_good d below shape is inside radius
  by_domain (Some shape) None radius is below inside = circle_good radius inside
  by_domain None direction radius is below inside = circle_good radius inside

pub has_moments : (s : Situation) → IsSituation s → IfSome s.shape IsShape → (plan : List ℕ) (T : Target) (step : ℕ) (pair : PairStep) → Contains s.targets T → now_of s ≤ step
    → step_at (own_at s plan) (target_at s T) step ≡ Some pair → Enters s T pair → IsEntry s T pair (moment_of s T pair)
has_moments s sound shape plan T step pair contains from at enters =
    let is_target = subst (IsTarget s) contains.2 (sound.are_targets contains.0 T contains.1) in
    let small = small_pair s sound plan T is_target step from pair at in
    let good = by_domain pair.step small.change enters.a enters.b enters.within enters.some s.shape pair.b.direction T.domain.radius shape small.heads enters.inside in
    record { is = refl; within = good.0; some = good.1; small = good.2; inside = good.3 }
