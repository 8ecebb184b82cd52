-- The situation in which a log leaves own ship is one in which a plan may be sought.
use Rattle.std.proofs.Common.{◌≡◌, ℕ, ◌+◌, ◌*◌, ◌^◌, ◌<◌, ◌≤◌, Bool, true, false, List, [], length, map, Option, None, Some, Ok, Err, mul-le-mul, refl, sym, subst, arith}
use Rattle.std.specs.Prelude.{IfSome, Result, ◌&&◌, not, ◌==◌, if◌then◌else◌}
use Rattle.std.specs.List.{All, filter_map, last_or}
use Rattle.std.proofs.lemmas.Bool.Decides.{nat_tests}
use Rattle.std.proofs.lemmas.List.{length-map}
use Rattle.std.proofs.lemmas.List.Elements.{All-filter, All-map, All-weaker}
use Rattle.ais_messages.specs.declared.message.Message.{Message}
use Rattle.ais_messages.specs.declared.message.Message.TheVariants as message
use Rattle.ais_messages.specs.declared.message.ShipData.{ShipData}
use Rattle.ais_messages.specs.declared.message.StaticReport.{StaticReport}
use Rattle.fixed_geometry.specs.declared.point.Point.{Point}
use Rattle.lattice.specs.Grids.{IsGrid, positions_of}
use Rattle.motion.specs.TickStates.{IsTickState}
use Rattle.plan_situations.specs.Domains.{IsDomain}
use Rattle.plan_situations.specs.KnownStates.{changes_for}
use Rattle.plan_situations.specs.NearVessels.{is_within, near_by, near_of, point_now}
use Rattle.plan_situations.specs.PlanSituations.{greatest_targets, metre, own_readiness, situation_of, target_of, targets_near, vessels_near}
use Rattle.plan_situations.specs.Readiness.{is_fresh, latest_of, readiness_by, with_course, with_speed}
use Rattle.plan_situations.specs.Situations.{IsSituation}
use Rattle.plan_situations.specs.declared.near.Near.{Near}
use Rattle.plan_situations.specs.declared.readiness.Ready.{Ready}
use Rattle.plan_situations.specs.declared.readiness.Unready.{Unready}
use Rattle.plan_situations.specs.declared.readiness.Unready.TheVariants.{NoPoint}
use Rattle.plan_situations.specs.Inner.Facts.{IsFresh, IsSized, IsTargetOver}
use Rattle.plan_situations.proofs.ForCallers.{situation_in_order}
use Rattle.plan_situations.proofs.Situated.{is_situation}
use Rattle.plan_situations.proofs.Vessels.{are_changes, none_predicted}
use Rattle.scenario_values.specs.Ticks.{window_end}
use Rattle.scenario_values.specs.ValueRanges.{IsInRange, IsOwnPart}
use Rattle.scenario_values.specs.declared.own_part.OwnPart.{OwnPart}
use Rattle.scenario_values.specs.declared.values.Scenario.{Scenario}
use Rattle.tracks.specs.AcceptedReports.{JudgingNumbers}
use Rattle.tracks.specs.Lengths.{length_of}
use Rattle.tracks.specs.VesselsHeld.{Sent, accepted_of, held_of, legs_of, messages_of, static_in, static_reports_of, statics_of}
use Rattle.tracks.specs.declared.accepted.Accepted.{Accepted}
use Rattle.tracks.proofs.Lasts.{All-last}
use Rattle.laws.proofs.FollowingReports.{IsInRegion, all_in_region, vessel_follows}
use Rattle.laws.proofs.JoinedLegs.{comes, legs_move_little, seen_in_region}
use Rattle.laws.proofs.KnownTicks.{IsKnown, is_target, past_known}
use Rattle.laws.proofs.SentRanges.{IsSayableOne, IsShort, all_kept}
use Rattle.laws.proofs.PredictedStates.{predicted_within}

-- ---- how long a ship is

abbrev IsShortShip : ShipData → Type 0
IsShortShip ship = (ship.bow < 512) × (ship.stern < 512)

short_in : (m : Message) (time : ℕ) → IsSayableOne (record { message = m; time = time }) → IfSome (static_in m) IsShort
short_in (message.Position report) time h = tt
short_in (message.Static report) time h = h
short_in (message.Both report static) time h = h.1

short_length : (o : Option ShipData) → IfSome o IsShortShip → length_of o ≤ 1022
short_length None h = omega arith
short_length (Some ship) h = let bow = h.0 in let stern = h.1 in omega arith

ship_length : (messages : List Sent) (mmsi : ℕ) → All IsSayableOne messages → length_of (statics_of messages mmsi).ship ≤ 1022
unfolding statics_of
ship_length messages mmsi said =
    let reports : All IsShort (static_reports_of messages mmsi) =
    all_kept (λ (one : Sent). static_in one.message) IsSayableOne IsShort (λ one h. short_in one.message one.time h) (messages_of messages mmsi)
    (All-filter _ IsSayableOne messages said) in
    short_length (last_or None (filter_map (λ (report : StaticReport). report.ship) (static_reports_of messages mmsi)))
    (All-last IsShortShip None (filter_map (λ (report : StaticReport). report.ship) (static_reports_of messages mmsi)) tt
    (all_kept (λ (report : StaticReport). report.ship) IsShort IsShortShip (λ report h. h) (static_reports_of messages mmsi) reports))

small_radius : (base lengths length : ℕ) → base ≤ 100000 → lengths ≤ 100 → length ≤ 1022 → metre * (base + lengths * length) < 2 ^ 31
small_radius base lengths length a b c = let most : lengths * length ≤ 100 * 1022 = mul-le-mul b c in omega arith

-- ---- own ship, who is ready

record IsReadyBy (gap now : ℕ) (latest : Option Accepted) (ready : Ready) : Type 0 where
  told : latest ≡ Some ready.latest
  fresh : is_fresh gap now ready.latest ≡ true
  course : ready.latest.report.cog ≡ Some ready.course
  speed : ready.latest.report.sog ≡ Some ready.speed

same_ready : (a b : Ready) → ◌≡◌ {A = Result Ready Unready} (Ok a) (Ok b) → a ≡ b
same_ready a b e = cc

ready_by : (gap now : ℕ) (o : Option Accepted) (ready : Ready) → readiness_by gap now o ≡ Ok ready → IsReadyBy gap now o ready
ready_by gap now None ready e = absurd (cc e)
ready_by gap now (Some latest) ready e = by (is_fresh gap now latest) refl e
  where
    sped : (course : ℕ) (cog sog : Option ℕ) → latest.report.cog ≡ Some course → latest.report.sog ≡ sog → is_fresh gap now latest ≡ true
        → with_speed latest course sog ≡ Ok ready → IsReadyBy gap now (Some latest) ready
    sped course cog None is_course is_speed fresh e = absurd (cc e)
    sped course cog (Some speed) is_course is_speed fresh e =
        let made : Ready = record { latest = latest; course = course; speed = speed } in
        subst (IsReadyBy gap now (Some latest)) (same_ready made ready e) (record { told = refl; fresh = fresh; course = is_course; speed = is_speed })

    coursed : (cog : Option ℕ) → latest.report.cog ≡ cog → is_fresh gap now latest ≡ true → with_course latest cog ≡ Ok ready → IsReadyBy gap now (Some latest) ready
    coursed None is fresh e = absurd (cc e)
    coursed (Some course) is fresh e = sped course (Some course) latest.report.sog is refl fresh e

    by : (b : Bool) → is_fresh gap now latest ≡ b → (if b then with_course latest latest.report.cog else Err (NoPoint (Some latest.time))) ≡ Ok ready
        → IsReadyBy gap now (Some latest) ready
    by true fresh e = coursed latest.report.cog refl fresh e
    by false fresh e = absurd (cc e)

is_fresh_by : (gap now : ℕ) (report : Accepted) → gap ≤ 3600 → is_fresh gap now report ≡ true → IsFresh now report
is_fresh_by gap now report short fresh = record { before = grind (arith, nat_tests); fresh = grind (arith, nat_tests) }

below_by : (o : Option ℕ) (n limit : ℕ) → o ≡ Some n → IfSome o (λ x. x < limit) → n < limit
below_by o n limit e h = subst (λ (p : Option ℕ). IfSome p (λ x. x < limit)) e h

-- ---- vessels

module _ (numbers : JudgingNumbers) (messages : List Sent) (scenario : Scenario) (own : OwnPart) (ready : Ready) (in_range : IsInRange scenario)
    (part : IsOwnPart scenario.window.tick own) (grid : IsGrid own.lattice) (short : numbers.gap ≤ 3600) (wide : scenario.window.tick ≤ numbers.gap)
    (most : numbers.max_speed ≤ 1022) (said : All IsSayableOne messages) where
  abbrev Now : ℕ
  Now = window_end scenario.window

  -- her latest accepted report, which is fresh
  record IsNearby (vessel : Near) : Type 0 where
    latest : latest_of numbers messages vessel.mmsi ≡ Some vessel.latest
    fresh : IsFresh Now vessel.latest

  in_region : (mmsi : ℕ) (latest : Accepted) → latest_of numbers messages mmsi ≡ Some latest → IsInRegion latest
  in_region mmsi latest is =
      subst (λ (o : Option Accepted). IfSome o IsInRegion) is
      (All-last IsInRegion None (accepted_of numbers messages mmsi) tt (all_in_region numbers.gap None (accepted_of numbers messages mmsi) (vessel_follows numbers messages mmsi most said)))

  known : (vessel : Near) → IsNearby vessel → IsKnown scenario.window vessel.latest (legs_of numbers messages vessel.mmsi)
  known vessel nearby = record {
    fresh = nearby.fresh;
    in_region = in_region vessel.mmsi vessel.latest nearby.latest;
    seen = seen_in_region numbers messages vessel.mmsi short most said;
    moves = λ t u before after le close was is. legs_move_little numbers messages vessel.mmsi short most said t u before after le (omega arith) was is;
    comes = λ t before lt close seen. comes numbers messages vessel.mmsi short most said vessel.latest nearby.latest t before lt (omega arith) seen;
  }

  near_one : (range : ℕ) (point : Point) (mmsi : ℕ) (o : Option Accepted) → latest_of numbers messages mmsi ≡ o → IfSome (near_by numbers.gap Now range point mmsi o) IsNearby
  near_one range point mmsi None is = tt
  near_one range point mmsi (Some latest) is = by (is_fresh numbers.gap Now latest) (is_within range point (point_now Now latest)) refl
    where
      by : (a b : Bool) → is_fresh numbers.gap Now latest ≡ a → IfSome (if a && b then Some (record { mmsi = mmsi; latest = latest }) else None) IsNearby
      by true true fresh = record { latest = is; fresh = is_fresh_by numbers.gap Now latest short fresh }
      by true false fresh = tt
      by false b fresh = tt

  all_nearby : (range : ℕ) (point : Point) → All IsNearby (near_of numbers messages Now range point)
  all_nearby range point =
      all_kept (λ (mmsi : ℕ). near_by numbers.gap Now range point mmsi (latest_of numbers messages mmsi)) (λ (mmsi : ℕ). mmsi ≡ mmsi) IsNearby
      (λ mmsi _. near_one range point mmsi (latest_of numbers messages mmsi) refl) (held_of numbers messages) (λ k d lt. refl)

  is_domain : (vessel : Near) → IsDomain (target_of numbers messages scenario.window own vessel).domain
  unfolding target_of
  is_domain vessel = small_radius own.base own.lengths (length_of (statics_of messages vessel.mmsi).ship) part.base part.lengths (ship_length messages vessel.mmsi said)

  target : (vessel : Near) → IsNearby vessel → IsTargetOver scenario.window.ticks (positions_of own.lattice) (target_of numbers messages scenario.window own vessel)
  unfolding target_of
  target vessel nearby =
      is_target scenario.window vessel.latest (legs_of numbers messages vessel.mmsi) (changes_for own.predict vessel.mmsi) in_range.window.tick_to (known vessel nearby)
      (are_changes scenario.window.tick own.predict vessel.mmsi part.predict.changes) (positions_of own.lattice) (target_of numbers messages scenario.window own vessel)
      part.plan_time refl refl (is_domain vessel)

  targets : All (IsTargetOver scenario.window.ticks (positions_of own.lattice)) (map (target_of numbers messages scenario.window own) (targets_near numbers messages scenario own ready))
  unfolding vessels_near
  targets =
      All-map (IsTargetOver scenario.window.ticks (positions_of own.lattice)) (target_of numbers messages scenario.window own) (targets_near numbers messages scenario own ready)
      (All-weaker IsNearby _ target (targets_near numbers messages scenario own ready)
      (All-filter (λ (vessel : Near). not (vessel.mmsi == own.mmsi)) IsNearby (near_of numbers messages Now (metre * own.range) (point_now Now ready.latest))
      (all_nearby (metre * own.range) (point_now Now ready.latest))))

  -- ---- the situation

  sized : IsSized own.lattice
  sized = record {
    some_leg = grid.some_leg;
    few_legs = grid.few_legs;
    some_choice = let course = grid.some_course in let speed = grid.some_speed in mul-le-mul course speed;
    few_positions = grid.few_positions;
  }

  module _ (is_ready : own_readiness numbers messages scenario own ≡ Ok ready) (few : length (targets_near numbers messages scenario own ready) ≤ greatest_targets) where
    own_ready : IsReadyBy numbers.gap Now (latest_of numbers messages own.mmsi) ready
    own_ready = ready_by numbers.gap Now (latest_of numbers messages own.mmsi) ready is_ready

    abbrev own_near : Near
    own_near = record { mmsi = own.mmsi; latest = ready.latest }

    own_nearby : IsNearby own_near
    own_nearby = record { latest = own_ready.told; fresh = is_fresh_by numbers.gap Now ready.latest short own_ready.fresh }

    own_in_region : IsInRegion ready.latest
    own_in_region = in_region own.mmsi ready.latest own_ready.told

    start : IsTickState (2222400000 + 3600 * 525763) (record { point = point_now Now ready.latest; direction = Some ready.course; speed = Some ready.speed })
    start =
        let near = predicted_within ready.latest [] Now own_in_region none_predicted Now in
        let x = near.x in
        let y = near.y in
        let hour : Now ≤ ready.latest.time + 3600 = own_nearby.fresh.fresh in
        let slow = below_by ready.latest.report.sog ready.speed 1023 own_ready.speed own_in_region.said.sog in
        record {
          point = record { x = omega arith; y = omega arith };
          direction = below_by ready.latest.report.cog ready.course 3600 own_ready.course own_in_region.said.cog;
          speed = omega arith;
        }

    pub sound_situation : IsSituation (situation_of numbers messages scenario own ready)
    unfolding situation_of
    sound_situation =
        is_situation numbers messages scenario own own_near (situation_of numbers messages scenario own ready) in_range part sized own_nearby.fresh refl
        (past_known scenario.window ready.latest (legs_of numbers messages own.mmsi) [] in_range.window.tick_to (known own_near own_nearby) none_predicted)
        start refl refl refl (record {
          course = refl;
          speed = refl;
          detect = in_range.detect.numbers;
          few = subst (λ (n : ℕ). n ≤ 64) (sym (length-map (targets_near numbers messages scenario own ready) (target_of numbers messages scenario.window own))) few;
          ascending = situation_in_order numbers messages scenario own ready;
        }) targets
