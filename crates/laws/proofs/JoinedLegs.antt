-- The legs between the accepted reports of a vessel are joined, so she moves little from one time to another.
use Rattle.std.proofs.Common.{◌≡◌, ℕ, zero, suc, ◌+◌, ◌-◌, ◌*◌, ◌<◌, ◌≤◌, ◌⊎◌, inl, inr, Bool, true, false, List, [], ◌∷◌, map, get_or, Option, None, Some, ℤ, pos, ◌*ℤ◌, ◌≤ℤ◌, unsigned_abs, refl, sym, subst, arith}
use Rattle.std.specs.Prelude.{IfSome, if◌then◌else◌}
use Rattle.std.specs.List.{All, AllPairs, cons_option, filter, last_or}
use Rattle.std.specs.Option.{option_map, option_or}
use Rattle.std.proofs.lemmas.Bool.Decides.{nat_tests}
use Rattle.std.proofs.lemmas.Int.{ints}
use Rattle.std.proofs.lemmas.List.Elements.{All-cons, All-nil}
use Rattle.std.proofs.lemmas.List.Kept.{AllPairs-cons}
use Rattle.ais_messages.specs.declared.message.PositionReport.{PositionReport}
use Rattle.fixed_geometry.specs.Displacement.{displacement}
use Rattle.fixed_geometry.specs.Plane.{norm2_of}
use Rattle.fixed_geometry.specs.Sizes.{IsWithin}
use Rattle.motion.specs.Inner.LegOrder.{AreLegs}
use Rattle.motion.specs.TickStates.{AreJoined, IsLeg, IsTickState, Meets, MovesLittle, holds, state_at, state_on}
use Rattle.motion.specs.declared.leg.Leg.{Leg}
use Rattle.motion.specs.declared.leg.TickState.{TickState}
use Rattle.motion.proofs.Joined.{moves_little}
use Rattle.motion.proofs.LastPassing.{found}
use Rattle.motion.proofs.Parts.{between_small}
use Rattle.tracks.specs.AcceptedReports.{JudgingNumbers, square}
use Rattle.tracks.specs.JoinedReports.{joined, leg_between, legs_between, legs_from, reported_direction}
use Rattle.tracks.specs.Standing.{BookValue, vessel_of}
use Rattle.tracks.specs.VesselsHeld.{Sent, accepted_of, held_of, is_held, legs_of}
use Rattle.tracks.specs.Inner.Keeping.{Follows}
use Rattle.tracks.specs.declared.accepted.Accepted.{Accepted}
use Rattle.tracks.specs.declared.keeping.Keeping.TheVariants.{Tracks}
use Rattle.tracks.proofs.Joining.{joined-none, joined-some, joined-within}
use Rattle.tracks.proofs.LatestReport.{comes_to_latest}
use Rattle.laws.proofs.FollowingReports.{AreFollowing, IsInRegion, vessel_follows}
use Rattle.laws.proofs.SentRanges.{IsSaid, IsSayableOne}

-- ---- one leg

heads_by : (heading cog : Option ℕ) → IfSome heading (λ h. h < 360) → IfSome cog (λ c. c < 3600)
    → IfSome (option_or (option_map (λ degrees. degrees * 10) heading) cog) (λ d. d < 3600)
heads_by None cog h k = k
heads_by (Some d) cog h k = omega arith

pub heads : (report : PositionReport) → IsSaid report → IfSome (reported_direction report) (λ d. d < 3600)
heads report said = heads_by report.heading report.cog said.heading said.cog

pub limited : (sog : Option ℕ) → IfSome sog (λ v. v < 1023) → IfSome sog (λ v. v ≤ 1022)
limited None h = tt
limited (Some v) h = omega arith

no_faster : (z : ℤ) (m : ℕ) → 81 * unsigned_abs z ≤ m → (pos 81 *ℤ z) ≤ℤ pos m
no_faster z m h = omega (arith, ints)

is_leg : (gap : ℕ) (from to : Accepted) → gap ≤ 3600 → IsInRegion from → IsInRegion to → Follows gap from to → to.time ≤ from.time + gap → IsLeg (leg_between from to)
is_leg gap from to short begins ends follows close = record {
  lasts = follows.after;
  short = omega arith;
  begins = begins.point;
  ends = ends.point;
  slow = no_faster (norm2_of (displacement from.point to.point)) (square (4630 * 1022 * (to.time - from.time))) (follows.slow close);
  direction = heads from.report begins.said;
  speed = limited from.report.sog begins.said.sog;
}

-- ---- all legs

-- The first leg begins at the report, or more than the gap after it.
abbrev BeginsBehind : ℕ → Accepted → List Leg → Type 0
BeginsBehind gap from [] = Unit {0}
BeginsBehind gap from (leg ∷ legs) = ((from.time ≡ leg.t1) × (from.point ≡ leg.p1)) ⊎ (from.time + gap < leg.t1)

record AreLegsFrom (gap : ℕ) (from : Accepted) (legs : List Leg) : Type 0 where
  each : All IsLeg legs
  later : All (λ leg. from.time ≤ leg.t1) legs
  ordered : AllPairs (λ earlier later. earlier.t2 ≤ later.t1) legs
  first : BeginsBehind gap from legs
  joined : AreJoined gap legs

abbrev AreApart : ℕ → Leg → Leg → Type 0
AreApart gap earlier later = Meets earlier later ⊎ (earlier.t2 + gap < later.t1)

adjacent : (gap : ℕ) (from to : Accepted) (legs : List Leg) → BeginsBehind gap to legs → AreJoined gap legs → AreJoined gap (leg_between from to ∷ legs)
adjacent gap from to [] first rest k d lt = absurd (omega arith)
adjacent gap from to (leg ∷ legs) first rest zero d lt = elim first [
  | inl here ↦ inl (record { time = here.0; point = here.1 })
  | inr far ↦ inr far
]
adjacent gap from to (leg ∷ legs) first rest (suc k) d lt =
    let e : suc (k + 1) ≡ suc k + 1 = omega arith in
    subst (λ (j : ℕ). AreApart gap (get_or (leg ∷ legs) k d) (get_or (leg_between from to ∷ leg ∷ legs) j d)) e (rest k d (omega arith))

one_more : (gap : ℕ) (from to : Accepted) (legs : List Leg) → gap ≤ 3600 → IsInRegion from → IsInRegion to → Follows gap from to → to.time ≤ from.time + gap
    → AreLegsFrom gap to legs → AreLegsFrom gap from (leg_between from to ∷ legs)
one_more gap from to legs short begins ends follows close rest =
    let after = follows.after in
    record {
      each = All-cons IsLeg (leg_between from to) legs (is_leg gap from to short begins ends follows close) rest.each;
      later = All-cons (λ leg. from.time ≤ leg.t1) (leg_between from to) legs (omega arith)
          (λ k d lt. let le : to.time ≤ (get_or legs k d).t1 = rest.later k d lt in omega arith);
      ordered = AllPairs-cons (λ earlier later. earlier.t2 ≤ later.t1) (leg_between from to) legs rest.later rest.ordered;
      first = inl (refl, refl);
      joined = adjacent gap from to legs rest.first rest.joined;
    }

still_behind : (gap : ℕ) (from to : Accepted) (legs : List Leg) → from.time + gap < to.time → BeginsBehind gap to legs → BeginsBehind gap from legs
still_behind gap from to [] far first = tt
still_behind gap from to (leg ∷ legs) far first = elim first [
  | inl here ↦ inr (let e = here.0 in omega arith)
  | inr farther ↦ inr (omega arith)
]

no_more : (gap : ℕ) (from to : Accepted) (legs : List Leg) → from.time + gap < to.time → AreLegsFrom gap to legs → AreLegsFrom gap from legs
no_more gap from to legs far rest = record {
  each = rest.each;
  later = λ k d lt. let le : to.time ≤ (get_or legs k d).t1 = rest.later k d lt in omega arith;
  ordered = rest.ordered;
  first = still_behind gap from to legs far rest.first;
  joined = rest.joined;
}

legs_behind : (gap : ℕ) (from : Accepted) (xs : List Accepted) → gap ≤ 3600 → IsInRegion from → AreFollowing gap (Some from) xs → AreLegsFrom gap from (legs_from gap from xs)
unfolding legs_from
legs_behind gap from [] short begins h = record {
  each = All-nil IsLeg;
  later = All-nil (λ leg. from.time ≤ leg.t1);
  ordered = λ i j d lt within. absurd (omega arith);
  first = tt;
  joined = λ k d lt. absurd (omega arith);
}
legs_behind gap from (to ∷ others) short begins h =
    let (follows, ends, rest) = h in
    by (joined gap from to) refl follows ends (legs_behind gap to others short ends rest)
  where
    by : (o : Option Leg) → joined gap from to ≡ o → Follows gap from to → IsInRegion to → AreLegsFrom gap to (legs_from gap to others)
        → AreLegsFrom gap from (cons_option o (legs_from gap to others))
    by (Some leg) e follows ends legs =
        subst (λ (l : Leg). AreLegsFrom gap from (l ∷ legs_from gap to others)) (sym (joined-some gap from to leg e))
        (one_more gap from to (legs_from gap to others) short begins ends follows (joined-within gap from to leg e) legs)
    by None e follows ends legs = no_more gap from to (legs_from gap to others) (joined-none gap from to e) legs

record AreJoinedLegs (gap : ℕ) (legs : List Leg) : Type 0 where
  are : AreLegs legs
  joined : AreJoined gap legs

joined_legs : (gap : ℕ) (xs : List Accepted) → gap ≤ 3600 → AreFollowing gap None xs → AreJoinedLegs gap (legs_between gap xs)
joined_legs gap [] short h = record {
  are = record { each = All-nil IsLeg; ordered = λ i j d lt within. absurd (omega arith) };
  joined = λ k d lt. absurd (omega arith);
}
joined_legs gap (x ∷ xs) short h =
    let legs = legs_behind gap x xs short h.1 h.2 in
    record { are = record { each = legs.each; ordered = legs.ordered }; joined = legs.joined }

-- ---- the state at a time

on_leg : (t : ℕ) (leg : Leg) → IsLeg leg → holds t leg ≡ true → IsTickState 2222400000 (state_on t leg)
unfolding state_on
on_leg t leg is held =
    let lasts = is.lasts in
    let in_time : t ≤ leg.t2 = grind (arith, nat_tests) in
    record {
      point = record {
        x = between_small leg.p1.x leg.p2.x (t - leg.t1) (leg.t2 - leg.t1) 2222400000 (omega arith) (omega arith) is.begins.x is.ends.x;
        y = between_small leg.p1.y leg.p2.y (t - leg.t1) (leg.t2 - leg.t1) 2222400000 (omega arith) (omega arith) is.begins.y is.ends.y;
      };
      direction = is.direction;
      speed = is.speed;
    }

on_legs : (t : ℕ) (legs : List Leg) → All IsLeg legs → IfSome (state_at t legs) (IsTickState 2222400000)
unfolding state_at
on_legs t legs all = by (last_or None (filter (holds t) legs)) refl
  where
    by : (o : Option Leg) → last_or None (filter (holds t) legs) ≡ o → IfSome (option_map (state_on t) o) (IsTickState 2222400000)
    by None e = tt
    by (Some leg) e =
        let last = found (holds t) legs leg e in
        on_leg t leg (subst IsLeg last.here (all last.index leg last.within)) last.passes

-- ---- a vessel's legs, by the messages

module _ (numbers : JudgingNumbers) (messages : List Sent) (mmsi : ℕ) (short : numbers.gap ≤ 3600) (most : numbers.max_speed ≤ 1022) (said : All IsSayableOne messages) where
  legs_joined : AreJoinedLegs numbers.gap (legs_of numbers messages mmsi)
  unfolding legs_of
  legs_joined = joined_legs numbers.gap (accepted_of numbers messages mmsi) short (vessel_follows numbers messages mmsi most said)

  pub seen_in_region : (t : ℕ) → IfSome (state_at t (legs_of numbers messages mmsi)) (IsTickState 2222400000)
  seen_in_region t = on_legs t (legs_of numbers messages mmsi) legs_joined.are.each

  pub legs_move_little : MovesLittle numbers.gap (legs_of numbers messages mmsi)
  legs_move_little = moves_little numbers.gap (legs_of numbers messages mmsi) legs_joined.are legs_joined.joined

  -- a book of the messages
  abbrev book : BookValue
  book = record { keeping = Tracks; numbers = numbers; held = held_of numbers messages; vessels = map (vessel_of Tracks numbers messages) (held_of numbers messages) }

  abbrev all_legs : Option (List Leg)
  all_legs = if is_held numbers messages mmsi then Some (legs_between numbers.gap (accepted_of numbers messages mmsi)) else None

  all_move : IfSome all_legs (MovesLittle numbers.gap)
  unfolding legs_of
  all_move = by (is_held numbers messages mmsi) legs_move_little
    where
      by : (b : Bool) → MovesLittle numbers.gap (legs_between numbers.gap (accepted_of numbers messages mmsi))
          → IfSome (if b then Some (legs_between numbers.gap (accepted_of numbers messages mmsi)) else None) (MovesLittle numbers.gap)
      by true moves = moves
      by false moves = tt

  pub comes : (latest : Accepted) → last_or None (accepted_of numbers messages mmsi) ≡ Some latest → (t : ℕ) (before : TickState) → t < latest.time
      → latest.time ≤ t + numbers.gap → state_at t (legs_of numbers messages mmsi) ≡ Some before
      → IsWithin ((latest.time - t) * 525763 + 2) (displacement before.point latest.point)
  comes = comes_to_latest book numbers messages mmsi all_legs refl (record { by = refl; holds = refl; vessels = refl }) refl all_move
