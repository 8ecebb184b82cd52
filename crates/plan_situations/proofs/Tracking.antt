-- States that follow each other as steps may.
use Rattle.std.proofs.Common.{◌≡◌, ◌∙◌, ℕ, ◌+◌, ◌-◌, ◌<◌, ◌≤◌, inl, inr, List, length, map, ap, subst, subst₂, sym, arith, Some, None}
use Rattle.std.specs.Prelude.{Option, IfSome, slice_get}
use Rattle.std.specs.List.{range_with_len}
use Rattle.std.proofs.lemmas.Bool.{cases_lt}
use Rattle.std.proofs.lemmas.List.FromFn.{length-map-range_with_len}
use Rattle.std.proofs.lemmas.Bool.Decides.{nat_tests}
use Rattle.encounters.specs.Directions.{HasDirection}
use Rattle.meetings.specs.Traces.{IsPlaced, IsShortMove}
use Rattle.motion.specs.TickStates.{IsTickState}
use Rattle.motion.specs.declared.leg.TickState.{TickState}
use Rattle.plan_situations.specs.Domains.{IsDomain}
use Rattle.plan_situations.specs.Situations.{IsTracked, sighting}
use Rattle.plan_situations.specs.declared.situation.Target.{Target}
use Rattle.plan_situations.specs.Inner.Facts.{IsKnownBelow, IsTargetOver, IsTrack, known_at, predicted_at, told_at}
use Rattle.plan_situations.specs.declared.track.KnownTrack.{KnownTrack}
use Rattle.plan_situations.proofs.TickLists.{sighting_made, slice_get_made}
use Rattle.plan_situations.proofs.Moving.{known_ahead}

-- ---- one tick more

pub none_known : (f : ℕ → Option TickState) → IsKnownBelow 0 f
none_known f = record { states = λ k lt. absurd (omega arith); moves = λ k lt. absurd (omega arith) }

pub one_known_more : (f : ℕ → Option TickState) (n : ℕ) → IsKnownBelow n f → IfSome (f n) (IsTickState 7900640400)
    → ((e : ℕ) → n ≡ e + 1 → IsShortMove (f e) (f n)) → IsKnownBelow (n + 1) f
one_known_more f n known state moves = record {
  states = λ k lt. elim (cases_lt k n) [
    | inl below ↦ known.states k below
    | inr ge ↦ (let e : n ≡ k = omega arith in subst (λ (m : ℕ). IfSome (f m) (IsTickState 7900640400)) e state)
  ];
  moves = λ k lt. elim (cases_lt (k + 1) n) [
    | inl below ↦ known.moves k below
    | inr ge ↦ (let e : n ≡ k + 1 = omega arith in subst (λ (m : ℕ). IsShortMove (f k) (f m)) e (moves k e))
  ];
}

-- the same of other states that agree
pub known_so : (f g : ℕ → Option TickState) (n : ℕ) → ((k : ℕ) → k < n → g k ≡ f k) → IsKnownBelow n f → IsKnownBelow n g
known_so f g n same known = record {
  states = λ k lt. subst (λ (o : Option TickState). IfSome o (IsTickState 7900640400)) (sym (same k lt)) (known.states k lt);
  moves = λ k lt. subst₂ IsShortMove (sym (same k (omega arith))) (sym (same (k + 1) lt)) (known.moves k lt);
}

-- ---- a state is one that a step may have

pub placed : (o : Option TickState) → IfSome o (IsTickState 7900640400) → IsPlaced o
placed None h = tt
placed (Some state) h = let x = h.point.x in let y = h.point.y in record { x = omega arith; y = omega arith }

pub heads : (o : Option TickState) → IfSome o (IsTickState 7900640400) → IfSome o HasDirection
heads None h = tt
heads (Some state) h = h.direction

-- ---- a target's states

early : (ticks k : ℕ) (target : Target) → k < ticks → told_at ticks target k ≡ sighting target.past k
early ticks k target lt = grind (arith, nat_tests)

late : (ticks k : ℕ) (target : Target) → ticks ≤ k → told_at ticks target k ≡ slice_get target.ahead (k - ticks)
late ticks k target le = grind (arith, nat_tests)

module _ (ticks positions : ℕ) (target : Target) (past : IsKnownBelow (ticks + 1) (sighting target.past)) (ahead : IsKnownBelow (positions + 1) (slice_get target.ahead))
    (now : sighting target.past ticks ≡ slice_get target.ahead 0) where
  state : (k : ℕ) → k ≤ ticks + positions → IfSome (told_at ticks target k) (IsTickState 7900640400)
  state k le = elim (cases_lt k ticks) [
    | inl lt ↦ subst (λ (o : Option TickState). IfSome o (IsTickState 7900640400)) (sym (early ticks k target lt)) (past.states k (omega arith))
    | inr ge ↦ subst (λ (o : Option TickState). IfSome o (IsTickState 7900640400)) (sym (late ticks k target ge)) (ahead.states (k - ticks) (omega arith))
  ]

  move : (k : ℕ) → k < ticks + positions → IsShortMove (told_at ticks target k) (told_at ticks target (k + 1))
  move k lt = elim (cases_lt k ticks) [
    | inl before ↦ elim (cases_lt (k + 1) ticks) [
      | inl still ↦ subst₂ IsShortMove (sym (early ticks k target before)) (sym (early ticks (k + 1) target still)) (past.moves k (omega arith))
      | inr no_more ↦ (let e : ticks ≡ k + 1 = omega arith in
          let none : k + 1 - ticks ≡ 0 = omega arith in
          let there : sighting target.past (k + 1) ≡ slice_get target.ahead 0 = subst (λ (m : ℕ). sighting target.past m ≡ slice_get target.ahead 0) e now in
          subst₂ IsShortMove (sym (early ticks k target before))
          (there ∙ ap (slice_get target.ahead) (sym none) ∙ sym (late ticks (k + 1) target (omega arith))) (past.moves k (omega arith)))
    ]
    | inr after ↦ (let e : k + 1 - ticks ≡ (k - ticks) + 1 = omega arith in
        subst₂ IsShortMove (sym (late ticks k target after)) (ap (slice_get target.ahead) (sym e) ∙ sym (late ticks (k + 1) target (omega arith)))
        (ahead.moves (k - ticks) (omega arith)))
  ]

  pub tracked : IsTracked (ticks + positions) (told_at ticks target)
  tracked = record {
    placed = λ k le. placed (told_at ticks target k) (state k le);
    heads = λ k le. heads (told_at ticks target k) (state k le);
    moves = move;
  }

-- ---- a predicted state more

pub one_predicted_more : (track : KnownTrack) → IsTrack track → (k : ℕ) (here : TickState) → IsKnownBelow k (λ (i : ℕ). Some (predicted_at track i)) → here ≡ predicted_at track k
    → IsTickState 7900640400 here → ((earlier : ℕ) → track.window.ticks + k ≡ earlier + 1 → IsShortMove (known_at track earlier) (Some here))
    → IsKnownBelow (k + 1) (λ (i : ℕ). Some (predicted_at track i))
one_predicted_more track is k here known value state moves =
    one_known_more (λ (i : ℕ). Some (predicted_at track i)) k known (subst (IsTickState 7900640400) value state)
    (λ e next. subst₂ IsShortMove (known_ahead track is e) (ap Some value) (moves (track.window.ticks + e) (omega (arith, next))))

-- ---- a target, from the track of a vessel

pub target_over : (track : KnownTrack) → IsTrack track → (positions : ℕ) (target : Target) → target.past ≡ map (known_at track) (range_with_len 0 (track.window.ticks + 1))
    → IsKnownBelow (track.window.ticks + 1) (sighting target.past) → target.ahead ≡ map (predicted_at track) (range_with_len 0 (positions + 1))
    → IsKnownBelow (positions + 1) (slice_get target.ahead) → IsDomain target.domain → IsTargetOver track.window.ticks positions target
target_over track is positions target past past-known ahead ahead-known domain =
    let ticks = track.window.ticks in
    let none : ticks + 0 ≡ ticks = omega arith in
    let now : sighting target.past ticks ≡ slice_get target.ahead 0 =
    ap (λ (xs : List (Option TickState)). sighting xs ticks) past ∙ sighting_made (known_at track) (ticks + 1) ticks (omega arith)
    ∙ ap (known_at track) (sym none) ∙ known_ahead track is 0
    ∙ sym (ap (λ (xs : List TickState). slice_get xs 0) ahead ∙ slice_get_made (predicted_at track) (positions + 1) 0 (omega arith)) in
    record {
      until_now = ap length past ∙ length-map-range_with_len (known_at track) 0 (ticks + 1);
      from_now = ap length ahead ∙ length-map-range_with_len (predicted_at track) 0 (positions + 1);
      tracked = tracked ticks positions target past-known ahead-known now;
      domain = domain;
    }
