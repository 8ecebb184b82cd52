-- What is known of a vessel near own ship.
use Rattle.std.proofs.Common.{◌≡◌, ◌∙◌, ℕ, ◌+◌, ◌-◌, ◌*◌, ◌<◌, ◌≤◌, List, [], ◌∷◌, ◌++◌, length, map, take, get_or, refl, ap, sym, arith, Some, None, true, false, Bool}
use Rattle.std.specs.Prelude.{Option, IfSome, nat_lt, not, ◌==◌, if◌then◌else◌}
use Rattle.std.specs.List.{All, find, last_or, range_with_len}
use Rattle.std.specs.Option.{option_copied}
use Rattle.std.proofs.lemmas.Bool.Decides.{nat_tests}
use Rattle.std.proofs.lemmas.List.{append-nil, map-append, take_more}
use Rattle.std.proofs.lemmas.List.Elements.{All-head, All-nil, All-tail, filter-append}
use Rattle.fixed_geometry.specs.Sizes.{IsWithin}
use Rattle.motion.specs.Displacement.{displacement}
use Rattle.motion.specs.TickStates.{MovesLittle, state_at}
use Rattle.motion.specs.declared.leg.Leg.{Leg}
use Rattle.motion.specs.declared.leg.TickState.{TickState}
use Rattle.plan_situations.specs.Prediction.{AreChanges, predicted_state}
use Rattle.plan_situations.specs.declared.situation.Target.{Target}
use Rattle.predictions.specs.PredictValues.{AreTimed}
use Rattle.predictions.specs.declared.changes.Change.{Change}
use Rattle.predictions.specs.declared.predictions.Predict.{Predict}
use Rattle.scenario_values.specs.Ticks.{window_end, time_of_tick}
use Rattle.scenario_values.specs.declared.values.Window.{Window}
use Rattle.tracks.specs.AcceptedReports.{JudgingNumbers}
use Rattle.tracks.specs.Standing.{kept_legs}
use Rattle.tracks.specs.VesselsHeld.{Sent, accepted_of, is_held, legs_of}
use Rattle.tracks.specs.declared.accepted.Accepted.{Accepted}
use Rattle.tracks.specs.declared.keeping.Keeping.{Keeping}
use Rattle.tracks.specs.declared.keeping.Keeping.TheVariants.{Tracks}
use Rattle.plan_situations.specs.KnownStates.{changes_for, changes_in, known_state}
use Rattle.plan_situations.specs.NearVessels.{others_of}
use Rattle.plan_situations.specs.PlanSituations.{ahead_of, past_of}
use Rattle.plan_situations.specs.Readiness.{latest_of}
use Rattle.plan_situations.specs.Inner.Facts.{known_at, legs_known, predicted_at}
use Rattle.plan_situations.specs.declared.near.Near.{Near}
use Rattle.plan_situations.specs.declared.track.KnownTrack.{KnownTrack}
use Rattle.plan_situations.proofs.Moving.{none_seen}

-- ---- she is held

some_report : (xs : List Accepted) (a : Accepted) → last_or None xs ≡ Some a → nat_lt 0 (length xs) ≡ true
some_report [] a e = cc
some_report (x ∷ xs) a e = grind (arith, nat_tests)

pub held : (numbers : JudgingNumbers) (messages : List Sent) (mmsi : ℕ) (a : Accepted) → latest_of numbers messages mmsi ≡ Some a → is_held numbers messages mmsi ≡ true
unfolding is_held
held numbers messages mmsi a e = rw (some_report (accepted_of numbers messages mmsi) a e) refl

-- ---- her legs

pub legs_are : (o : Option (List Leg)) (keeping : Keeping) (numbers : JudgingNumbers) (messages : List Sent) (mmsi : ℕ)
    → o ≡ (if is_held numbers messages mmsi then Some (kept_legs keeping numbers.gap (accepted_of numbers messages mmsi)) else None)
    → is_held numbers messages mmsi ≡ true → keeping ≡ Tracks → legs_known o ≡ legs_of numbers messages mmsi
unfolding legs_of
legs_are o keeping numbers messages mmsi e so all =
    let legs = kept_legs keeping numbers.gap (accepted_of numbers messages mmsi) in
    let held : o ≡ Some legs = e ∙ ap (λ (b : Bool). if b then Some legs else None) so in
    ap legs_known held ∙ ap (λ (k : Keeping). kept_legs k numbers.gap (accepted_of numbers messages mmsi)) all

no_leg : (t : ℕ) (s : TickState) → state_at t [] ≡ Some s → ⊥
no_leg t s e = let none = none_seen t in cc

pub legs_move : (o : Option (List Leg)) (gap tick : ℕ) → IfSome o (MovesLittle gap) → tick ≤ gap → (t u : ℕ) (before after : TickState) → t ≤ u → u ≤ t + tick
    → state_at t (legs_known o) ≡ Some before → state_at u (legs_known o) ≡ Some after → IsWithin ((u - t) * 525763 + 2) (displacement before.point after.point)
legs_move None gap tick h le t u before after order soon was is = absurd (no_leg t before was)
legs_move (Some legs) gap tick h le t u before after order soon was is = h t u before after order (omega arith) was is

-- ---- the changes that are predicted of her

fine : (tick : ℕ) (changes : List Change) → AreTimed tick changes → AreChanges changes
fine tick changes h = record { course = h.course; speed = h.speed; order = h.order }

none_fine : AreChanges []
none_fine = record {
  course = All-nil (λ (c : Change). c.course ≤ 3599);
  speed = All-nil (λ (c : Change). c.speed ≤ 1022);
  order = λ i j d lt within. absurd (omega arith);
}

pub none_predicted : AreChanges []
none_predicted = none_fine

pub are_changes : (tick : ℕ) (list : List Predict) (mmsi : ℕ) → All (λ (p : Predict). AreTimed tick p.changes) list → AreChanges (changes_for list mmsi)
are_changes tick [] mmsi h = none_fine
are_changes tick (p ∷ ps) mmsi h = by (p.mmsi == mmsi) (All-head (λ (q : Predict). AreTimed tick q.changes) p ps h) (are_changes tick ps mmsi (All-tail (λ (q : Predict). AreTimed tick q.changes) p ps h))
  where
    by : (b : Bool) → AreTimed tick p.changes → AreChanges (changes_in (find (λ (q : Predict). q.mmsi == mmsi) ps))
        → AreChanges (changes_in (if b then Some p else find (λ (q : Predict). q.mmsi == mmsi) ps))
    by true here rest = fine tick p.changes here
    by false here rest = rest

-- ---- her states

module _ (numbers : JudgingNumbers) (messages : List Sent) (window : Window) (changes : List Change) (vessel : Near) (track : KnownTrack) (same : track.window ≡ window)
    (latest : track.latest ≡ vessel.latest) (predicted : track.changes.now ≡ changes) where
  pub past_is : legs_known (option_copied track.legs) ≡ legs_of numbers messages vessel.mmsi
      → map (known_at track) (range_with_len 0 (track.window.ticks + 1)) ≡ past_of numbers messages window changes vessel
  past_is legs = λ i. map (λ k. known_state (latest i) (legs i) (predicted i) (window_end (same i)) (time_of_tick (same i) k))
      (range_with_len 0 ((same i).ticks + 1))

  pub ahead_is : (ticks : ℕ) → map (predicted_at track) (range_with_len 0 (ticks + 1)) ≡ ahead_of window ticks changes vessel
  ahead_is ticks = λ i. map (λ k. predicted_state (latest i) (predicted i) (window_end (same i)) (time_of_tick (same i) ((same i).ticks + k)))
      (range_with_len 0 (ticks + 1))

-- ---- one vessel more

pub other_more : (own : ℕ) (near : List Near) (k : ℕ) (v : Near) → k < length near → (get_or near k v).mmsi == own ≡ false
    → others_of own (take (k + 1) near) ≡ others_of own (take k near) ++ get_or near k v ∷ []
other_more own near k v lt e =
    ap (others_of own) (take_more near k v lt) ∙ filter-append (λ (w : Near). not (w.mmsi == own)) (take k near) (get_or near k v ∷ [])
    ∙ ap (λ (vs : List Near). others_of own (take k near) ++ vs) (rw e refl)

pub own_more : (own : ℕ) (near : List Near) (k : ℕ) (v : Near) → k < length near → (get_or near k v).mmsi == own ≡ true
    → others_of own (take (k + 1) near) ≡ others_of own (take k near)
own_more own near k v lt e =
    ap (others_of own) (take_more near k v lt) ∙ filter-append (λ (w : Near). not (w.mmsi == own)) (take k near) (get_or near k v ∷ [])
    ∙ ap (λ (vs : List Near). others_of own (take k near) ++ vs) (rw e refl)
    ∙ append-nil (others_of own (take k near))

pub one_target_more : (f : Near → Target) (own : ℕ) (near : List Near) (k : ℕ) (d : Near) (old new : List Target) (t : Target) → k < length near
    → (get_or near k d).mmsi == own ≡ false → new ≡ old ++ t ∷ [] → old ≡ map f (others_of own (take k near)) → t ≡ f (get_or near k d)
    → new ≡ map f (others_of own (take (k + 1) near))
one_target_more f own near k d old new t lt other pushed so_far value =
    pushed ∙ ap (λ (xs : List Target). xs ++ t ∷ []) so_far ∙ ap (λ (u : Target). map f (others_of own (take k near)) ++ u ∷ []) value
    ∙ sym (map-append f (others_of own (take k near)) (get_or near k d ∷ [])) ∙ ap (map f) (sym (other_more own near k d lt other))

pub no_target_more : (f : Near → Target) (own : ℕ) (near : List Near) (k : ℕ) (d : Near) (old new : List Target) → k < length near
    → (get_or near k d).mmsi == own ≡ true → new ≡ old → old ≡ map f (others_of own (take k near)) → new ≡ map f (others_of own (take (k + 1) near))
no_target_more f own near k d old new lt herself same so_far = same ∙ so_far ∙ ap (map f) (sym (own_more own near k d lt herself))

pub differ : (m n : ℕ) → (m ≡ n → ⊥) → (m == n) ≡ false
differ m n h = by (m == n) refl
  where
    by : (b : Bool) → (m == n) ≡ b → b ≡ false
    by false e = refl
    by true e = absurd (h (grind (arith, nat_tests)))

pub agree : (m n : ℕ) → m ≡ n → (m == n) ≡ true
agree m n e = grind (arith, nat_tests)
