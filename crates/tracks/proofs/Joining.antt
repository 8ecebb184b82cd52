-- One more accepted report, and the leg that it ends.
use Rattle.std.proofs.Common.{length-append, ◌≡◌, ℕ, ◌+◌, ◌<◌, ◌≤◌, ◌⊎◌, inl, inr, nat_lt, true, false, List, [], ◌∷◌, ◌++◌, length, get_or, Some, None, refl, ap, sym, ◌∙◌, subst, arith}
use Rattle.std.specs.Prelude.{Option, IfSome, is_some}
use Rattle.std.specs.Option.{option_to_list}
use Rattle.std.specs.List.{All, AllAdjacentBelow, last_or}
use Rattle.std.proofs.lemmas.Bool.Decides.{nat_tests}
use Rattle.std.proofs.lemmas.List.{append-nil, get_or_append_left}
use Rattle.std.proofs.lemmas.List.Elements.{All-nil, All-push}
use Rattle.std.proofs.lemmas.List.Sorted.{IsNonDecreasingBy-short}
use Rattle.std.proofs.Math.Seq.{get_or-append_seam}
use Rattle.ais_messages.specs.MessageFields.{IsShipData}
use Rattle.motion.specs.TickStates.{AreJoined, Meets}
use Rattle.motion.specs.declared.leg.Leg.{Leg}
use Rattle.motion.proofs.LastPassing.{last_or-at}
use Rattle.tracks.specs.JoinedReports.{joined, leg_between, legs_between}
use Rattle.tracks.specs.Inner.Keeping.{AreInOrder, EndsAt, Follows, IsKept, counts_more, counts_with, joined_after, vessel_with}
use Rattle.tracks.specs.Standing.{IsAccepted, VesselValue, kept_points, points_since}
use Rattle.tracks.specs.declared.accepted.Accepted.{Accepted}
use Rattle.tracks.specs.declared.statics.Statics.{Statics}
use Rattle.tracks.specs.declared.keeping.Keeping.{Keeping}
use Rattle.tracks.specs.declared.keeping.Keeping.TheVariants.{Latest, Since, Tracks}
use Rattle.tracks.proofs.Forgetting.{since-push}
use Rattle.tracks.proofs.KeptReports.{kept_points-push, latest_alone}
use Rattle.tracks.proofs.Lasts.{last_or-push}
use Rattle.tracks.proofs.Legs.{legs_between-push}
use Rattle.tracks.proofs.Rising.{order_push}

-- ---- what holds of them

cases : (k n : ℕ) → k + 1 < n + 1 → (k + 1 < n) ⊎ (k + 1 ≡ n)
cases k n h = grind arith

pub all_adjacent-push : {A : Type 0} (R : A → A → Type 0) (xs : List A) (y : A) → AllAdjacentBelow R xs (length xs)
    → IfSome (last_or None xs) (λ x. R x y) → AllAdjacentBelow R (xs ++ y ∷ []) (length (xs ++ y ∷ []))
all_adjacent-push R [] y all last k d lt = absurd (omega arith)
all_adjacent-push {A} R (x ∷ xs) y all last k d lt =
    elim (cases k (length (x ∷ xs)) (omega (arith, length-append (x ∷ xs) (y ∷ [])))) [
      | inl before ↦ (let here : R (get_or (x ∷ xs) k d) (get_or (x ∷ xs) (k + 1) d) = all k d before in
          let first = get_or_append_left (x ∷ xs) (y ∷ []) d k (omega arith) in
          let second = get_or_append_left (x ∷ xs) (y ∷ []) d (k + 1) before in
          rw (first, second) here)
      | inr end ↦ (let here : R (get_or (x ∷ xs) (length xs) d) y = subst (λ (o : Option A). IfSome o (λ a. R a y)) (last_or-at None x xs d) last in
          let same : k ≡ length xs = omega arith in
          let first = get_or_append_left (x ∷ xs) (y ∷ []) d k (omega arith) in
          let second = get_or-append_seam (x ∷ xs) y [] d in
          rw (first, end, second, same) here)
    ]

-- Where two reports are joined, this is their leg; else they lie more than the gap apart.
pub joined-some : (gap : ℕ) (latest now : Accepted) (leg : Leg) → joined gap latest now ≡ Some leg → leg ≡ leg_between latest now
joined-some gap latest now leg e = grind arith

pub joined-none : (gap : ℕ) (latest now : Accepted) → joined gap latest now ≡ None → latest.time + gap < now.time
joined-none gap latest now e = grind (arith, nat_tests)

-- ---- what is kept

meets : (gap : ℕ) (latest now : Accepted) (o : Option Leg) (leg : Leg) → leg ≡ leg_between latest now → IfSome o (EndsAt gap latest)
    → IfSome o (λ last. Meets last leg ⊎ (last.t2 + gap < leg.t1))
meets gap latest now None leg e ends = tt
meets gap latest now (Some last) leg e ends =
    let time : leg.t1 ≡ latest.time = ap (λ (l : Leg). l.t1) e in
    let point : leg.p1 ≡ latest.point = ap (λ (l : Leg). l.p1) e in
    elim ends [
      | inl here ↦ inl (record { time = here.0 ∙ sym time; point = here.1 ∙ sym point })
      | inr before ↦ inr (omega arith)
    ]

pub with_leg : (gap : ℕ) (o : Option Accepted) (legs : List Leg) (now : Accepted) (leg : Leg) → IfSome o (λ latest. IfSome (last_or None legs) (EndsAt gap latest))
    → joined_after gap o now ≡ Some leg → IfSome (last_or None legs) (λ last. Meets last leg ⊎ (last.t2 + gap < leg.t1))
with_leg gap None legs now leg ends e = absurd (cc)
with_leg gap (Some latest) legs now leg ends e = meets gap latest now (last_or None legs) leg (joined-some gap latest now leg e) ends

-- a leg may be put after the others
after_meets : (gap : ℕ) (o : Option Leg) (leg : Leg) → IfSome o (λ last. Meets last leg ⊎ (last.t2 + gap < leg.t1)) → IfSome o (λ last. last.t2 ≤ leg.t1)
after_meets gap None leg h = tt
after_meets gap (Some last) leg h = elim h [ inl m ↦ (let e = m.time in omega arith) | inr lt ↦ omega arith ]

pub leg_after : (gap : ℕ) (vessel : VesselValue) (now : Accepted) (leg : Leg) → IsKept Tracks gap vessel → joined_after gap (last_or None vessel.points) now ≡ Some leg
    → IfSome (last_or None vessel.legs) (λ last. last.t2 ≤ leg.t1)
leg_after gap vessel now leg h e = after_meets gap (last_or None vessel.legs) leg (with_leg gap (last_or None vessel.points) vessel.legs now leg h.ends e)

some_leg : (o : Option Accepted) (gap : ℕ) (now : Accepted) (leg : Leg) → joined_after gap o now ≡ Some leg → (leg.t2 ≡ now.time) × (leg.p2 ≡ now.point)
some_leg None gap now leg e = absurd (cc)
some_leg (Some latest) gap now leg e =
    let is = joined-some gap latest now leg e in
    (ap (λ (l : Leg). l.t2) is, ap (λ (l : Leg). l.p2) is)

same_ship : (vessel new : VesselValue) → new.statics ≡ vessel.statics → IfSome vessel.statics.ship IsShipData → IfSome new.statics.ship IsShipData
same_ship vessel new statics h = subst (λ (s : Statics). IfSome s.ship IsShipData) (sym statics) h

order_with : (gap : ℕ) (xs : List Accepted) (now : Accepted) → AreInOrder xs → IfSome (last_or None xs) (λ latest. Follows gap latest now) → AreInOrder (xs ++ now ∷ [])
order_with gap xs now h follows = order_push xs now h (after (last_or None xs) follows)
  where
    after : (o : Option Accepted) → IfSome o (λ latest. Follows gap latest now) → IfSome o (λ latest. latest.time < now.time)
    after None f = tt
    after (Some latest) f = f.after

pub kept_joined : (gap : ℕ) (vessel new : VesselValue) (now : Accepted) (leg : Leg) → IsKept Tracks gap vessel → IsAccepted now
    → IfSome (last_or None vessel.points) (λ latest. Follows gap latest now)
    → joined_after gap (last_or None vessel.points) now ≡ Some leg → new.points ≡ vessel.points ++ now ∷ [] → new.legs ≡ vessel.legs ++ leg ∷ []
    → new.statics ≡ vessel.statics → IsKept Tracks gap new
kept_joined gap vessel new now leg h is follows e points legs statics =
    let ends : IfSome (Some now) (λ latest. IfSome (Some leg) (EndsAt gap latest)) = inl (some_leg (last_or None vessel.points) gap now leg e) in
    record {
      points = subst (λ (xs : List Accepted). All IsAccepted xs) (sym points) (All-push IsAccepted vessel.points now h.points is);
      in_order = subst AreInOrder (sym points) (order_with gap vessel.points now h.in_order follows);
      no_others = refl;
      legs = legs ∙ ap (λ (xs : List Leg). xs ++ leg ∷ []) h.legs ∙ ap (λ (o : Option Leg). legs_between gap vessel.points ++ option_to_list o) (sym e)
          ∙ sym (legs_between-push gap vessel.points now) ∙ ap (legs_between gap) (sym points);
      ends = rw (points, legs, last_or-push, last_or-push) ends;
      are_joined = subst (λ (xs : List Leg). AreJoined gap xs) (sym legs)
          (all_adjacent-push (λ earlier later. Meets earlier later ⊎ (earlier.t2 + gap < later.t1)) vessel.legs leg h.are_joined
          (with_leg gap (last_or None vessel.points) vessel.legs now leg h.ends e));
      ship = same_ship vessel new statics h.ship;
    }

-- ---- where no leg ends at the report

later : (gap : ℕ) (latest now : Accepted) (o : Option Leg) → latest.time + gap < now.time → IfSome o (EndsAt gap latest) → IfSome o (EndsAt gap now)
later gap latest now None lt ends = tt
later gap latest now (Some leg) lt ends = elim ends [ inl here ↦ (let e = here.0 in inr (omega arith)) | inr before ↦ inr (omega arith) ]

no_leg : (gap : ℕ) (points : List Accepted) (legs : List Leg) (now : Accepted) → legs ≡ legs_between gap points
    → IfSome (last_or None points) (λ latest. IfSome (last_or None legs) (EndsAt gap latest)) → joined_after gap (last_or None points) now ≡ None
    → IfSome (last_or None legs) (EndsAt gap now)
no_leg gap [] legs now same ends e = rw same tt
no_leg gap (x ∷ xs) legs now same ends e = past (last_or (Some x) xs) (last_or-at None x xs x) ends e
  where
    past : (o : Option Accepted) → o ≡ Some (get_or (x ∷ xs) (length xs) x) → IfSome o (λ latest. IfSome (last_or None legs) (EndsAt gap latest))
        → joined_after gap o now ≡ None → IfSome (last_or None legs) (EndsAt gap now)
    past None some ends e = absurd (cc)
    past (Some latest) some ends e = later gap latest now (last_or None legs) (joined-none gap latest now e) ends

pub kept_apart : (gap : ℕ) (vessel new : VesselValue) (now : Accepted) → IsKept Tracks gap vessel → IsAccepted now
    → IfSome (last_or None vessel.points) (λ latest. Follows gap latest now)
    → joined_after gap (last_or None vessel.points) now ≡ None → new.points ≡ vessel.points ++ now ∷ [] → new.legs ≡ vessel.legs
    → new.statics ≡ vessel.statics → IsKept Tracks gap new
kept_apart gap vessel new now h is follows e points legs statics =
    let ends : IfSome (Some now) (λ latest. IfSome (last_or None vessel.legs) (EndsAt gap latest)) = no_leg gap vessel.points vessel.legs now h.legs h.ends e in
    record {
      points = subst (λ (xs : List Accepted). All IsAccepted xs) (sym points) (All-push IsAccepted vessel.points now h.points is);
      in_order = subst AreInOrder (sym points) (order_with gap vessel.points now h.in_order follows);
      no_others = refl;
      legs = legs ∙ h.legs ∙ sym (append-nil (legs_between gap vessel.points)) ∙ ap (λ (o : Option Leg). legs_between gap vessel.points ++ option_to_list o) (sym e)
          ∙ sym (legs_between-push gap vessel.points now) ∙ ap (legs_between gap) (sym points);
      ends = rw (points, legs, last_or-push) ends;
      are_joined = subst (λ (xs : List Leg). AreJoined gap xs) (sym legs) h.are_joined;
      ship = same_ship vessel new statics h.ship;
    }

-- ---- a vessel with one more accepted report

pub record HasTaken (keeping : Keeping) (gap : ℕ) (old new : VesselValue) (now : Accepted) : Type 0 where
  pub kept : IsKept keeping gap new
  pub is : new ≡ vessel_with keeping gap old (Some now)

has_taken : (keeping : Keeping) (gap : ℕ) (old new : VesselValue) (now : Accepted) → IsKept keeping gap new → new.points ≡ kept_points keeping (old.points ++ now ∷ [])
    → new.counts ≡ counts_with keeping gap old (Some now) → new.statics ≡ old.statics → HasTaken keeping gap old new now
has_taken keeping gap old new now kept points counts statics =
    let legs : new.legs ≡ legs_between gap (kept_points keeping (old.points ++ now ∷ [])) = kept.legs ∙ ap (legs_between gap) points in
    record { kept = kept; is = λ i. record { points = points i; legs = legs i; counts = counts i; statics = statics i } }

pub takes_joined : (gap : ℕ) (old inside new : VesselValue) (now : Accepted) (leg : Leg) → inside ≡ old → IsKept Tracks gap old → IsAccepted now
    → IfSome (last_or None old.points) (λ latest. Follows gap latest now)
    → joined_after gap (last_or None inside.points) now ≡ Some leg → new.points ≡ inside.points ++ now ∷ [] → new.legs ≡ inside.legs ++ leg ∷ []
    → new.counts ≡ counts_more inside.counts true → new.statics ≡ inside.statics → HasTaken Tracks gap old new now
takes_joined gap old inside new now leg same h is follows e points legs counts statics =
    let kept : IsKept Tracks gap inside = subst (IsKept Tracks gap) (sym same) h in
    let after = subst (λ (v : VesselValue). IfSome (last_or None v.points) (λ latest. Follows gap latest now)) (sym same) follows in
    let new-kept = kept_joined gap inside new now leg kept is after e points legs statics in
    let all-counts = counts ∙ ap (λ (o : Option Leg). counts_more inside.counts (is_some o)) (sym e) in
    subst (λ (v : VesselValue). HasTaken Tracks gap v new now) same (has_taken Tracks gap inside new now new-kept points all-counts statics)

pub takes_apart : (gap : ℕ) (old inside new : VesselValue) (now : Accepted) → inside ≡ old → IsKept Tracks gap old → IsAccepted now
    → IfSome (last_or None old.points) (λ latest. Follows gap latest now)
    → joined_after gap (last_or None inside.points) now ≡ None → new.points ≡ inside.points ++ now ∷ [] → new.legs ≡ inside.legs
    → new.counts ≡ counts_more inside.counts false → new.statics ≡ inside.statics → HasTaken Tracks gap old new now
takes_apart gap old inside new now same h is follows e points legs counts statics =
    let kept : IsKept Tracks gap inside = subst (IsKept Tracks gap) (sym same) h in
    let after = subst (λ (v : VesselValue). IfSome (last_or None v.points) (λ latest. Follows gap latest now)) (sym same) follows in
    let new-kept = kept_apart gap inside new now kept is after e points legs statics in
    let all-counts = counts ∙ ap (λ (o : Option Leg). counts_more inside.counts (is_some o)) (sym e) in
    subst (λ (v : VesselValue). HasTaken Tracks gap v new now) same (has_taken Tracks gap inside new now new-kept points all-counts statics)

-- ---- a vessel whose latest report alone is kept

kept_latest : (gap : ℕ) (old new : VesselValue) (now : Accepted) → IsKept Latest gap old → IsAccepted now → new.points ≡ now ∷ [] → new.legs ≡ old.legs
    → new.statics ≡ old.statics → IsKept Latest gap new
kept_latest gap old new now h is points legs statics =
    let none : new.legs ≡ [] = legs ∙ h.legs ∙ latest_alone gap old.points h.no_others in
    let alone : new.points ≡ kept_points Latest new.points = points ∙ ap (kept_points Latest) (sym points) in
    let ends : IfSome (Some now) (λ latest. IfSome (last_or None []) (EndsAt gap latest)) = tt in
    record {
      points = rw points (All-push IsAccepted [] now (All-nil IsAccepted) is);
      in_order = subst AreInOrder (sym points) (IsNonDecreasingBy-short (λ (report : Accepted). report.time) (now ∷ []) (omega arith));
      no_others = alone;
      legs = none ∙ sym (latest_alone gap new.points alone);
      ends = rw (points, none) ends;
      are_joined = subst (λ (xs : List Leg). AreJoined gap xs) (sym legs) h.are_joined;
      ship = same_ship old new statics h.ship;
    }

takes_alone : (gap : ℕ) (old new : VesselValue) (now : Accepted) → IsKept Latest gap old → IsAccepted now → new ≡ record old { points = now ∷ [] }
    → HasTaken Latest gap old new now
takes_alone gap old new now h is e =
    let points : new.points ≡ now ∷ [] = ap (λ (v : VesselValue). v.points) e in
    has_taken Latest gap old new now (kept_latest gap old new now h is points (ap (λ (v : VesselValue). v.legs) e) (ap (λ (v : VesselValue). v.statics) e)) (points ∙ sym (kept_points-push old.points now))
    (ap (λ (v : VesselValue). v.counts) e) (ap (λ (v : VesselValue). v.statics) e)

pub takes_latest : (keeping : Keeping) (gap : ℕ) (old new : VesselValue) (now : Accepted) → keeping ≡ Latest → IsKept keeping gap old → IsAccepted now
    → new ≡ record old { points = now ∷ [] } → HasTaken keeping gap old new now
takes_latest keeping gap old new now latest h is e =
    subst (λ (k : Keeping). HasTaken k gap old new now) (sym latest) (takes_alone gap old new now (subst (λ (k : Keeping). IsKept k gap old) latest h) is e)

-- ---- a vessel whose reports from a time on are kept

-- a report that is not earlier
takes_since : (gap time : ℕ) (old new : VesselValue) (now : Accepted) → IsKept (Since time) gap old → IsKept Tracks gap new → new ≡ vessel_with Tracks gap old (Some now)
    → time ≤ now.time → HasTaken (Since time) gap old new now
takes_since gap time old new now h kept e late =
    let not : nat_lt now.time time ≡ false = grind (arith, nat_tests) in
    let points : points_since time (old.points ++ now ∷ []) ≡ old.points ++ now ∷ [] =
    since-push time old.points now not ∙ ap (λ (xs : List Accepted). xs ++ now ∷ []) (sym h.no_others) in
    let are : new.points ≡ old.points ++ now ∷ [] = ap (λ (v : VesselValue). v.points) e in
    let new-kept : IsKept (Since time) gap new = record {
      points = kept.points;
      in_order = kept.in_order;
      no_others = are ∙ sym points ∙ ap (points_since time) (sym are);
      legs = kept.legs;
      ends = kept.ends;
      are_joined = kept.are_joined;
      ship = kept.ship;
    } in
    has_taken (Since time) gap old new now new-kept (are ∙ sym points) (ap (λ (v : VesselValue). v.counts) e) (ap (λ (v : VesselValue). v.statics) e)

pub takes_late : (keeping : Keeping) (gap time : ℕ) (old new : VesselValue) (now : Accepted) → keeping ≡ Since time → IsKept keeping gap old → IsKept Tracks gap new
    → new ≡ vessel_with Tracks gap old (Some now) → time ≤ now.time → HasTaken keeping gap old new now
takes_late keeping gap time old new now is h kept e late =
    subst (λ (k : Keeping). HasTaken k gap old new now) (sym is) (takes_since gap time old new now (subst (λ (k : Keeping). IsKept k gap old) is h) kept e late)

pub joined-within : (gap : ℕ) (latest now : Accepted) (leg : Leg) → joined gap latest now ≡ Some leg → now.time ≤ latest.time + gap
joined-within gap latest now leg e = grind (arith, nat_tests)
