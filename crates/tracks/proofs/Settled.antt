-- What is settled before a message came does not change by it.
use Rattle.std.proofs.Common.{◌≡◌, ◌≢◌, ◌∙◌, ℕ, ◌+◌, ◌<◌, ◌≤◌, ◌⊎◌, inl, inr, Bool, true, false, map, nat_eq, List, [], ◌∷◌, ◌++◌, Some, None, Ok, Err, ℤ, refl, ap, sym, arith}
use Rattle.std.specs.Prelude.{Option, Result}
use Rattle.std.specs.List.{filter, last_or}
use Rattle.std.specs.Option.{option_map, option_to_list}
use Rattle.std.proofs.lemmas.Bool.Decides.{nat_tests}
use Rattle.std.proofs.lemmas.List.{append-nil}
use Rattle.std.proofs.lemmas.List.Elements.{filter-append}
use Rattle.motion.specs.TickStates.{holds, state_at, state_on}
use Rattle.motion.specs.declared.leg.Leg.{Leg}
use Rattle.fixed_geometry.specs.Place.{Place}
use Rattle.fixed_geometry.specs.Projection.{projection_of}
use Rattle.fixed_geometry.specs.declared.point.Point.{Point}
use Rattle.ais_messages.specs.declared.message.PositionReport.{PositionReport}
use Rattle.tracks.specs.AcceptedReports.{JudgingNumbers, Reported, at_place, at_point, judged, placed}
use Rattle.tracks.specs.JoinedReports.{legs_between}
use Rattle.tracks.specs.Standing.{BookValue, StandsFor, VesselValue, forgotten, kept_legs, legs_among, legs_in, vessel_of}
use Rattle.tracks.specs.VesselsHeld.{Sent, accepted_of, held_of, is_held, legs_of, report_in, reported_in, sender_of}
use Rattle.tracks.proofs.Ascending.{IsAmong}
use Rattle.tracks.proofs.Holding.{held_among, held_passes, no_points, same_or_other}
use Rattle.tracks.specs.Inner.Keeping.{accepted_by, accepted_in, joined_after, points_with}
use Rattle.tracks.specs.declared.accepted.Accepted.{Accepted}
use Rattle.tracks.specs.declared.entry.ReportCause.{ReportCause}
use Rattle.tracks.specs.declared.keeping.Keeping.{Keeping}
use Rattle.tracks.specs.declared.keeping.Keeping.TheVariants.{Latest, Since, Tracks}
use Rattle.tracks.proofs.Forgetting.{seen_since}
use Rattle.tracks.proofs.KeptReports.{kept_legs-latest, kept_legs-none}
use Rattle.tracks.proofs.Joining.{joined-some, joined-within}
use Rattle.tracks.proofs.Legs.{legs_between-push}
use Rattle.tracks.proofs.Messages.{accepted_of-other, accepted_of-own}
use Rattle.tracks.proofs.OneList.{judged_placed}
use Rattle.tracks.proofs.Rising.{accepted_in_order}

-- ---- the time of an accepted report is that of its message

point_time : (now : Reported) (o : Option Point) (accepted : Accepted) → at_point now o ≡ Ok accepted → accepted.time ≡ now.time
point_time now None accepted e = cc
point_time now (Some point) accepted e =
    let is : record { time = now.time; point = point; report = now.report } ≡ accepted = cc in
    ap (λ (a : Accepted). a.time) (sym is)

place_time : (reference : Place) (now : Reported) (o : Option (ℤ × ℤ)) (accepted : Accepted) → at_place reference now o ≡ Ok accepted → accepted.time ≡ now.time
place_time reference now None accepted e = cc
place_time reference now (Some place) accepted e =
    point_time now (projection_of reference.latitude reference.longitude place.0 place.1) accepted e

placed_time : (reference : Place) (now : Reported) (accepted : Accepted) → placed reference now ≡ Ok accepted → accepted.time ≡ now.time
unfolding placed
placed_time reference now accepted e = place_time reference now now.report.place accepted e

by_some : (r : Result Accepted ReportCause) (accepted : Accepted) → accepted_by r ≡ Some accepted → r ≡ Ok accepted
by_some (Ok x) accepted e = cc
by_some (Err cause) accepted e = cc

pub reported_time : (numbers : JudgingNumbers) (latest : Option Accepted) (o : Option PositionReport) (time : ℕ) (accepted : Accepted)
    → accepted_in numbers latest (option_map (λ report. record { report = report; time = time }) o) ≡ Some accepted → accepted.time ≡ time
reported_time numbers latest None time accepted e = cc
reported_time numbers latest (Some report) time accepted e =
    let now : Reported = record { report = report; time = time } in
    placed_time numbers.reference now accepted (judged_placed numbers latest now accepted (by_some (judged numbers latest now) accepted e))

-- ---- a leg that begins later

not_held : (t : ℕ) (leg : Leg) → t < leg.t1 → holds t leg ≡ false
not_held t leg lt = grind (arith, nat_tests)

filter_no : (p : Leg → Bool) (leg : Leg) → p leg ≡ false → filter p (leg ∷ []) ≡ []
filter_no p leg e = rw e refl

one_later : (t : ℕ) (legs : List Leg) (leg : Leg) → t < leg.t1 → state_at t (legs ++ leg ∷ []) ≡ state_at t legs
unfolding state_at
one_later t legs leg lt =
    ap (λ (xs : List Leg). option_map (state_on t) (last_or None xs))
    (filter-append (holds t) legs (leg ∷ []) ∙ ap (λ (xs : List Leg). filter (holds t) legs ++ xs) (filter_no (holds t) leg (not_held t leg lt)) ∙ append-nil (filter (holds t) legs))

-- a leg that is joined to a report begins at most the gap before it
leg_begins : (gap : ℕ) (o : Option Accepted) (now : Accepted) (leg : Leg) → joined_after gap o now ≡ Some leg → now.time ≤ leg.t1 + gap
leg_begins gap None now leg e = absurd (cc)
leg_begins gap (Some latest) now leg e =
    let is = ap (λ (l : Leg). l.t1) (joined-some gap latest now leg e) in
    let within = joined-within gap latest now leg e in
    omega arith

more_legs : (gap t : ℕ) (legs : List Leg) (now : Accepted) (latest : Option Accepted) (o : Option Leg) → joined_after gap latest now ≡ o → t + gap < now.time
    → state_at t (legs ++ option_to_list o) ≡ state_at t legs
more_legs gap t legs now latest None e lt = ap (state_at t) (append-nil legs)
more_legs gap t legs now latest (Some leg) e lt =
    let begins : now.time ≤ leg.t1 + gap = leg_begins gap latest now leg e in
    one_later t legs leg (omega arith)

with_points : (gap t : ℕ) (points : List Accepted) (o : Option Accepted) (time : ℕ) → ((now : Accepted) → o ≡ Some now → now.time ≡ time) → t + gap < time
    → state_at t (legs_between gap (points_with points o)) ≡ state_at t (legs_between gap points)
with_points gap t points None time at lt = refl
with_points gap t points (Some now) time at lt =
    let same : now.time ≡ time = at now refl in
    ap (state_at t) (legs_between-push gap points now)
    ∙ more_legs gap t (legs_between gap points) now (last_or None points) (joined_after gap (last_or None points) now) refl (omega arith)

-- Where a vessel was more than the gap before a message came stays as it was.
pub past_stays : (numbers : JudgingNumbers) (sent : List Sent) (one : Sent) (mmsi t : ℕ) → t + numbers.gap < one.time
    → state_at t (legs_of numbers (sent ++ one ∷ []) mmsi) ≡ state_at t (legs_of numbers sent mmsi)
unfolding legs_of
past_stays numbers sent one mmsi t lt =
    elim (same_or_other mmsi (sender_of one.message)) [
      | inl own ↦ (let points = accepted_of numbers sent mmsi in
          let now = accepted_in numbers (last_or None points) (reported_in one) in
          ap (λ (xs : List Accepted). state_at t (legs_between numbers.gap xs)) (accepted_of-own numbers sent one mmsi (sym own))
          ∙ with_points numbers.gap t points now one.time (λ a e. reported_time numbers (last_or None points) (report_in one.message) one.time a e) lt)
      | inr other ↦ ap (λ (xs : List Accepted). state_at t (legs_between numbers.gap xs)) (accepted_of-other numbers sent one mmsi other)
    ]

-- ---- in the book

legs_among-own : (f : ℕ → VesselValue) (ms : List ℕ) (m : ℕ) → IsAmong m ms → legs_among ms (map f ms) m ≡ (f m).legs
legs_among-own f [] m h = absurd h
legs_among-own f (n ∷ ms) m h =
    elim (same_or_other n m) [
      | inl same ↦ (let test : nat_eq n m ≡ true = grind (arith, nat_tests) in rw test (ap (λ (k : ℕ). (f k).legs) same))
      | inr other ↦ (let test : nat_eq n m ≡ false = grind (arith, nat_tests) in rw test (legs_among-own f ms m (later n m ms h other)))
    ]
  where
    later : (n m : ℕ) (ms : List ℕ) → IsAmong m (n ∷ ms) → n ≢ m → IsAmong m ms
    later n m ms (inl same) other = absurd (other (sym same))
    later n m ms (inr h) other = h

legs_among-none : (f : ℕ → VesselValue) (ms : List ℕ) (m : ℕ) → ¬ IsAmong m ms → legs_among ms (map f ms) m ≡ []
legs_among-none f [] m not = refl
legs_among-none f (n ∷ ms) m not =
    let test : nat_eq n m ≡ false = differs (same_or_other n m) in
    rw test (legs_among-none f ms m (λ h. not (inr h)))
  where
    differs : (n ≡ m) ⊎ (n ≢ m) → nat_eq n m ≡ false
    differs (inl same) = absurd (not (inl (sym same)))
    differs (inr other) = grind (arith, nat_tests)

no_legs : (keeping : Keeping) (numbers : JudgingNumbers) (sent : List Sent) (m : ℕ) → is_held numbers sent m ≡ false
    → [] ≡ kept_legs keeping numbers.gap (accepted_of numbers sent m)
no_legs keeping numbers sent m h =
    sym (kept_legs-none keeping numbers.gap) ∙ ap (kept_legs keeping numbers.gap) (sym (no_points numbers sent m h))

pub legs_in-is : (book : BookValue) (numbers : JudgingNumbers) (sent : List Sent) (m : ℕ) → StandsFor book numbers sent
    → legs_in book m ≡ kept_legs book.keeping numbers.gap (accepted_of numbers sent m)
legs_in-is book numbers sent m h =
    (λ i. legs_among (h.holds i) (h.vessels i) m) ∙ decide (is_held numbers sent m) refl
  where
    decide : (b : Bool) → is_held numbers sent m ≡ b
        → legs_among (held_of numbers sent) (map (vessel_of book.keeping numbers sent) (held_of numbers sent)) m
        ≡ kept_legs book.keeping numbers.gap (accepted_of numbers sent m)
    decide true e = legs_among-own (vessel_of book.keeping numbers sent) (held_of numbers sent) m (held_among numbers sent m e)
    decide false e =
        legs_among-none (vessel_of book.keeping numbers sent) (held_of numbers sent) m
        (λ h. let held : is_held numbers sent m ≡ true = held_passes numbers sent m h in absurd (cc)) ∙ no_legs book.keeping numbers sent m e

-- also of the legs that are kept
kept_past : (keeping : Keeping) (numbers : JudgingNumbers) (sent : List Sent) (one : Sent) (mmsi t : ℕ) → forgotten keeping ≤ t → t + numbers.gap < one.time
    → state_at t (kept_legs keeping numbers.gap (accepted_of numbers (sent ++ one ∷ []) mmsi)) ≡ state_at t (kept_legs keeping numbers.gap (accepted_of numbers sent mmsi))
unfolding legs_of
kept_past Latest numbers sent one mmsi t le lt =
    ap (state_at t) (kept_legs-latest numbers.gap (accepted_of numbers (sent ++ one ∷ []) mmsi) ∙ sym (kept_legs-latest numbers.gap (accepted_of numbers sent mmsi)))
kept_past Tracks numbers sent one mmsi t le lt = past_stays numbers sent one mmsi t lt
kept_past (Since time) numbers sent one mmsi t le lt =
    seen_since numbers.gap time t (accepted_of numbers (sent ++ one ∷ []) mmsi) (accepted_in_order numbers (sent ++ one ∷ []) mmsi) le ∙ past_stays numbers sent one mmsi t lt
    ∙ sym (seen_since numbers.gap time t (accepted_of numbers sent mmsi) (accepted_in_order numbers sent mmsi) le)

pub past_stays_in : (old new : BookValue) (numbers : JudgingNumbers) (sent : List Sent) (one : Sent) (mmsi t : ℕ) → new.keeping ≡ old.keeping → StandsFor old numbers sent
    → StandsFor new numbers (sent ++ one ∷ []) → forgotten old.keeping ≤ t → t + numbers.gap < one.time → state_at t (legs_in new mmsi) ≡ state_at t (legs_in old mmsi)
past_stays_in old new numbers sent one mmsi t same before after le lt =
    ap (state_at t) (legs_in-is new numbers (sent ++ one ∷ []) mmsi after)
    ∙ ap (λ (keeping : Keeping). state_at t (kept_legs keeping numbers.gap (accepted_of numbers (sent ++ one ∷ []) mmsi))) same
    ∙ kept_past old.keeping numbers sent one mmsi t le lt ∙ ap (state_at t) (sym (legs_in-is old numbers sent mmsi before))
