-- What one more message says about the vessels.
use Rattle.std.proofs.Common.{◌≡◌, ◌≢◌, ◌∙◌, ℕ, Bool, true, false, ◌==◌, List, [], ◌∷◌, ◌++◌, Some, None, Ok, Err, refl, ap, sym, arith}
use Rattle.std.specs.Prelude.{Option, Result}
use Rattle.std.specs.List.{cons_option, filter, filter_map, last_or}
use Rattle.std.specs.Option.{option_or, option_to_list}
use Rattle.std.proofs.lemmas.Bool.Decides.{nat_tests}
use Rattle.std.proofs.lemmas.List.{append-nil}
use Rattle.std.proofs.lemmas.List.Elements.{filter-append, filter_map-append}
use Rattle.ais_messages.specs.declared.message.StaticReport.{StaticReport}
use Rattle.tracks.specs.AcceptedReports.{JudgingNumbers, Reported, accepted_after, accepted_list, accepted_with, judged}
use Rattle.tracks.specs.JoinedReports.{legs_between}
use Rattle.tracks.specs.Standing.{kept_counts, kept_legs, kept_points, vessel_of}
use Rattle.tracks.specs.VesselsHeld.{Sent, accepted_of, last_told, messages_of, reported_in, sender_of, static_in, static_reports_of, statics_of}
use Rattle.tracks.specs.Inner.Keeping.{accepted_by, accepted_in, counts_with, kept_with, points_with, statics_with, vessel_after}
use Rattle.tracks.specs.declared.accepted.Accepted.{Accepted}
use Rattle.tracks.specs.declared.entry.ReportCause.{ReportCause}
use Rattle.tracks.specs.declared.keeping.Keeping.{Keeping}
use Rattle.tracks.proofs.KeptReports.{kept_counts-more, kept_points-last, kept_points-more}
use Rattle.tracks.proofs.Rising.{accepted_in_order}
use Rattle.tracks.proofs.Lasts.{cons_option-nil, last_or-push}

-- ---- one more report

points_with-cons : (x : Accepted) (xs : List Accepted) (o : Option Accepted) → points_with (x ∷ xs) o ≡ x ∷ points_with xs o
points_with-cons x xs None = refl
points_with-cons x xs (Some y) = refl

-- what one more report adds, after a latest accepted one
abbrev Adds : JudgingNumbers → List Reported → Reported → Option Accepted → Type 0
Adds numbers reports now latest =
    accepted_after numbers (reports ++ now ∷ []) latest
    ≡ points_with (accepted_after numbers reports latest) (accepted_by (judged numbers (last_or latest (accepted_after numbers reports latest)) now))

adds_first : (numbers : JudgingNumbers) (latest : Option Accepted) (came : Result Accepted ReportCause)
    → accepted_with (accepted_after numbers []) latest came ≡ points_with [] (accepted_by came)
unfolding accepted_after
adds_first numbers latest (Ok accepted) = refl
adds_first numbers latest (Err cause) = refl

adds_further : (numbers : JudgingNumbers) (reports : List Reported) (now : Reported) (latest : Option Accepted) (came : Result Accepted ReportCause)
    → ((o : Option Accepted) → Adds numbers reports now o)
    → accepted_with (accepted_after numbers (reports ++ now ∷ [])) latest came
    ≡ points_with (accepted_with (accepted_after numbers reports) latest came)
    (accepted_by (judged numbers (last_or latest (accepted_with (accepted_after numbers reports) latest came)) now))
adds_further numbers reports now latest (Ok accepted) step =
    ap (λ (xs : List Accepted). accepted ∷ xs) (step (Some accepted))
    ∙ sym (points_with-cons accepted (accepted_after numbers reports (Some accepted)) (accepted_by (judged numbers (last_or (Some accepted) (accepted_after numbers reports (Some accepted))) now)))
adds_further numbers reports now latest (Err cause) step = step latest

pub accepted_after-push : (numbers : JudgingNumbers) (reports : List Reported) (now : Reported) (latest : Option Accepted) → Adds numbers reports now latest
unfolding accepted_after
accepted_after-push numbers [] now latest = adds_first numbers latest (judged numbers latest now)
accepted_after-push numbers (first ∷ reports) now latest =
    adds_further numbers reports now latest (judged numbers latest first) (λ o. accepted_after-push numbers reports now o)

-- ---- one more message of the vessel

same_sender : (one : Sent) (mmsi : ℕ) → sender_of one.message ≡ mmsi → (sender_of one.message == mmsi) ≡ true
same_sender one mmsi e = grind (arith, nat_tests)

other_sender : (one : Sent) (mmsi : ℕ) → mmsi ≢ sender_of one.message → (sender_of one.message == mmsi) ≡ false
other_sender one mmsi ne = grind (arith, nat_tests)

filter_one : (p : Sent → Bool) (one : Sent) (b : Bool) → p one ≡ b → (b ≡ true) → filter p (one ∷ []) ≡ one ∷ []
filter_one p one b e t = rw (e, t) refl

filter_none : (p : Sent → Bool) (one : Sent) → p one ≡ false → filter p (one ∷ []) ≡ []
filter_none p one e = rw e refl

pub messages_of-own : (sent : List Sent) (one : Sent) (mmsi : ℕ) → sender_of one.message ≡ mmsi → messages_of (sent ++ one ∷ []) mmsi ≡ messages_of sent mmsi ++ one ∷ []
messages_of-own sent one mmsi e =
    let p : Sent → Bool = λ s. sender_of s.message == mmsi in
    filter-append p sent (one ∷ []) ∙ ap (λ (xs : List Sent). messages_of sent mmsi ++ xs) (filter_one p one true (same_sender one mmsi e) refl)

pub messages_of-other : (sent : List Sent) (one : Sent) (mmsi : ℕ) → mmsi ≢ sender_of one.message → messages_of (sent ++ one ∷ []) mmsi ≡ messages_of sent mmsi
messages_of-other sent one mmsi ne =
    let p : Sent → Bool = λ s. sender_of s.message == mmsi in
    filter-append p sent (one ∷ []) ∙ ap (λ (xs : List Sent). messages_of sent mmsi ++ xs) (filter_none p one (other_sender one mmsi ne))
    ∙ append-nil (messages_of sent mmsi)

with_report : (numbers : JudgingNumbers) (reports : List Reported) (o : Option Reported)
    → accepted_list numbers (reports ++ cons_option o []) ≡ points_with (accepted_list numbers reports) (accepted_in numbers (last_or None (accepted_list numbers reports)) o)
with_report numbers reports None = ap (accepted_list numbers) (append-nil reports)
with_report numbers reports (Some now) = accepted_after-push numbers reports now None

pub accepted_of-own : (numbers : JudgingNumbers) (sent : List Sent) (one : Sent) (mmsi : ℕ) → sender_of one.message ≡ mmsi
    → accepted_of numbers (sent ++ one ∷ []) mmsi ≡ points_with (accepted_of numbers sent mmsi) (accepted_in numbers (last_or None (accepted_of numbers sent mmsi)) (reported_in one))
unfolding accepted_of
accepted_of-own numbers sent one mmsi e =
    ap (λ (xs : List Sent). accepted_list numbers (filter_map reported_in xs)) (messages_of-own sent one mmsi e)
    ∙ ap (accepted_list numbers) (filter_map-append reported_in (messages_of sent mmsi) (one ∷ []))
    ∙ with_report numbers (filter_map reported_in (messages_of sent mmsi)) (reported_in one)

pub accepted_of-other : (numbers : JudgingNumbers) (sent : List Sent) (one : Sent) (mmsi : ℕ) → mmsi ≢ sender_of one.message
    → accepted_of numbers (sent ++ one ∷ []) mmsi ≡ accepted_of numbers sent mmsi
unfolding accepted_of
accepted_of-other numbers sent one mmsi ne = ap (λ (xs : List Sent). accepted_list numbers (filter_map reported_in xs)) (messages_of-other sent one mmsi ne)

pub static_reports_of-own : (sent : List Sent) (one : Sent) (mmsi : ℕ) → sender_of one.message ≡ mmsi
    → static_reports_of (sent ++ one ∷ []) mmsi ≡ static_reports_of sent mmsi ++ option_to_list (static_in one.message)
static_reports_of-own sent one mmsi e =
    ap (filter_map (λ s. static_in s.message)) (messages_of-own sent one mmsi e)
    ∙ filter_map-append (λ s. static_in s.message) (messages_of sent mmsi) (one ∷ [])
    ∙ ap (λ (xs : List StaticReport). static_reports_of sent mmsi ++ xs) (cons_option-nil (static_in one.message))

pub static_reports_of-other : (sent : List Sent) (one : Sent) (mmsi : ℕ) → mmsi ≢ sender_of one.message
    → static_reports_of (sent ++ one ∷ []) mmsi ≡ static_reports_of sent mmsi
static_reports_of-other sent one mmsi ne = ap (filter_map (λ s. static_in s.message)) (messages_of-other sent one mmsi ne)

-- the last value given, after one more report that may give one
last-more : {A : Type 0} (xs : List A) (o : Option A) → last_or None (xs ++ cons_option o []) ≡ option_or o (last_or None xs)
last-more xs None = ap (last_or None) (append-nil xs)
last-more xs (Some x) = last_or-push None xs x

last_part : {A : Type 0} (f : StaticReport → Option A) (reports : List StaticReport) (report : StaticReport)
    → last_or None (filter_map f (reports ++ report ∷ [])) ≡ option_or (f report) (last_or None (filter_map f reports))
last_part f reports report =
    ap (last_or None) (filter_map-append f reports (report ∷ [])) ∙ last-more (filter_map f reports) (f report)

told_more : (reports : List StaticReport) (o : Option StaticReport) → last_told (reports ++ option_to_list o) ≡ statics_with (last_told reports) o
told_more reports None = ap last_told (append-nil reports)
told_more reports (Some report) =
    let name = last_part (λ r. r.name) reports report in
    let ship = last_part (λ r. r.ship) reports report in
    λ i. record { name = name i; ship = ship i }

pub statics_of-own : (sent : List Sent) (one : Sent) (mmsi : ℕ) → sender_of one.message ≡ mmsi
    → statics_of (sent ++ one ∷ []) mmsi ≡ statics_with (statics_of sent mmsi) (static_in one.message)
unfolding statics_of
statics_of-own sent one mmsi e = ap last_told (static_reports_of-own sent one mmsi e) ∙ told_more (static_reports_of sent mmsi) (static_in one.message)

pub statics_of-other : (sent : List Sent) (one : Sent) (mmsi : ℕ) → mmsi ≢ sender_of one.message → statics_of (sent ++ one ∷ []) mmsi ≡ statics_of sent mmsi
unfolding statics_of
statics_of-other sent one mmsi ne = ap last_told (static_reports_of-other sent one mmsi ne)

-- ---- the vessel

pub vessel_of-own : (keeping : Keeping) (numbers : JudgingNumbers) (sent : List Sent) (one : Sent) (mmsi : ℕ) → sender_of one.message ≡ mmsi
    → vessel_of keeping numbers (sent ++ one ∷ []) mmsi ≡ vessel_after keeping numbers (vessel_of keeping numbers sent mmsi) one
unfolding vessel_after
vessel_of-own keeping numbers sent one mmsi e =
    let before = accepted_of numbers sent mmsi in
    let came : Option Accepted → Option Accepted = λ latest. accepted_in numbers latest (reported_in one) in
    let points : kept_points keeping (accepted_of numbers (sent ++ one ∷ []) mmsi)
    ≡ kept_with keeping (kept_points keeping before) (came (last_or None (kept_points keeping before))) =
    ap (kept_points keeping) (accepted_of-own numbers sent one mmsi e) ∙ kept_points-more keeping before (came (last_or None before))
    ∙ ap (λ (latest : Option Accepted). kept_with keeping (kept_points keeping before) (came latest)) (sym (kept_points-last keeping before (accepted_in_order numbers sent mmsi))) in
    let old = vessel_of keeping numbers sent mmsi in
    let latest : last_or None old.points ≡ last_or None before = kept_points-last keeping before (accepted_in_order numbers sent mmsi) in
    let counts : kept_counts keeping numbers.gap (accepted_of numbers (sent ++ one ∷ []) mmsi) ≡ counts_with keeping numbers.gap old (came (last_or None old.points)) =
    ap (kept_counts keeping numbers.gap) (accepted_of-own numbers sent one mmsi e)
    ∙ kept_counts-more keeping numbers.gap old before (came (last_or None before)) refl latest
    ∙ ap (λ (o : Option Accepted). counts_with keeping numbers.gap old (came o)) (sym latest) in
    let statics = statics_of-own sent one mmsi e in
    λ i. record { points = points i; legs = legs_between numbers.gap (points i); counts = counts i; statics = statics i }

pub vessel_of-other : (keeping : Keeping) (numbers : JudgingNumbers) (sent : List Sent) (one : Sent) (mmsi : ℕ) → mmsi ≢ sender_of one.message
    → vessel_of keeping numbers (sent ++ one ∷ []) mmsi ≡ vessel_of keeping numbers sent mmsi
vessel_of-other keeping numbers sent one mmsi ne =
    let points = accepted_of-other numbers sent one mmsi ne in
    let statics = statics_of-other sent one mmsi ne in
    λ i. record {
      points = kept_points keeping (points i);
      legs = kept_legs keeping numbers.gap (points i);
      counts = kept_counts keeping numbers.gap (points i);
      statics = statics i;
    }
