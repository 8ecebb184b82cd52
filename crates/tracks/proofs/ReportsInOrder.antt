-- Accepted reports stand in the order of their times, and a vessel that is seen has reported by then.
use Rattle.std.proofs.Common.{◌≡◌, ℕ, ◌+◌, ◌<◌, ◌⊎◌, inl, inr, Bool, true, false, cond, nat_le, List, [], ◌∷◌, ◌++◌, get_or, Some, None, refl, ap, sym, arith, ◌∙◌}
use Rattle.std.specs.Prelude.{IsSome, Option}
use Rattle.std.specs.List.{All, cons_option, filter, last_or}
use Rattle.std.specs.List.Sorted.{IsNonDecreasingBy}
use Rattle.std.proofs.lemmas.Bool.{cases_Bool}
use Rattle.std.proofs.lemmas.Bool.Decides.{nat_tests}
use Rattle.std.proofs.lemmas.List.{append-nil}
use Rattle.std.proofs.lemmas.List.Elements.{filter-append, All-cons, All-head, All-nil, All-tail}
use Rattle.motion.specs.TickStates.{holds, state_at}
use Rattle.motion.specs.declared.leg.Leg.{Leg}
use Rattle.motion.specs.declared.leg.TickState.{TickState}
use Rattle.motion.proofs.LastPassing.{filter_none}
use Rattle.tracks.specs.AcceptedReports.{JudgingNumbers}
use Rattle.tracks.specs.Standing.{Remembers, kept_points}
use Rattle.tracks.specs.declared.keeping.Keeping.{Keeping}
use Rattle.tracks.specs.declared.keeping.Keeping.TheVariants.{Latest, Since, Tracks}
use Rattle.tracks.proofs.Forgetting.{order_since, reported_since}
use Rattle.tracks.specs.JoinedReports.{joined, leg_between, legs_between, legs_from}
use Rattle.tracks.specs.VesselsHeld.{Sent, accepted_of, legs_of, report_in, reported_in, sender_of}
use Rattle.tracks.specs.declared.accepted.Accepted.{Accepted}
use Rattle.tracks.specs.Inner.Keeping.{accepted_in, points_with}
use Rattle.tracks.proofs.Holding.{same_or_other}
use Rattle.tracks.proofs.Messages.{accepted_of-other, accepted_of-own}
use Rattle.tracks.proofs.Settled.{reported_time}
use Rattle.tracks.proofs.Rising.{accepted_in_order}

-- ---- when legs begin

one_begins : (gap t : ℕ) (from to : Accepted) (legs : List Leg) → t < from.time → All (λ leg. t < leg.t1) legs → All (λ leg. t < leg.t1) (cons_option (joined gap from to) legs)
one_begins gap t from to legs lt all =
    elim (nat_le to.time (from.time + gap)) as (λ b. All (λ leg. t < leg.t1) (cons_option (cond b (Some (leg_between from to)) None) legs)) [
      | true ↦ All-cons (λ leg. t < leg.t1) (leg_between from to) legs lt all
      | false ↦ all
    ]

-- No leg begins before the first report.
legs_begin : (gap t : ℕ) (from : Accepted) (xs : List Accepted) → t < from.time → All (λ (x : Accepted). t < x.time) xs → All (λ leg. t < leg.t1) (legs_from gap from xs)
unfolding legs_from
legs_begin gap t from [] lt all = All-nil (λ leg. t < leg.t1)
legs_begin gap t from (x ∷ xs) lt all =
    one_begins gap t from x (legs_from gap x xs) lt
    (legs_begin gap t x xs (All-head (λ (x : Accepted). t < x.time) x xs all) (All-tail (λ (x : Accepted). t < x.time) x xs all))

all_begin : (gap t : ℕ) (xs : List Accepted) → All (λ (x : Accepted). t < x.time) xs → All (λ leg. t < leg.t1) (legs_between gap xs)
all_begin gap t [] all = All-nil (λ leg. t < leg.t1)
all_begin gap t (x ∷ xs) all = legs_begin gap t x xs (All-head (λ (x : Accepted). t < x.time) x xs all) (All-tail (λ (x : Accepted). t < x.time) x xs all)

unbegun : (t : ℕ) (leg : Leg) → t < leg.t1 → holds t leg ≡ false
unbegun t leg lt = grind (arith, nat_tests)

none_seen : (t : ℕ) (legs : List Leg) → All (λ leg. t < leg.t1) legs → state_at t legs ≡ None
unfolding state_at
none_seen t legs all = rw (filter_none (holds t) legs (λ k d within. unbegun t (get_or legs k d) (all k d within))) refl

-- ---- the reports by a time

some_last : (x : Accepted) (xs : List Accepted) → IsSome (last_or (Some x) xs)
some_last x [] = refl
some_last x (y ∷ ys) = some_last y ys

-- Some report has come by the time, or all are later.
some_or_later : (t : ℕ) (xs : List Accepted) → IsSome (last_or None (filter (λ (x : Accepted). nat_le x.time t) xs)) ⊎ All (λ (x : Accepted). t < x.time) xs
some_or_later t [] = inr (All-nil (λ (x : Accepted). t < x.time))
some_or_later t (x ∷ xs) =
    elim (cases_Bool (nat_le x.time t)) [
      | inl come ↦ inl (rw come (some_last x (filter (λ (y : Accepted). nat_le y.time t) xs)))
      | inr not ↦ (let later : t < x.time = grind (arith, nat_tests) in
          elim (some_or_later t xs) [
            | inl some ↦ inl (rw not some)
            | inr all ↦ inr (All-cons (λ (y : Accepted). t < y.time) x xs later all)
          ])
    ]

reported_by : (gap t : ℕ) (xs : List Accepted) (state : TickState) → state_at t (legs_between gap xs) ≡ Some state
    → IsSome (last_or None (filter (λ (x : Accepted). nat_le x.time t) xs))
reported_by gap t xs state seen =
    elim (some_or_later t xs) [
      | inl some ↦ some
      | inr all ↦ (let none : state_at t (legs_between gap xs) ≡ None = none_seen t (legs_between gap xs) (all_begin gap t xs all) in cc)
    ]

pub seen_has_reported : (numbers : JudgingNumbers) (sent : List Sent) (mmsi t : ℕ) (state : TickState) → state_at t (legs_of numbers sent mmsi) ≡ Some state
    → IsSome (last_or None (filter (λ (report : Accepted). nat_le report.time t) (accepted_of numbers sent mmsi)))
unfolding legs_of
seen_has_reported numbers sent mmsi t state seen = reported_by numbers.gap t (accepted_of numbers sent mmsi) state seen

-- ---- a later message

past_points : (t : ℕ) (xs : List Accepted) (o : Option Accepted) → ((accepted : Accepted) → o ≡ Some accepted → t < accepted.time)
    → filter (λ (x : Accepted). nat_le x.time t) (points_with xs o) ≡ filter (λ (x : Accepted). nat_le x.time t) xs
past_points t xs None later = refl
past_points t xs (Some accepted) later =
    let p : Accepted → Bool = λ x. nat_le x.time t in
    let after : t < accepted.time = later accepted refl in
    let not : p accepted ≡ false = grind (arith, nat_tests) in
    let none : filter p (accepted ∷ []) ≡ [] = rw not refl in
    filter-append p xs (accepted ∷ []) ∙ ap (λ (ys : List Accepted). filter p xs ++ ys) none ∙ append-nil (filter p xs)

-- The reports that have come by a time stay, whatever message comes later.
pub past_reports_stay : (numbers : JudgingNumbers) (sent : List Sent) (one : Sent) (mmsi t : ℕ) → t < one.time
    → filter (λ (report : Accepted). nat_le report.time t) (accepted_of numbers (sent ++ one ∷ []) mmsi)
    ≡ filter (λ (report : Accepted). nat_le report.time t) (accepted_of numbers sent mmsi)
past_reports_stay numbers sent one mmsi t lt =
    elim (same_or_other mmsi (sender_of one.message)) [
      | inl same ↦ ap (filter (λ (report : Accepted). nat_le report.time t)) (accepted_of-own numbers sent one mmsi (sym same))
          ∙ past_points t (accepted_of numbers sent mmsi) (accepted_in numbers (last_or None (accepted_of numbers sent mmsi)) (reported_in one)) later
      | inr other ↦ ap (filter (λ (report : Accepted). nat_le report.time t)) (accepted_of-other numbers sent one mmsi other)
    ]
  where
    later : (accepted : Accepted) → accepted_in numbers (last_or None (accepted_of numbers sent mmsi)) (reported_in one) ≡ Some accepted → t < accepted.time
    later accepted is =
        let time = reported_time numbers (last_or None (accepted_of numbers sent mmsi)) (report_in one.message) one.time accepted is in
        omega arith

-- ---- the reports that are kept

-- Where the time is remembered, the reports that are kept are in their order ..
pub remembered_in_order : (keeping : Keeping) (numbers : JudgingNumbers) (sent : List Sent) (mmsi t : ℕ) → Remembers keeping t
    → IsNonDecreasingBy (λ (report : Accepted). report.time) (kept_points keeping (accepted_of numbers sent mmsi))
remembered_in_order Latest numbers sent mmsi t remembers = absurd remembers
remembered_in_order Tracks numbers sent mmsi t remembers = accepted_in_order numbers sent mmsi
remembered_in_order (Since time) numbers sent mmsi t remembers = order_since time (accepted_of numbers sent mmsi) (accepted_in_order numbers sent mmsi)

-- .. and the last of them that has come by then is the last of all.
pub remembered_report : (keeping : Keeping) (numbers : JudgingNumbers) (sent : List Sent) (mmsi t : ℕ) → Remembers keeping t
    → last_or None (filter (λ (report : Accepted). nat_le report.time t) (kept_points keeping (accepted_of numbers sent mmsi)))
    ≡ last_or None (filter (λ (report : Accepted). nat_le report.time t) (accepted_of numbers sent mmsi))
remembered_report Latest numbers sent mmsi t remembers = absurd remembers
remembered_report Tracks numbers sent mmsi t remembers = refl
remembered_report (Since time) numbers sent mmsi t remembers = reported_since time t (accepted_of numbers sent mmsi) (accepted_in_order numbers sent mmsi) remembers
