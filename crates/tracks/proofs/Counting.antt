-- How many reports and legs the messages give a vessel.
use Rattle.std.proofs.Common.{ℕ, ◌+◌, ◌≤◌, ◌==◌, Bool, true, false, cond, List, [], ◌∷◌, length, Some, None, Ok, Err, arith}
use Rattle.std.specs.Prelude.{Option, Result}
use Rattle.std.specs.List.{cons_option, filter, filter_map}
use Rattle.tracks.specs.AcceptedReports.{JudgingNumbers, Reported, accepted_after, accepted_with, judged}
use Rattle.tracks.specs.JoinedReports.{joined, legs_between, legs_from}
use Rattle.tracks.specs.VesselsHeld.{Sent, accepted_of, messages_of, reported_in, sender_of}
use Rattle.tracks.specs.declared.accepted.Accepted.{Accepted}
use Rattle.tracks.specs.declared.entry.ReportCause.{ReportCause}

option_onto : {A : Type 0} (o : Option A) (xs : List A) (n : ℕ) → length xs ≤ n → length (cons_option o xs) ≤ n + 1
option_onto None xs n le = omega arith
option_onto (Some x) xs n le = omega arith

pub filter_map_fewer : {A B : Type 0} (f : A → Option B) (xs : List A) → length (filter_map f xs) ≤ length xs
filter_map_fewer f [] = omega arith
filter_map_fewer f (x ∷ xs) = let le = option_onto (f x) (filter_map f xs) (length xs) (filter_map_fewer f xs) in omega arith

filter_fewer : {A : Type 0} (p : A → Bool) (xs : List A) → length (filter p xs) ≤ length xs
filter_fewer p [] = omega arith
filter_fewer p (x ∷ xs) =
    elim (p x) as (λ b. length (cond b (x ∷ filter p xs) (filter p xs)) ≤ length (x ∷ xs)) [
      | true ↦ (let le = filter_fewer p xs in omega arith)
      | false ↦ (let le = filter_fewer p xs in omega arith)
    ]

with_fewer : (others : Option Accepted → List Accepted) (latest : Option Accepted) (came : Result Accepted ReportCause) (n : ℕ)
    → ((o : Option Accepted) → length (others o) ≤ n) → length (accepted_with others latest came) ≤ n + 1
with_fewer others latest (Ok now) n le = let rest = le (Some now) in omega arith
with_fewer others latest (Err cause) n le = let rest = le latest in omega arith

accepted_fewer : (numbers : JudgingNumbers) (reports : List Reported) (latest : Option Accepted) → length (accepted_after numbers reports latest) ≤ length reports
unfolding accepted_after
accepted_fewer numbers [] latest = omega arith
accepted_fewer numbers (now ∷ reports) latest =
    let le = with_fewer (accepted_after numbers reports) latest (judged numbers latest now) (length reports) (λ o. accepted_fewer numbers reports o) in
    omega arith

legs_fewer : (gap : ℕ) (from : Accepted) (xs : List Accepted) → length (legs_from gap from xs) ≤ length xs
unfolding legs_from
legs_fewer gap from [] = omega arith
legs_fewer gap from (x ∷ xs) =
    let le = option_onto (joined gap from x) (legs_from gap x xs) (length xs) (legs_fewer gap x xs) in
    omega arith

between_fewer : (gap : ℕ) (xs : List Accepted) → length (legs_between gap xs) ≤ length xs
between_fewer gap [] = omega arith
between_fewer gap (x ∷ xs) = let le = legs_fewer gap x xs in omega arith

-- At most one report a message.
pub few_reports : (numbers : JudgingNumbers) (sent : List Sent) (mmsi : ℕ) → length (accepted_of numbers sent mmsi) ≤ length sent
unfolding accepted_of
few_reports numbers sent mmsi =
    let accepted = accepted_fewer numbers (filter_map reported_in (messages_of sent mmsi)) None in
    let reports = filter_map_fewer reported_in (messages_of sent mmsi) in
    let messages = filter_fewer (λ (one : Sent). sender_of one.message == mmsi) sent in
    omega (arith, messages, reports, accepted)

pub few_legs : (numbers : JudgingNumbers) (sent : List Sent) (mmsi : ℕ) → length (legs_between numbers.gap (accepted_of numbers sent mmsi)) ≤ length sent
few_legs numbers sent mmsi =
    let legs = between_fewer numbers.gap (accepted_of numbers sent mmsi) in
    let reports = few_reports numbers sent mmsi in
    omega arith
