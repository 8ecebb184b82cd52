-- Which vessels are held, after one more message.
use Rattle.std.proofs.Common.{◌≡◌, ◌≢◌, ◌∙◌, ℕ, ◌≤◌, ◌⊎◌, inl, inr, Bool, true, false, ◌==◌, ◌||◌, nat_lt, List, [], ◌∷◌, ◌++◌, length, length-append, Some, None, refl, ap, sym, subst, arith}
use Rattle.std.specs.Prelude.{Option, is_some, fold}
use Rattle.std.specs.List.{filter, last_or}
use Rattle.std.specs.Option.{option_to_list}
use Rattle.std.proofs.lemmas.Bool.{cases_Bool}
use Rattle.std.proofs.lemmas.Bool.Decides.{nat_tests}
use Rattle.ais_messages.specs.declared.message.StaticReport.{StaticReport}
use Rattle.tracks.specs.AcceptedReports.{JudgingNumbers, accepted_after}
use Rattle.tracks.specs.Standing.{vessel_of}
use Rattle.tracks.specs.VesselsHeld.{Sent, accepted_of, held_of, is_held, messages_of, reported_in, sender_of, senders_of, static_in, static_reports_of, statics_of, with_number}
use Rattle.tracks.specs.Inner.AscendingNumbers.{Ascends}
use Rattle.tracks.specs.Inner.Keeping.{accepted_in, makes_held, points_with, untold}
use Rattle.tracks.specs.declared.accepted.Accepted.{Accepted}
use Rattle.tracks.specs.declared.keeping.Keeping.{Keeping}
use Rattle.tracks.proofs.Ascending.{IsAmong, among-with_number, among_passes, filter-ascends, filter_none_more, filter_one_more, itself_among, passes_among, with_number-ascends}
use Rattle.tracks.proofs.KeptReports.{kept_counts-none, kept_points-none}
use Rattle.tracks.proofs.Messages.{accepted_of-other, accepted_of-own, static_reports_of-other, static_reports_of-own}

-- ---- a vessel

abbrev some_of : {A B : Type 0} → List A → List B → Bool
some_of xs ys = nat_lt 0 (length xs) || nat_lt 0 (length ys)

pub is_held-other : (numbers : JudgingNumbers) (sent : List Sent) (one : Sent) (mmsi : ℕ) → mmsi ≢ sender_of one.message
    → is_held numbers (sent ++ one ∷ []) mmsi ≡ is_held numbers sent mmsi
unfolding is_held
is_held-other numbers sent one mmsi ne = rw (accepted_of-other numbers sent one mmsi ne, static_reports_of-other sent one mmsi ne) refl

length-points : (xs : List Accepted) (o : Option Accepted) → length xs ≤ length (points_with xs o)
length-points xs None = omega arith
length-points xs (Some x) = omega (arith, length-append xs (x ∷ []))

still_some : {A B : Type 0} (xs us : List A) (ys vs : List B) → length xs ≤ length us → length ys ≤ length vs → some_of xs ys ≡ true → some_of us vs ≡ true
still_some xs us ys vs first second h = grind (arith, nat_tests)

-- once held, always held
pub is_held-stays : (numbers : JudgingNumbers) (sent : List Sent) (one : Sent) (mmsi : ℕ) → sender_of one.message ≡ mmsi → is_held numbers sent mmsi ≡ true
    → is_held numbers (sent ++ one ∷ []) mmsi ≡ true
unfolding is_held
is_held-stays numbers sent one mmsi e h =
    let points = accepted_of-own numbers sent one mmsi e in
    let statics = static_reports_of-own sent one mmsi e in
    rw (points, statics)
    (still_some (accepted_of numbers sent mmsi) (points_with (accepted_of numbers sent mmsi) (accepted_in numbers (last_or None (accepted_of numbers sent mmsi)) (reported_in one)))
    (static_reports_of sent mmsi) (static_reports_of sent mmsi ++ option_to_list (static_in one.message)) (length-points (accepted_of numbers sent mmsi) _)
    (omega (arith, length-append (static_reports_of sent mmsi) (option_to_list (static_in one.message)))) h)

-- ---- a vessel that is not held

none_left : {A B : Type 0} (xs : List A) (ys : List B) → some_of xs ys ≡ false → (xs ≡ []) × (ys ≡ [])
none_left [] [] h = (refl, refl)
none_left [] (y ∷ ys) h = absurd (grind (arith, nat_tests))
none_left (x ∷ xs) ys h = absurd (grind (arith, nat_tests))

pub no_points : (numbers : JudgingNumbers) (sent : List Sent) (mmsi : ℕ) → is_held numbers sent mmsi ≡ false → accepted_of numbers sent mmsi ≡ []
unfolding is_held
no_points numbers sent mmsi h = (none_left (accepted_of numbers sent mmsi) (static_reports_of sent mmsi) h).0

pub no_statics : (numbers : JudgingNumbers) (sent : List Sent) (mmsi : ℕ) → is_held numbers sent mmsi ≡ false → static_reports_of sent mmsi ≡ []
unfolding is_held
no_statics numbers sent mmsi h = (none_left (accepted_of numbers sent mmsi) (static_reports_of sent mmsi) h).1

pub vessel_untold : (keeping : Keeping) (numbers : JudgingNumbers) (sent : List Sent) (mmsi : ℕ) → is_held numbers sent mmsi ≡ false
    → vessel_of keeping numbers sent mmsi ≡ untold
unfolding statics_of
vessel_untold keeping numbers sent mmsi h =
    rw (no_points numbers sent mmsi h, no_statics numbers sent mmsi h, kept_points-none keeping, kept_counts-none keeping numbers.gap) refl

either : (o : Option Accepted) (p : Option StaticReport) → some_of (points_with [] o) ([] ++ option_to_list p) ≡ (is_some p || is_some o)
either None None = refl
either None (Some p) = refl
either (Some o) None = refl
either (Some o) (Some p) = refl

pub is_held-first : (numbers : JudgingNumbers) (sent : List Sent) (one : Sent) (mmsi : ℕ) → sender_of one.message ≡ mmsi → is_held numbers sent mmsi ≡ false
    → is_held numbers (sent ++ one ∷ []) mmsi ≡ makes_held numbers one
unfolding is_held
is_held-first numbers sent one mmsi e h =
    let points = accepted_of-own numbers sent one mmsi e in
    let statics = static_reports_of-own sent one mmsi e in
    rw (points, statics, no_points numbers sent mmsi h, no_statics numbers sent mmsi h)
    (either (accepted_in numbers None (reported_in one)) (static_in one.message))

-- ---- all vessels

abbrev with_sender : List ℕ → Sent → List ℕ
with_sender ms one = with_number (sender_of one.message) ms

fold-push : {A X : Type 0} (f : A → X → A) (a : A) (xs : List X) (x : X) → fold f a (xs ++ x ∷ []) ≡ f (fold f a xs) x
fold-push f a [] x = refl
fold-push f a (y ∷ ys) x = fold-push f (f a y) ys x

senders_of-push : (sent : List Sent) (one : Sent) → senders_of (sent ++ one ∷ []) ≡ with_number (sender_of one.message) (senders_of sent)
senders_of-push sent one = fold-push with_sender [] sent one

folded_ascends : (sent : List Sent) (ms : List ℕ) → Ascends ms → Ascends (fold with_sender ms sent)
folded_ascends [] ms h = h
folded_ascends (one ∷ sent) ms h = folded_ascends sent (with_sender ms one) (with_number-ascends (sender_of one.message) ms h)

senders_ascend : (sent : List Sent) → Ascends (senders_of sent)
senders_ascend sent = folded_ascends sent [] tt

pub held_of-ascends : (numbers : JudgingNumbers) (sent : List Sent) → Ascends (held_of numbers sent)
unfolding held_of
held_of-ascends numbers sent = filter-ascends (is_held numbers sent) (senders_of sent) (senders_ascend sent)

-- The sender is held with the message.
pub held_of-more : (numbers : JudgingNumbers) (sent : List Sent) (one : Sent) → is_held numbers (sent ++ one ∷ []) (sender_of one.message) ≡ true
    → held_of numbers (sent ++ one ∷ []) ≡ with_number (sender_of one.message) (held_of numbers sent)
unfolding held_of
held_of-more numbers sent one h =
    ap (filter (is_held numbers (sent ++ one ∷ []))) (senders_of-push sent one)
    ∙ filter_one_more (is_held numbers sent) (is_held numbers (sent ++ one ∷ [])) (sender_of one.message) (senders_of sent) (senders_ascend sent) h
    (λ k ne. is_held-other numbers sent one k ne)

pub same_or_other : (k m : ℕ) → (k ≡ m) ⊎ (k ≢ m)
same_or_other k m = grind arith

-- The sender is not held with the message.
pub held_of-same : (numbers : JudgingNumbers) (sent : List Sent) (one : Sent) → is_held numbers sent (sender_of one.message) ≡ false
    → is_held numbers (sent ++ one ∷ []) (sender_of one.message) ≡ false → held_of numbers (sent ++ one ∷ []) ≡ held_of numbers sent
unfolding held_of
held_of-same numbers sent one before after =
    ap (filter (is_held numbers (sent ++ one ∷ []))) (senders_of-push sent one)
    ∙ filter_none_more (is_held numbers sent) (is_held numbers (sent ++ one ∷ [])) (sender_of one.message) (senders_of sent) after agree
  where
    agree : (k : ℕ) → is_held numbers (sent ++ one ∷ []) k ≡ is_held numbers sent k
    agree k = elim (same_or_other k (sender_of one.message)) [
      | inl same ↦ subst (λ (m : ℕ). is_held numbers (sent ++ one ∷ []) m ≡ is_held numbers sent m) (sym same) (after ∙ sym before)
      | inr other ↦ is_held-other numbers sent one k other
    ]

-- ---- who is held is among the vessels held

folded_among : (n : ℕ) (sent : List Sent) (ms : List ℕ) → IsAmong n ms → IsAmong n (fold with_sender ms sent)
folded_among n [] ms h = h
folded_among n (one ∷ sent) ms h = folded_among n sent (with_sender ms one) (among-with_number n (sender_of one.message) ms h)

eq-from : (m n : ℕ) → (m == n) ≡ true → n ≡ m
eq-from m n h = grind (arith, nat_tests)

no_messages : (n : ℕ) (sent : List Sent) (ms : List ℕ) → ¬ IsAmong n (fold with_sender ms sent) → messages_of sent n ≡ []
no_messages n [] ms not = refl
no_messages n (one ∷ sent) ms not =
    elim (cases_Bool (sender_of one.message == n)) [
      | inl same ↦ absurd (not (folded_among n sent (with_sender ms one) (subst (λ (k : ℕ). IsAmong k (with_sender ms one)) (sym (eq-from (sender_of one.message) n same)) (itself_among (sender_of one.message) ms))))
      | inr other ↦ rw other (no_messages n sent (with_sender ms one) not)
    ]

-- a vessel without messages is not held
not_held : (numbers : JudgingNumbers) (sent : List Sent) (n : ℕ) → messages_of sent n ≡ [] → is_held numbers sent n ≡ false
unfolding is_held accepted_of accepted_after
not_held numbers sent n none = rw none refl

among_or_not : (n : ℕ) (ms : List ℕ) → IsAmong n ms ⊎ (¬ IsAmong n ms)
among_or_not n [] = inr (λ h. h)
among_or_not n (m ∷ ms) = elim (same_or_other n m) [
  | inl same ↦ inl (inl same)
  | inr other ↦ elim (among_or_not n ms) [
    | inl later ↦ inl (inr later)
    | inr never ↦ inr (λ h. elim h [ inl same ↦ other same | inr later ↦ never later ])
  ]
]

pub held_among : (numbers : JudgingNumbers) (sent : List Sent) (n : ℕ) → is_held numbers sent n ≡ true → IsAmong n (held_of numbers sent)
unfolding held_of
held_among numbers sent n h =
    elim (among_or_not n (senders_of sent)) [
      | inl in' ↦ passes_among (is_held numbers sent) n (senders_of sent) h in'
      | inr not ↦ absurd (let e = not_held numbers sent n (no_messages n sent [] not) in cc)
    ]

pub held_passes : (numbers : JudgingNumbers) (sent : List Sent) (n : ℕ) → IsAmong n (held_of numbers sent) → is_held numbers sent n ≡ true
unfolding held_of
held_passes numbers sent n h = among_passes (is_held numbers sent) n (senders_of sent) h
