-- The reports since a time, and the legs between them.
use Rattle.std.proofs.Common.{◌≡◌, ℕ, ◌+◌, ◌<◌, ◌≤◌, ◌∙◌, inl, inr, Bool, true, false, cond, nat_le, nat_lt, List, [], ◌∷◌, ◌++◌, Some, None, refl, ap, sym, subst, arith}
use Rattle.std.specs.Prelude.{Option, IfSome, if◌then◌else◌}
use Rattle.std.specs.List.{All, cons_option, filter, last_or}
use Rattle.std.specs.Option.{option_map, option_to_list}
use Rattle.std.proofs.lemmas.Bool.{cases_Bool}
use Rattle.std.proofs.lemmas.Bool.Decides.{nat_tests}
use Rattle.std.proofs.lemmas.List.{append-nil, append_assoc}
use Rattle.std.proofs.lemmas.List.Elements.{All-head, All-tail, All-weaker, filter-append, filter_passes}
use Rattle.motion.specs.TickStates.{holds, state_at, state_on}
use Rattle.motion.specs.declared.leg.Leg.{Leg}
use Rattle.motion.proofs.LastPassing.{filter_none}
use Rattle.tracks.specs.JoinedReports.{joined, leg_between, legs_between, legs_from}
use Rattle.tracks.specs.Standing.{points_since}
use Rattle.tracks.specs.Inner.Keeping.{AreInOrder}
use Rattle.tracks.specs.declared.accepted.Accepted.{Accepted}
use Rattle.tracks.proofs.Lasts.{All-last, last_or-push}
use Rattle.tracks.proofs.Rising.{order_less}

earlier : {t s : ℕ} → nat_lt t s ≡ true → t < s
earlier e = grind (arith, nat_tests)

-- ---- in whatever order the reports stand

abbrev is_before : ℕ → Accepted → Bool
is_before t report = nat_lt report.time t

abbrev is_from : ℕ → Accepted → Bool
is_from t report = nat_le t report.time

not_from : (t : ℕ) (x : Accepted) → is_before t x ≡ true → is_from t x ≡ false
not_from t x e = grind (arith, nat_tests)

not_before : (t : ℕ) (x : Accepted) → is_from t x ≡ true → is_before t x ≡ false
not_before t x e = grind (arith, nat_tests)

from_time : (t : ℕ) (x : Accepted) → is_before t x ≡ false → is_from t x ≡ true
from_time t x e = grind (arith, nat_tests)

all_pass : (p : Accepted → Bool) (xs : List Accepted) → All (λ x. p x ≡ true) xs → filter p xs ≡ xs
all_pass p [] all = refl
all_pass p (x ∷ xs) all =
    let first : p x ≡ true = All-head (λ y. p y ≡ true) x xs all in
    rw first (ap (λ (ys : List Accepted). x ∷ ys) (all_pass p xs (All-tail (λ y. p y ≡ true) x xs all)))

none_before : (t : ℕ) (xs : List Accepted) → All (λ x. is_from t x ≡ true) xs → filter (is_before t) xs ≡ []
none_before t xs all =
    filter_none (is_before t) xs (All-weaker (λ (x : Accepted). is_from t x ≡ true) (λ (x : Accepted). is_before t x ≡ false) (not_before t) xs all)

-- the last one before the time, if there is one
abbrev last_before : ℕ → List Accepted → Option Accepted
last_before t xs = last_or None (filter (is_before t) xs)

is_earlier : (t : ℕ) (xs : List Accepted) → IfSome (last_before t xs) (λ x. is_before t x ≡ true)
is_earlier t xs = All-last (λ x. is_before t x ≡ true) None (filter (is_before t) xs) tt (filter_passes (is_before t) xs)

before_one : (t : ℕ) (o : Option Accepted) → IfSome o (λ x. is_before t x ≡ true) → filter (is_before t) (option_to_list o) ≡ option_to_list o
before_one t None e = refl
before_one t (Some x) e = rw e refl

from_one : (t : ℕ) (o : Option Accepted) → IfSome o (λ x. is_before t x ≡ true) → filter (is_from t) (option_to_list o) ≡ []
from_one t None e = refl
from_one t (Some x) e = let not : is_from t x ≡ false = not_from t x e in rw not refl

last_one : (o : Option Accepted) → last_or None (option_to_list o) ≡ o
last_one None = refl
last_one (Some x) = refl

-- Those from the time on are kept ..
since-from : (t : ℕ) (xs : List Accepted) → filter (is_from t) (points_since t xs) ≡ filter (is_from t) xs
since-from t xs =
    filter-append (is_from t) (option_to_list (last_before t xs)) (filter (is_from t) xs)
    ∙ ap (λ (ys : List Accepted). ys ++ filter (is_from t) (filter (is_from t) xs)) (from_one t (last_before t xs) (is_earlier t xs))
    ∙ all_pass (is_from t) (filter (is_from t) xs) (filter_passes (is_from t) xs)

-- .. and of the others the last.
since-before : (t : ℕ) (xs : List Accepted) → filter (is_before t) (points_since t xs) ≡ option_to_list (last_before t xs)
since-before t xs =
    filter-append (is_before t) (option_to_list (last_before t xs)) (filter (is_from t) xs)
    ∙ ap (λ (ys : List Accepted). filter (is_before t) (option_to_list (last_before t xs)) ++ ys)
    (none_before t (filter (is_from t) xs) (filter_passes (is_from t) xs))
    ∙ append-nil (filter (is_before t) (option_to_list (last_before t xs))) ∙ before_one t (last_before t xs) (is_earlier t xs)

-- What is kept since a time is kept since that time.
pub since-same : (t : ℕ) (xs : List Accepted) → points_since t (points_since t xs) ≡ points_since t xs
since-same t xs =
    let last = ap (last_or None) (since-before t xs) ∙ last_one (last_before t xs) in
    let others = since-from t xs in
    λ i. option_to_list (last i) ++ others i

-- one more that is not earlier
pub since-push : (t : ℕ) (xs : List Accepted) (now : Accepted) → nat_lt now.time t ≡ false → points_since t (xs ++ now ∷ []) ≡ points_since t xs ++ now ∷ []
since-push t xs now late =
    let come : is_from t now ≡ true = from_time t now late in
    let none : filter (is_before t) (now ∷ []) ≡ [] = rw late refl in
    let one : filter (is_from t) (now ∷ []) ≡ now ∷ [] = rw come refl in
    let before : filter (is_before t) (xs ++ now ∷ []) ≡ filter (is_before t) xs =
    filter-append (is_before t) xs (now ∷ []) ∙ ap (λ (ys : List Accepted). filter (is_before t) xs ++ ys) none ∙ append-nil (filter (is_before t) xs) in
    let others : filter (is_from t) (xs ++ now ∷ []) ≡ filter (is_from t) xs ++ now ∷ [] =
    filter-append (is_from t) xs (now ∷ []) ∙ ap (λ (ys : List Accepted). filter (is_from t) xs ++ ys) one in
    (λ i. option_to_list (last_or None (before i)) ++ others i) ∙ sym (append_assoc (option_to_list (last_before t xs)) (filter (is_from t) xs) (now ∷ []))

-- one more that is
since-early : (t : ℕ) (xs : List Accepted) (now : Accepted) → nat_lt now.time t ≡ true → points_since t (xs ++ now ∷ []) ≡ now ∷ filter (is_from t) xs
since-early t xs now early =
    let not : is_from t now ≡ false = not_from t now early in
    let one : filter (is_before t) (now ∷ []) ≡ now ∷ [] = rw early refl in
    let none : filter (is_from t) (now ∷ []) ≡ [] = rw not refl in
    let last : last_before t (xs ++ now ∷ []) ≡ Some now =
    ap (last_or None) (filter-append (is_before t) xs (now ∷ []) ∙ ap (λ (ys : List Accepted). filter (is_before t) xs ++ ys) one)
    ∙ last_or-push None (filter (is_before t) xs) now in
    let others : filter (is_from t) (xs ++ now ∷ []) ≡ filter (is_from t) xs =
    filter-append (is_from t) xs (now ∷ []) ∙ ap (λ (ys : List Accepted). filter (is_from t) xs ++ ys) none ∙ append-nil (filter (is_from t) xs) in
    λ i. option_to_list (last i) ++ others i

-- one report more
pub since-more : (t : ℕ) (xs : List Accepted) (now : Accepted) → points_since t (points_since t xs ++ now ∷ []) ≡ points_since t (xs ++ now ∷ [])
since-more t xs now =
    elim (cases_Bool (nat_lt now.time t)) [
      | inl early ↦ since-early t (points_since t xs) now early ∙ ap (λ (ys : List Accepted). now ∷ ys) (since-from t xs) ∙ sym (since-early t xs now early)
      | inr late ↦ since-push t (points_since t xs) now late ∙ ap (λ (ys : List Accepted). ys ++ now ∷ []) (since-same t xs) ∙ sym (since-push t xs now late)
    ]

-- ---- in the order of their times

-- The first report is dropped as long as the next one is earlier than the time.
abbrev pub dropped_to : ℕ → List Accepted → List Accepted
dropped_to time [] = []
dropped_to time (first ∷ []) = first ∷ []
dropped_to time (first ∷ next ∷ others) = if nat_lt next.time time then dropped_to time (next ∷ others) else first ∷ next ∷ others

from_first : (t : ℕ) (x : Accepted) (xs : List Accepted) → AreInOrder (x ∷ xs) → is_before t x ≡ false → All (λ y. is_from t y ≡ true) (x ∷ xs)
from_first t x xs h not k d lt =
    let first : x.time ≤ _ = h 0 k d (omega arith) lt in
    grind (arith, nat_tests)

-- Of reports in the order of their times these are the reports since the time.
pub since_is : (t : ℕ) (xs : List Accepted) → AreInOrder xs → points_since t xs ≡ dropped_to t xs
since_is t [] h = refl
since_is t (x ∷ []) h =
    elim (cases_Bool (nat_lt x.time t)) [
      | inl early ↦ (let not : is_from t x ≡ false = not_from t x early in rw (early, not) refl)
      | inr late ↦ (let come : is_from t x ≡ true = from_time t x late in rw (late, come) refl)
    ]
since_is t (x ∷ y ∷ ys) h =
    elim (cases_Bool (nat_lt y.time t)) [
      | inl early ↦ (let le : x.time ≤ y.time = h 0 1 x (omega arith) (omega arith) in
          let first : is_before t x ≡ true = grind (arith, nat_tests) in
          let not : is_from t x ≡ false = not_from t x first in
          let next : is_from t y ≡ false = not_from t y early in
          let rest : points_since t (y ∷ ys) ≡ dropped_to t (y ∷ ys) = since_is t (y ∷ ys) (order_less x (y ∷ ys) h) in
          let fewer : points_since t (x ∷ y ∷ ys) ≡ points_since t (y ∷ ys) = rw (first, not, early, next) refl in
          let dropped : dropped_to t (x ∷ y ∷ ys) ≡ dropped_to t (y ∷ ys) = rw early refl in
          fewer ∙ rest ∙ sym dropped)
      | inr late ↦ (let all = from_first t y ys (order_less x (y ∷ ys) h) late in
          let come : filter (is_from t) (y ∷ ys) ≡ y ∷ ys = all_pass (is_from t) (y ∷ ys) all in
          let none : filter (is_before t) (y ∷ ys) ≡ [] = none_before t (y ∷ ys) all in
          let stopped : dropped_to t (x ∷ y ∷ ys) ≡ x ∷ y ∷ ys = rw late refl in
          with_first t x (y ∷ ys) come none ∙ sym stopped)
    ]
  where
    with_first : (t : ℕ) (x : Accepted) (ys : List Accepted) → filter (is_from t) ys ≡ ys → filter (is_before t) ys ≡ [] → points_since t (x ∷ ys) ≡ x ∷ ys
    with_first t x ys come none =
        elim (cases_Bool (nat_lt x.time t)) [
          | inl early ↦ (let not : is_from t x ≡ false = not_from t x early in rw (early, not, none, come) refl)
          | inr after ↦ (let also : is_from t x ≡ true = from_time t x after in rw (after, also, none, come) refl)
        ]

order_dropped : (t : ℕ) (xs : List Accepted) → AreInOrder xs → AreInOrder (dropped_to t xs)
order_dropped t [] h = h
order_dropped t (x ∷ []) h = h
order_dropped t (x ∷ y ∷ ys) h =
    elim (cases_Bool (nat_lt y.time t)) [
      | inl before ↦ rw before (order_dropped t (y ∷ ys) (order_less x (y ∷ ys) h))
      | inr not ↦ rw not h
    ]

-- They stand in that order.
pub order_since : (t : ℕ) (xs : List Accepted) → AreInOrder xs → AreInOrder (points_since t xs)
order_since t xs h = subst AreInOrder (sym (since_is t xs h)) (order_dropped t xs h)

last_dropped : (t : ℕ) (xs : List Accepted) → last_or None (dropped_to t xs) ≡ last_or None xs
last_dropped t [] = refl
last_dropped t (x ∷ []) = refl
last_dropped t (x ∷ y ∷ ys) =
    elim (cases_Bool (nat_lt y.time t)) [
      | inl before ↦ rw before (last_dropped t (y ∷ ys))
      | inr not ↦ rw not refl
    ]

-- The latest report is among them.
pub since-last : (t : ℕ) (xs : List Accepted) → AreInOrder xs → last_or None (points_since t xs) ≡ last_or None xs
since-last t xs h = ap (last_or None) (since_is t xs h) ∙ last_dropped t xs

dropped_later : (s t : ℕ) (xs : List Accepted) → s ≤ t → dropped_to t (dropped_to s xs) ≡ dropped_to t xs
dropped_later s t [] le = refl
dropped_later s t (x ∷ []) le = refl
dropped_later s t (x ∷ y ∷ ys) le =
    elim (cases_Bool (nat_lt y.time s)) [
      | inl before ↦ (let also : nat_lt y.time t ≡ true = grind (arith, nat_tests) in rw (before, also) (dropped_later s t (y ∷ ys) le))
      | inr not ↦ (let same : dropped_to s (x ∷ y ∷ ys) ≡ x ∷ y ∷ ys = rw not refl in ap (dropped_to t) same)
    ]

-- Those from a time on that are kept from an earlier one on are those from the later time on.
pub since-later : (s t : ℕ) (xs : List Accepted) → AreInOrder xs → s ≤ t → points_since t (points_since s xs) ≡ points_since t xs
since-later s t xs h le =
    since_is t (points_since s xs) (order_since s xs h) ∙ ap (dropped_to t) (since_is s xs h) ∙ dropped_later s t xs le ∙ sym (since_is t xs h)

-- ---- what is seen from that time on

over : (t : ℕ) (leg : Leg) → leg.t2 < t → holds t leg ≡ false
over t leg lt = grind (arith, nat_tests)

one_over : (gap t : ℕ) (from to : Accepted) (legs : List Leg) → to.time < t → state_at t (cons_option (joined gap from to) legs) ≡ state_at t legs
unfolding state_at
one_over gap t from to legs lt =
    let past : holds t (leg_between from to) ≡ false = over t (leg_between from to) lt in
    elim (nat_le to.time (from.time + gap)) as
    (λ b. option_map (state_on t) (last_or None (filter (holds t) (cons_option (cond b (Some (leg_between from to)) None) legs)))
    ≡ option_map (state_on t) (last_or None (filter (holds t) legs))) [
      | true ↦ rw past refl
      | false ↦ refl
    ]

seen_dropped : (gap s t : ℕ) (xs : List Accepted) → s ≤ t → state_at t (legs_between gap (dropped_to s xs)) ≡ state_at t (legs_between gap xs)
unfolding legs_from
seen_dropped gap s t [] le = refl
seen_dropped gap s t (x ∷ []) le = refl
seen_dropped gap s t (x ∷ y ∷ ys) le =
    elim (cases_Bool (nat_lt y.time s)) [
      | inl before ↦ (let lt : y.time < s = earlier before in
          rw before (seen_dropped gap s t (y ∷ ys) le ∙ sym (one_over gap t x y (legs_from gap y ys) (omega arith))))
      | inr not ↦ rw not refl
    ]

-- Where a vessel is seen from the time on is the same.
pub seen_since : (gap s t : ℕ) (xs : List Accepted) → AreInOrder xs → s ≤ t → state_at t (legs_between gap (points_since s xs)) ≡ state_at t (legs_between gap xs)
seen_since gap s t xs h le = ap (λ (ys : List Accepted). state_at t (legs_between gap ys)) (since_is s xs h) ∙ seen_dropped gap s t xs le

-- ---- the reports that have come by a later time

last_passing : (p : Accepted → Bool) (x y : Accepted) (ys : List Accepted) → p y ≡ true → last_or None (filter p (y ∷ ys)) ≡ last_or None (filter p (x ∷ y ∷ ys))
last_passing p x y ys passes =
    elim (cases_Bool (p x)) [
      | inl also ↦ rw (also, passes) refl
      | inr not ↦ rw (not, passes) refl
    ]

last_come : (s t : ℕ) (xs : List Accepted) → s ≤ t
    → last_or None (filter (λ (x : Accepted). nat_le x.time t) (dropped_to s xs)) ≡ last_or None (filter (λ (x : Accepted). nat_le x.time t) xs)
last_come s t [] le = refl
last_come s t (x ∷ []) le = refl
last_come s t (x ∷ y ∷ ys) le =
    elim (cases_Bool (nat_lt y.time s)) [
      | inl before ↦ (let come : nat_le y.time t ≡ true = grind (arith, nat_tests) in
          rw before (last_come s t (y ∷ ys) le ∙ last_passing (λ (z : Accepted). nat_le z.time t) x y ys come))
      | inr not ↦ rw not refl
    ]

-- The last of them is the same.
pub reported_since : (s t : ℕ) (xs : List Accepted) → AreInOrder xs → s ≤ t
    → last_or None (filter (λ (x : Accepted). nat_le x.time t) (points_since s xs)) ≡ last_or None (filter (λ (x : Accepted). nat_le x.time t) xs)
reported_since s t xs h le = ap (λ (ys : List Accepted). last_or None (filter (λ (x : Accepted). nat_le x.time t) ys)) (since_is s xs h) ∙ last_come s t xs le
