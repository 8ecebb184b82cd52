-- Which legs hold a time hangs on the reports alone that lie at most the gap from the times of a window that has it.
use Rattle.std.proofs.Common.{◌≡◌, ℕ, suc, ◌+◌, ◌<◌, ◌≤◌, Bool, true, false, ◌&&◌, nat_le, List, [], ◌∷◌, length, get_or, refl, sym, ap, ◌∙◌, arith}
use Rattle.std.specs.Prelude.{Option, Some, None}
use Rattle.std.specs.List.{AllByRecursion, cons_option, filter, last_or}
use Rattle.std.specs.List.Sorted.{IsNonDecreasingBy}
use Rattle.std.proofs.lemmas.Bool.Decides.{nat_tests}
use Rattle.motion.specs.TickStates.{holds}
use Rattle.motion.specs.declared.leg.Leg.{Leg}
use Rattle.tracks.specs.JoinedReports.{joined, leg_between, legs_between, legs_from}
use Rattle.tracks.specs.declared.accepted.Accepted.{Accepted}

pub by_test : {P : Type 0} (b : Bool) → (b ≡ true → P) → (b ≡ false → P) → P
by_test true passes fails = passes refl
by_test false passes fails = fails refl

-- ---- reports in the order of their times

abbrev AreFrom : ℕ → List Accepted → Type 0
AreFrom n xs = AllByRecursion (λ (x : Accepted). n ≤ x.time) xs

abbrev pub InTime : List Accepted → Type 0
InTime [] = Unit {0}
InTime (x ∷ xs) = AreFrom x.time xs × InTime xs

from_indices : (n : ℕ) (xs : List Accepted) → ((k : ℕ) (d : Accepted) → k < length xs → n ≤ (get_or xs k d).time) → AreFrom n xs
from_indices n [] h = tt
from_indices n (x ∷ xs) h = (h 0 x (omega arith), from_indices n xs (λ k d lt. h (suc k) d (omega arith)))

pub in_time : (xs : List Accepted) → IsNonDecreasingBy (λ (x : Accepted). x.time) xs → InTime xs
in_time [] h = tt
in_time (x ∷ xs) h = (
  from_indices x.time xs (λ k d lt. h 0 (suc k) d (omega arith) (omega arith)),
  in_time xs (λ i j d le within. h (suc i) (suc j) d (omega arith) (omega arith)),
)

-- ---- a window from lo to hi

module _ (gap lo hi : ℕ) where
  -- whether a report is at most the gap from the window
  abbrev pub is_near : Accepted → Bool
  is_near x = nat_le lo (x.time + gap) && nat_le x.time (hi + gap)

  abbrev AreBeyond : List Accepted → Type 0
  AreBeyond xs = AllByRecursion (λ (x : Accepted). hi + gap < x.time) xs

  near_if : (x : Accepted) → lo ≤ x.time + gap → x.time ≤ hi + gap → is_near x ≡ true
  near_if x from to =
      let first : nat_le lo (x.time + gap) ≡ true = grind (arith, nat_tests) in
      let second : nat_le x.time (hi + gap) ≡ true = grind (arith, nat_tests) in
      rw (first, second) refl

  near_from : (x : Accepted) → is_near x ≡ true → lo ≤ x.time + gap
  near_from x e = by_test (nat_le lo (x.time + gap))
      (λ passes. grind (arith, nat_tests))
      (λ fails. let wrong : false ≡ true = rw fails at e in absurd (cc))

  late_if : (x : Accepted) → lo ≤ x.time + gap → is_near x ≡ false → hi + gap < x.time
  late_if x from e = by_test (nat_le x.time (hi + gap))
      (λ passes. let le : x.time ≤ hi + gap = grind (arith, nat_tests) in let wrong : true ≡ false = sym (near_if x from le) ∙ e in absurd (cc))
      (λ fails. grind (arith, nat_tests))

  beyond_from : (n : ℕ) (xs : List Accepted) → hi + gap < n → AreFrom n xs → AreBeyond xs
  beyond_from n [] lt h = tt
  beyond_from n (x ∷ xs) lt h = let le = h.0 in (omega arith, beyond_from n xs lt h.1)

  none_near : (xs : List Accepted) → AreBeyond xs → filter is_near xs ≡ []
  none_near [] h = refl
  none_near (x ∷ xs) h =
      let late = h.0 in
      let second : nat_le x.time (hi + gap) ≡ false = grind (arith, nat_tests) in
      let not : is_near x ≡ false = and_false (nat_le lo (x.time + gap)) (nat_le x.time (hi + gap)) second in
      rw not (none_near xs h.1)
    where
      and_false : (a b : Bool) → b ≡ false → (a && b) ≡ false
      and_false true b e = e
      and_false false b e = refl

  module _ (t : ℕ) (in_lo : lo ≤ t) (in_hi : t ≤ hi) where
    -- the legs between reports that hold the time
    abbrev held : List Accepted → List Leg
    held xs = filter (holds t) (legs_between gap xs)

    one_unheld : (leg : Leg) (legs : List Leg) → holds t leg ≡ false → filter (holds t) (leg ∷ legs) ≡ filter (holds t) legs
    one_unheld leg legs e = rw e refl

    -- a leg that does not hold the time changes nothing
    unheld : (x y : Accepted) (legs : List Leg) → (y.time ≤ x.time + gap → holds t (leg_between x y) ≡ false)
        → filter (holds t) (cons_option (joined gap x y) legs) ≡ filter (holds t) legs
    unheld x y legs not =
        by_test (nat_le y.time (x.time + gap))
        (λ passes. let le : y.time ≤ x.time + gap = grind (arith, nat_tests) in rw passes (one_unheld (leg_between x y) legs (not le)))
        (λ fails. rw fails refl)

    not_held_from : (x y : Accepted) → t < x.time → holds t (leg_between x y) ≡ false
    not_held_from x y lt = grind (arith, nat_tests)

    not_held_to : (x y : Accepted) → y.time < t → holds t (leg_between x y) ≡ false
    not_held_to x y lt = grind (arith, nat_tests)

    none_held : (x : Accepted) (xs : List Accepted) → hi + gap < x.time → AreBeyond xs → filter (holds t) (legs_from gap x xs) ≡ []
    unfolding legs_from
    none_held x [] lt h = refl
    none_held x (y ∷ xs) lt h =
        unheld x y (legs_from gap y xs) (λ le. not_held_from x y (omega arith)) ∙ none_held y xs h.0 h.1

    one_more : (o : Option Leg) (legs others : List Leg) → filter (holds t) legs ≡ filter (holds t) others
        → filter (holds t) (cons_option o legs) ≡ filter (holds t) (cons_option o others)
    one_more None legs others e = e
    one_more (Some leg) legs others e =
        by_test (holds t leg)
        (λ passes. rw passes (ap (λ (rest : List Leg). leg ∷ rest) e))
        (λ fails. rw fails e)

    -- a leg from a report that is far from the window
    far_leg : (x y : Accepted) → is_near x ≡ false → y.time ≤ x.time + gap → holds t (leg_between x y) ≡ false
    far_leg x y far le =
        by_test (nat_le x.time t)
        (λ begun. by_test (nat_le t y.time)
        (λ open_still. let from : x.time ≤ t = grind (arith, nat_tests) in
        let to : t ≤ y.time = grind (arith, nat_tests) in
        let wrong : true ≡ false = sym (near_if x (omega arith) (omega arith)) ∙ far in absurd (cc))
        (λ ended. not_held_to x y (grind (arith, nat_tests))))
        (λ unbegun. not_held_from x y (grind (arith, nat_tests)))

    -- a leg to a report behind the window
    late_leg : (x y : Accepted) → hi + gap < y.time → y.time ≤ x.time + gap → holds t (leg_between x y) ≡ false
    late_leg x y late le = not_held_from x y (omega arith)

    pub held_alike : (xs : List Accepted) → InTime xs → held xs ≡ held (filter is_near xs)
    unfolding legs_from
    held_alike [] order = refl
    held_alike (x ∷ []) order =
        by_test (is_near x) (λ near. rw near refl) (λ far. rw far refl)
    held_alike (x ∷ y ∷ ys) order =
        by_test (is_near x)
        (λ near. by_test (is_near y)
        (λ next. let e : filter is_near (x ∷ y ∷ ys) ≡ x ∷ y ∷ filter is_near ys = rw (near, next) refl in
        let f : filter is_near (y ∷ ys) ≡ y ∷ filter is_near ys = rw next refl in
        one_more (joined gap x y) (legs_from gap y ys) (legs_from gap y (filter is_near ys)) (held_alike (y ∷ ys) order.1 ∙ ap held f)
        ∙ sym (ap held e))
        (λ far. let from = near_from x near in
        let after = order.0.0 in
        let late : hi + gap < y.time = late_if y (omega arith) far in
        let rest : AreBeyond ys = beyond_from y.time ys late order.1.0 in
        let none : filter is_near ys ≡ [] = none_near ys rest in
        let e : filter is_near (x ∷ y ∷ ys) ≡ x ∷ [] = rw (near, far) (ap (λ (zs : List Accepted). x ∷ zs) none) in
        unheld x y (legs_from gap y ys) (λ le. late_leg x y late le)
        ∙ (none_held y ys late rest ∙ sym (ap held e))))
        (λ far. let e : filter is_near (x ∷ y ∷ ys) ≡ filter is_near (y ∷ ys) = rw far refl in
        unheld x y (legs_from gap y ys) (λ le. far_leg x y far le) ∙ (held_alike (y ∷ ys) order.1 ∙ sym (ap held e)))

    -- ---- the last report by the time

    abbrev by_then : Accepted → Bool
    by_then x = nat_le x.time t

    -- Of reports at the time or later those by the time are near the window.
    near_by_then : (xs : List Accepted) → AreFrom t xs → filter by_then xs ≡ filter by_then (filter is_near xs)
    near_by_then [] from = refl
    near_by_then (x ∷ xs) from =
        let after = from.0 in
        let rest = near_by_then xs from.1 in
        by_test (nat_le x.time t)
        (λ come. let by : x.time ≤ t = grind (arith, nat_tests) in
        let near : is_near x ≡ true = near_if x (omega arith) (omega arith) in
        let e : filter by_then (x ∷ xs) ≡ x ∷ filter by_then xs = rw come refl in
        let f : filter by_then (filter is_near (x ∷ xs)) ≡ x ∷ filter by_then (filter is_near xs) = rw (near, come) refl in
        e ∙ (ap (λ (ys : List Accepted). x ∷ ys) rest ∙ sym f))
        (λ not_come. let e : filter by_then (x ∷ xs) ≡ filter by_then xs = rw not_come refl in
        e ∙ (rest ∙ sym (by_test (is_near x)
        (λ near. rw (near, not_come) refl)
        (λ far. rw far refl))))

    at_or_after : (n : ℕ) (xs : List Accepted) → t ≤ n → AreFrom n xs → AreFrom t xs
    at_or_after n [] le from = tt
    at_or_after n (x ∷ xs) le from = let after = from.0 in (omega arith, at_or_after n xs le from.1)

    -- Where a leg holds the time, the last report by then is near the window.
    pub last_alike : (xs : List Accepted) → InTime xs → (leg : Leg) (legs : List Leg) → held xs ≡ leg ∷ legs → (o p : Option Accepted)
        → last_or o (filter by_then xs) ≡ last_or p (filter by_then (filter is_near xs))
    unfolding legs_from
    last_alike [] order leg legs e o p = absurd (cc)
    last_alike (x ∷ []) order leg legs e o p = absurd (cc)
    last_alike (x ∷ y ∷ ys) order leg legs e o p = by_rest (held (y ∷ ys)) refl (λ leg legs f o p. last_alike (y ∷ ys) order.1 leg legs f o p)
      where
        -- the report before counts nothing, where a later one has come
        one_before : (f : (o p : Option Accepted) → last_or o (filter by_then (y ∷ ys)) ≡ last_or p (filter by_then (filter is_near (y ∷ ys))))
            → last_or o (filter by_then (x ∷ y ∷ ys)) ≡ last_or p (filter by_then (filter is_near (x ∷ y ∷ ys)))
        one_before f =
            by_test (nat_le x.time t)
            (λ come. by_test (is_near x)
            (λ near. rw (near, come) (f (Some x) (Some x)))
            (λ far. rw (far, come) (f (Some x) p)))
            (λ not_come. by_test (is_near x)
            (λ near. rw (near, not_come) (f o p))
            (λ far. rw (far, not_come) (f o p)))

        first_held : held (y ∷ ys) ≡ [] → (y.time ≤ x.time + gap) × (holds t (leg_between x y) ≡ true)
        first_held none =
            by_test (nat_le y.time (x.time + gap))
            (λ one_leg. by_test (holds t (leg_between x y))
            (λ passes. (grind (arith, nat_tests), passes))
            (λ fails. let nothing : held (x ∷ y ∷ ys) ≡ [] = unheld x y (legs_from gap y ys) (λ le. fails) ∙ none in absurd (cc)))
            (λ no_leg. let nothing : held (x ∷ y ∷ ys) ≡ [] = unheld x y (legs_from gap y ys) (λ le. absurd (grind (arith, nat_tests))) ∙ none in absurd (cc))

        by_first : y.time ≤ x.time + gap → holds t (leg_between x y) ≡ true → last_or o (filter by_then (x ∷ y ∷ ys)) ≡ last_or p (filter by_then (filter is_near (x ∷ y ∷ ys)))
        by_first le here =
            let begun : x.time ≤ t = grind (arith, nat_tests) in
            let ends : t ≤ y.time = grind (arith, nat_tests) in
            let after = order.1.0 in
            let same : filter by_then (y ∷ ys) ≡ filter by_then (filter is_near (y ∷ ys)) = near_by_then (y ∷ ys) (ends, at_or_after y.time ys ends after) in
            let come : nat_le x.time t ≡ true = grind (arith, nat_tests) in
            let near : is_near x ≡ true = near_if x (omega arith) (omega arith) in
            rw (near, come) (ap (λ (zs : List Accepted). last_or (Some x) zs) same)

        by_rest : (rest : List Leg) → held (y ∷ ys) ≡ rest
            → ((leg : Leg) (legs : List Leg) → held (y ∷ ys) ≡ leg ∷ legs → (o p : Option Accepted) → last_or o (filter by_then (y ∷ ys)) ≡ last_or p (filter by_then (filter is_near (y ∷ ys))))
            → last_or o (filter by_then (x ∷ y ∷ ys)) ≡ last_or p (filter by_then (filter is_near (x ∷ y ∷ ys)))
        by_rest [] f again = let first = first_held f in by_first first.0 first.1
        by_rest (other ∷ others) f again = one_before (again other others f)
