-- Ascending lists of numbers.
use Rattle.std.proofs.Common.{◌≡◌, ◌≢◌, ℕ, zero, suc, ◌<◌, ◌≤◌, ◌⊎◌, inl, inr, List, [], ◌∷◌, ◌∙◌, length, get_or, Bool, true, false, nat_lt, nat_eq, refl, ap, sym, subst, arith}
use Rattle.std.proofs.Math.Nat.{eq-or-lt_of_le}
use Rattle.std.proofs.lemmas.Bool.{cases_Bool, cases_lt}
use Rattle.std.proofs.lemmas.Bool.Decides.{nat_tests}
use Rattle.std.proofs.lemmas.List.{get_or_default}
use Rattle.std.proofs.lemmas.List.Elements.{All-cons, All-filter, All-head, All-nil, All-tail, All-weaker, filter_agree}
use Rattle.std.specs.List.{All, Contains, filter, insert}
use Rattle.std.specs.List.Sorted.{IsNonDecreasingBy}
use Rattle.tracks.specs.Inner.AscendingNumbers.{Ascends}
use Rattle.tracks.specs.VesselsHeld.{with_number}

-- ---- by indices

pub ascends_lt : (ns : List ℕ) → Ascends ns → (i j d : ℕ) → i < j → j < length ns → get_or ns i d < get_or ns j d
ascends_lt [] h i j d lt within = absurd (omega arith)
ascends_lt (n ∷ ns) h i zero d lt within = absurd (omega arith)
ascends_lt (n ∷ ns) h zero (suc j) d lt within = h.0 j d (omega arith)
ascends_lt (n ∷ ns) h (suc i) (suc j) d lt within = ascends_lt ns h.1 i j d (omega arith) (omega arith)

pub in_order : (ns : List ℕ) → Ascends ns → IsNonDecreasingBy (λ n. n) ns
in_order ns h i j d le within =
    elim (eq-or-lt_of_le le) [
      | inl same ↦ (let e : get_or ns i d ≡ get_or ns j d = ap (λ (k : ℕ). get_or ns k d) same in omega arith)
      | inr before ↦ (let lt : get_or ns i d < get_or ns j d = ascends_lt ns h i j d before within in omega arith)
    ]

-- ---- where a number would stand

pub record StandsAt (m : ℕ) (ns : List ℕ) (at : ℕ) : Type 0 where
  pub below : (k d : ℕ) → k < at → get_or ns k d < m
  pub above : (k d : ℕ) → at ≤ k → k < length ns → m < get_or ns k d

pub stands_at : (m : ℕ) (ns : List ℕ) (at : ℕ) → Ascends ns → ((k d : ℕ) → 0 ≤ k → k < at → get_or ns k d < m)
    → ((k d : ℕ) → at ≤ k → k < length ns → m ≤ get_or ns k d) → (at < length ns → get_or ns at 0 ≢ m) → StandsAt m ns at
stands_at m ns at h below above other = record {
  below = λ k d lt. below k d (omega arith) lt;
  above = λ k d le within. elim (eq-or-lt_of_le le) [
    | inl same ↦ (let e : get_or ns at d ≡ get_or ns k d = ap (λ (j : ℕ). get_or ns j d) same in
        let ge : m ≤ get_or ns k d = above k d le within in
        let ne : get_or ns at 0 ≢ m = other (omega arith) in
        let same-default = get_or_default ns at d 0 (omega arith) in
        omega arith)
    | inr before ↦ (let lt : get_or ns at d < get_or ns k d = ascends_lt ns h at k d before within in
        let ge : m ≤ get_or ns at d = above at d (omega arith) (omega arith) in omega arith)
  ];
}

one_less : (m n : ℕ) (ns : List ℕ) (at : ℕ) → StandsAt m (n ∷ ns) (suc at) → StandsAt m ns at
one_less m n ns at h = record {
  below = λ k d lt. h.below (suc k) d (omega arith);
  above = λ k d le within. h.above (suc k) d (omega arith) (omega arith);
}

pub with_number-insert : (m : ℕ) (ns : List ℕ) (at : ℕ) → at ≤ length ns → StandsAt m ns at → with_number m ns ≡ insert ns at m
with_number-insert m [] zero le h = refl
with_number-insert m [] (suc at) le h = absurd (omega arith)
with_number-insert m (n ∷ ns) zero le h =
    let lt : m < n = h.above 0 0 (omega arith) (omega arith) in
    let first : nat_lt m n ≡ true = grind (arith, nat_tests) in
    rw first refl
with_number-insert m (n ∷ ns) (suc at) le h =
    let lt : n < m = h.below 0 0 (omega arith) in
    let first : nat_lt m n ≡ false = grind (arith, nat_tests) in
    let second : nat_eq m n ≡ false = grind (arith, nat_tests) in
    rw (first, second) (ap (λ (xs : List ℕ). n ∷ xs) (with_number-insert m ns at (omega arith) (one_less m n ns at h)))

pub not_among : (m : ℕ) (ns : List ℕ) (at : ℕ) → StandsAt m ns at → ¬ Contains ns m
not_among m ns at h found =
    elim (cases_lt found.0 at) [
      | inl lt ↦ (let below : get_or ns found.0 m < m = h.below found.0 m lt in let here = found.2 in omega arith)
      | inr le ↦ (let above : m < get_or ns found.0 m = h.above found.0 m le found.1 in let here = found.2 in omega arith)
    ]

-- ---- elements

abbrev pub IsAmong : ℕ → List ℕ → Type 0
IsAmong n [] = ⊥
IsAmong n (m ∷ ms) = (n ≡ m) ⊎ IsAmong n ms

pub among_from_Contains : (n : ℕ) (ms : List ℕ) → Contains ms n → IsAmong n ms
among_from_Contains n [] found = absurd (let lt = found.1 in omega arith)
among_from_Contains n (m ∷ ms) (zero, lt, here) = inl (sym here)
among_from_Contains n (m ∷ ms) (suc k, lt, here) = inr (among_from_Contains n ms (k, omega arith, here))

one_later : (n m : ℕ) (ms : List ℕ) → Contains ms n → Contains (m ∷ ms) n
one_later n m ms found = (suc found.0, let lt = found.1 in omega arith, found.2)

pub Contains_from_among : (n : ℕ) (ms : List ℕ) → IsAmong n ms → Contains ms n
Contains_from_among n [] h = absurd h
Contains_from_among n (m ∷ ms) (inl same) = (0, omega arith, sym same)
Contains_from_among n (m ∷ ms) (inr later) = one_later n m ms (Contains_from_among n ms later)

pub among_above : (n m : ℕ) (ms : List ℕ) → All (λ k. m < k) ms → IsAmong n ms → m < n
among_above n m [] all h = absurd h
among_above n m (k ∷ ks) all (inl same) = let lt : m < k = All-head (λ k. m < k) k ks all in omega arith
among_above n m (k ∷ ks) all (inr later) = among_above n m ks (All-tail (λ k. m < k) k ks all) later

-- ---- one more number

three : (n m : ℕ) → (n < m) ⊎ ((n ≡ m) ⊎ (m < n))
three n m = grind arith

with_number-before : (n m : ℕ) (ms : List ℕ) → n < m → with_number n (m ∷ ms) ≡ n ∷ m ∷ ms
with_number-before n m ms lt = let first : nat_lt n m ≡ true = grind (arith, nat_tests) in rw first refl

with_number-here : (n m : ℕ) (ms : List ℕ) → n ≡ m → with_number n (m ∷ ms) ≡ m ∷ ms
with_number-here n m ms e =
    let first : nat_lt n m ≡ false = grind (arith, nat_tests) in
    let second : nat_eq n m ≡ true = grind (arith, nat_tests) in
    rw (first, second) refl

with_number-later : (n m : ℕ) (ms : List ℕ) → m < n → with_number n (m ∷ ms) ≡ m ∷ with_number n ms
with_number-later n m ms lt =
    let first : nat_lt n m ≡ false = grind (arith, nat_tests) in
    let second : nat_eq n m ≡ false = grind (arith, nat_tests) in
    rw (first, second) refl

pub All-with_number : (P : ℕ → Type 0) (n : ℕ) (ms : List ℕ) → P n → All P ms → All P (with_number n ms)
All-with_number P n [] one all = All-cons P n [] one all
All-with_number P n (m ∷ ms) one all =
    elim (three n m) [
      | inl lt ↦ rw (with_number-before n m ms lt) (All-cons P n (m ∷ ms) one all)
      | inr (inl e) ↦ rw (with_number-here n m ms e) all
      | inr (inr gt) ↦ rw (with_number-later n m ms gt) (All-cons P m (with_number n ms) (All-head P m ms all) (All-with_number P n ms one (All-tail P m ms all)))
    ]

pub with_number-ascends : (n : ℕ) (ms : List ℕ) → Ascends ms → Ascends (with_number n ms)
with_number-ascends n [] h = (All-nil (λ k. n < k), tt)
with_number-ascends n (m ∷ ms) h =
    elim (three n m) [
      | inl lt ↦ rw (with_number-before n m ms lt) (All-cons (λ k. n < k) m ms lt (All-weaker (λ k. m < k) (λ k. n < k) (λ k l. omega arith) ms h.0), h)
      | inr (inl e) ↦ rw (with_number-here n m ms e) h
      | inr (inr gt) ↦ rw (with_number-later n m ms gt) (All-with_number (λ k. m < k) n ms gt h.0, with_number-ascends n ms h.1)
    ]

pub among-with_number : (k n : ℕ) (ms : List ℕ) → IsAmong k ms → IsAmong k (with_number n ms)
among-with_number k n [] h = absurd h
among-with_number k n (m ∷ ms) h =
    elim (three n m) [
      | inl lt ↦ rw (with_number-before n m ms lt) (inr h)
      | inr (inl e) ↦ rw (with_number-here n m ms e) h
      | inr (inr gt) ↦ rw (with_number-later n m ms gt) (elim h [ inl same ↦ inl same | inr later ↦ inr (among-with_number k n ms later) ])
    ]

pub itself_among : (n : ℕ) (ms : List ℕ) → IsAmong n (with_number n ms)
itself_among n [] = inl refl
itself_among n (m ∷ ms) =
    elim (three n m) [
      | inl lt ↦ rw (with_number-before n m ms lt) (inl refl)
      | inr (inl e) ↦ rw (with_number-here n m ms e) (inl e)
      | inr (inr gt) ↦ rw (with_number-later n m ms gt) (inr (itself_among n ms))
    ]

-- a number that is below all stands first
with_number-first : (n : ℕ) (ms : List ℕ) → All (λ k. n < k) ms → with_number n ms ≡ n ∷ ms
with_number-first n [] all = refl
with_number-first n (m ∷ ms) all = with_number-before n m ms (All-head (λ k. n < k) m ms all)

-- a number that is among them stays there
pub with_number-among : (n : ℕ) (ms : List ℕ) → Ascends ms → IsAmong n ms → with_number n ms ≡ ms
with_number-among n [] h in' = absurd in'
with_number-among n (m ∷ ms) h (inl same) = with_number-here n m ms same
with_number-among n (m ∷ ms) h (inr later) =
    with_number-later n m ms (among_above n m ms h.0 later) ∙ ap (λ (ks : List ℕ). m ∷ ks) (with_number-among n ms h.1 later)

-- ---- what a test keeps of them

filter-yes : (p : ℕ → Bool) (m : ℕ) (ms : List ℕ) → p m ≡ true → filter p (m ∷ ms) ≡ m ∷ filter p ms
filter-yes p m ms e = rw e refl

filter-no : (p : ℕ → Bool) (m : ℕ) (ms : List ℕ) → p m ≡ false → filter p (m ∷ ms) ≡ filter p ms
filter-no p m ms e = rw e refl

-- Two tests agree but at a number that all of them exceed.
filter_above : (p q : ℕ → Bool) (n : ℕ) (ms : List ℕ) → ((k : ℕ) → k ≢ n → q k ≡ p k) → All (λ k. n < k) ms → filter q ms ≡ filter p ms
filter_above p q n [] agree all = refl
filter_above p q n (m ∷ ms) agree all =
    let lt : n < m = All-head (λ k. n < k) m ms all in
    let ne : m ≢ n = omega arith in
    let same : q m ≡ p m = agree m ne in
    let rest : filter q ms ≡ filter p ms = filter_above p q n ms agree (All-tail (λ k. n < k) m ms all) in
    elim (cases_Bool (p m)) [
      | inl holds ↦ filter-yes q m ms (same ∙ holds) ∙ ap (λ (ks : List ℕ). m ∷ ks) rest ∙ sym (filter-yes p m ms holds)
      | inr fails ↦ filter-no q m ms (same ∙ fails) ∙ rest ∙ sym (filter-no p m ms fails)
    ]

All-kept : (P : ℕ → Type 0) (p : ℕ → Bool) (ms : List ℕ) → All P ms → All P (filter p ms)
All-kept P p ms all = All-filter p P ms all

pub filter-ascends : (p : ℕ → Bool) (ms : List ℕ) → Ascends ms → Ascends (filter p ms)
filter-ascends p [] h = tt
filter-ascends p (m ∷ ms) h =
    elim (cases_Bool (p m)) [
      | inl holds ↦ rw (filter-yes p m ms holds) (All-kept (λ k. m < k) p ms h.0, filter-ascends p ms h.1)
      | inr fails ↦ rw (filter-no p m ms fails) (filter-ascends p ms h.1)
    ]

-- The number passes now, and all others as before.
pub filter_one_more : (p q : ℕ → Bool) (n : ℕ) (ms : List ℕ) → Ascends ms → q n ≡ true → ((k : ℕ) → k ≢ n → q k ≡ p k)
    → filter q (with_number n ms) ≡ with_number n (filter p ms)
filter_one_more p q n [] h holds agree = filter-yes q n [] holds
filter_one_more p q n (m ∷ ms) h holds agree =
    elim (three n m) [
      | inl lt ↦ (let all : All (λ k. n < k) (m ∷ ms) = All-cons (λ k. n < k) m ms lt (All-weaker (λ k. m < k) (λ k. n < k) (λ k l. omega arith) ms h.0) in
          ap (filter q) (with_number-before n m ms lt) ∙ filter-yes q n (m ∷ ms) holds
          ∙ ap (λ (ks : List ℕ). n ∷ ks) (filter_above p q n (m ∷ ms) agree all)
          ∙ sym (with_number-first n (filter p (m ∷ ms)) (All-kept (λ k. n < k) p (m ∷ ms) all)))
      | inr (inl e) ↦ (let all : All (λ k. n < k) ms = All-weaker (λ k. m < k) (λ k. n < k) (λ k l. omega arith) ms h.0 in
          let q-yes : q m ≡ true = subst (λ (k : ℕ). q k ≡ true) e holds in
          let first : filter q (with_number n (m ∷ ms)) ≡ m ∷ filter p ms =
          ap (filter q) (with_number-here n m ms e) ∙ filter-yes q m ms q-yes ∙ ap (λ (ks : List ℕ). m ∷ ks) (filter_above p q n ms agree all) in
          elim (cases_Bool (p m)) [
            | inl was ↦ first ∙ sym (with_number-here n m (filter p ms) e) ∙ ap (with_number n) (sym (filter-yes p m ms was))
            | inr not ↦ first ∙ ap (λ (k : ℕ). k ∷ filter p ms) (sym e) ∙ sym (with_number-first n (filter p ms) (All-kept (λ k. n < k) p ms all))
                ∙ ap (with_number n) (sym (filter-no p m ms not))
          ])
      | inr (inr gt) ↦ (let ne : m ≢ n = omega arith in
          let same : q m ≡ p m = agree m ne in
          let rest : filter q (with_number n ms) ≡ with_number n (filter p ms) = filter_one_more p q n ms h.1 holds agree in
          elim (cases_Bool (p m)) [
            | inl was ↦ ap (filter q) (with_number-later n m ms gt) ∙ filter-yes q m (with_number n ms) (same ∙ was) ∙ ap (λ (ks : List ℕ). m ∷ ks) rest
                ∙ sym (with_number-later n m (filter p ms) gt) ∙ ap (with_number n) (sym (filter-yes p m ms was))
            | inr not ↦ ap (filter q) (with_number-later n m ms gt) ∙ filter-no q m (with_number n ms) (same ∙ not) ∙ rest ∙ ap (with_number n) (sym (filter-no p m ms not))
          ])
    ]

-- The number passes neither now nor before, and all others as before.
pub filter_none_more : (p q : ℕ → Bool) (n : ℕ) (ms : List ℕ) → q n ≡ false → ((k : ℕ) → q k ≡ p k) → filter q (with_number n ms) ≡ filter p ms
filter_none_more p q n [] fails agree = filter-no q n [] fails
filter_none_more p q n (m ∷ ms) fails agree =
    elim (three n m) [
      | inl lt ↦ ap (filter q) (with_number-before n m ms lt) ∙ filter-no q n (m ∷ ms) fails ∙ filter_agree q p agree (m ∷ ms)
      | inr (inl e) ↦ ap (filter q) (with_number-here n m ms e) ∙ filter_agree q p agree (m ∷ ms)
      | inr (inr gt) ↦ (let rest = filter_none_more p q n ms fails agree in
          elim (cases_Bool (p m)) [
            | inl was ↦ ap (filter q) (with_number-later n m ms gt) ∙ filter-yes q m (with_number n ms) (agree m ∙ was) ∙ ap (λ (ks : List ℕ). m ∷ ks) rest ∙ sym (filter-yes p m ms was)
            | inr not ↦ ap (filter q) (with_number-later n m ms gt) ∙ filter-no q m (with_number n ms) (agree m ∙ not) ∙ rest ∙ sym (filter-no p m ms not)
          ])
    ]

pub among_passes : (p : ℕ → Bool) (n : ℕ) (ms : List ℕ) → IsAmong n (filter p ms) → p n ≡ true
among_passes p n [] h = absurd h
among_passes p n (m ∷ ms) h =
    elim (cases_Bool (p m)) [
      | inl holds ↦ (elim (subst (IsAmong n) (filter-yes p m ms holds) h) [ inl same ↦ subst (λ (k : ℕ). p k ≡ true) (sym same) holds | inr later ↦ among_passes p n ms later ])
      | inr fails ↦ among_passes p n ms (subst (IsAmong n) (filter-no p m ms fails) h)
    ]

pub passes_among : (p : ℕ → Bool) (n : ℕ) (ms : List ℕ) → p n ≡ true → IsAmong n ms → IsAmong n (filter p ms)
passes_among p n [] holds h = absurd h
passes_among p n (m ∷ ms) holds h =
    elim (cases_Bool (p m)) [
      | inl pass ↦ rw (filter-yes p m ms pass) (elim h [ inl same ↦ inl same | inr later ↦ inr (passes_among p n ms holds later) ])
      | inr fails ↦ rw (filter-no p m ms fails) (elim h [ inl same ↦ (let e = subst (λ (k : ℕ). p k ≡ true) same holds in absurd (cc)) | inr later ↦ passes_among p n ms holds later ])
    ]
