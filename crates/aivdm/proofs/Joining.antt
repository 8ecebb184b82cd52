-- What the joiner keeps of the sentences of a key, against the last of them.
use Rattle.std.proofs.Common.{◌≡◌, ◌==◌, ◌&&◌, ℕ, zero, suc, ◌+◌, ◌-◌, ◌<◌, ◌≤◌, Bool, true, false, List, [], ◌∷◌, ◌++◌, length, drop, nat_lt, nat_le, Option, Some, None, ◌⊎◌, inl, inr, slice_get, if◌then◌else◌, refl, sym, ap, ◌∙◌, subst, arith, append-nil, length-append, eq-eqb}
use Rattle.std.proofs.lemmas.Bool.{and_parts, and_from, and_left, and_right, le-leb, eqb-true, ne_eqb, ltb-true, ltb-false, lt-ltb, leb-true, cond-true, cond-false, cases_eq, false≢true}
use Rattle.std.proofs.lemmas.Bool.Decides.{nat_tests}
use Rattle.std.proofs.lemmas.Grind.{flat_map-append}
use Rattle.std.proofs.lemmas.List.{drop-append-le, drop_all}
use Rattle.std.proofs.lemmas.List.Folds.{list_all-append}
use Rattle.std.specs.List.{enumerate_from, list_all}
use Rattle.std.specs.Option.{option_and_then}
use Rattle.aivdm.specs.FragmentJoining.{Taken, total_of, number_of_part, last_of, is_run, part_bits, joined_bits, joined_run}
use Rattle.aivdm.specs.Inner.OpenRuns.{begun_by, awaits, joined_on, run_on, joined_by, run_by}
use Rattle.aivdm.specs.Inner.KeptParts.{open_behind, open_parts, Keeps, KeepsOpen}
use Rattle.aivdm.specs.declared.joiner.Begun.{Begun}
use Rattle.aivdm.specs.declared.joiner.Joined.TheVariants.{Message, Waiting, Orphan}

-- ---- lists with one element more at the end

enumerated : {X : Type 0} (n : ℕ) (xs : List X) (x : X) → enumerate_from n (xs ++ x ∷ []) ≡ enumerate_from n xs ++ (n + length xs, x) ∷ []
enumerated n [] x = ap (λ (k : ℕ). (k, x) ∷ []) (omega arith)
enumerated {X} n (y ∷ xs) x =
    ap (λ (l : List (ℕ × X)). (n, y) ∷ l) (enumerated (n + 1) xs x ∙ ap (λ (k : ℕ). enumerate_from (n + 1) xs ++ (k, x) ∷ []) (omega arith))

snoc_view : {X : Type 0} (xs : List X) → (xs ≡ []) ⊎ ((front : List X) × (last : X) × (xs ≡ front ++ last ∷ []))
snoc_view [] = inl refl
snoc_view {X} (x ∷ xs) =
    elim (snoc_view xs) [
      | inl none ↦ inr ([], x, ap (λ (l : List X). x ∷ l) none)
      | inr (front, last, e) ↦ inr (x ∷ front, last, ap (λ (l : List X). x ∷ l) e)
    ]

last_more : {X : Type 0} (k : ℕ) (xs : List X) (x : X) → last_of (suc k) (xs ++ x ∷ []) ≡ last_of k xs ++ x ∷ []
last_more k xs x =
    let size = length-append xs (x ∷ []) in
    let places : length (xs ++ x ∷ []) - suc k ≡ length xs - k = omega arith in
    ap (λ (n : ℕ). drop n (xs ++ x ∷ [])) places ∙ drop-append-le (length xs - k) xs (x ∷ []) (omega arith)

last_element : {X : Type 0} (xs : List X) (x : X) → slice_get (xs ++ x ∷ []) (length (xs ++ x ∷ []) - 1) ≡ Some x
last_element xs x = ap (slice_get (xs ++ x ∷ [])) (omega (arith, length-append xs (x ∷ []))) ∙ at xs x
  where
    at : {X : Type 0} (xs : List X) (x : X) → slice_get (xs ++ x ∷ []) (length xs) ≡ Some x
    at [] x = refl
    at (y ∷ xs) x = at xs x

-- ---- runs

-- The part continues a run that begins with this part and has this many.
extends : Taken → ℕ → Taken → Bool
extends first many part = (total_of part == total_of first) && (number_of_part part == many + 1) && nat_le part.time (first.time + 30)

shuffle : (a b c x y z : Bool) → ((a && (x && true)) && (b && (y && true)) && (c && (z && true))) ≡ ((a && b && c) && (x && y && z))
shuffle a b c x y z = grind arith

three : {a b c x y z : Bool} → a ≡ x → b ≡ y → c ≡ z → (a && b && c) ≡ (x && y && z)
three p q r = cc

run_more : (first : Taken) (others : List Taken) (part : Taken) → is_run (first ∷ (others ++ part ∷ [])) ≡ (is_run (first ∷ others) && extends first (length (first ∷ others)) part)
unfolding is_run extends
run_more first others part =
    let totals = λ (other : Taken). total_of other == total_of first in
    let places = λ (place : ℕ × Taken). number_of_part place.1 == place.0 in
    let times = λ (other : Taken). nat_le other.time (first.time + 30) in
    let many = length (first ∷ others) in
    let place_is : enumerate_from 1 (first ∷ (others ++ part ∷ [])) ≡ enumerate_from 1 (first ∷ others) ++ (many + 1, part) ∷ []
    = enumerated 1 (first ∷ others) part ∙ ap (λ (k : ℕ). enumerate_from 1 (first ∷ others) ++ (k, part) ∷ []) (omega arith) in
    three
    (list_all-append totals others (part ∷ []))
    (ap (list_all places) place_is ∙ list_all-append places (enumerate_from 1 (first ∷ others)) ((many + 1, part) ∷ []))
    (list_all-append times others (part ∷ []))
    ∙ shuffle (list_all totals others) (list_all places (enumerate_from 1 (first ∷ others))) (list_all times others) (totals part) (number_of_part part == many + 1) (times part)

-- what it takes to continue
record Extends (first : Taken) (many : ℕ) (part : Taken) : Type 0 where
  total : total_of part ≡ total_of first
  number : number_of_part part ≡ many + 1
  time : part.time ≤ first.time + 30

extends_so : (first : Taken) (many : ℕ) (part : Taken) → extends first many part ≡ true → Extends first many part
unfolding extends
extends_so first many part h =
    let last = and_parts ((total_of part == total_of first) && (number_of_part part == many + 1)) (nat_le part.time (first.time + 30)) h in
    let both = and_parts (total_of part == total_of first) (number_of_part part == many + 1) last.0 in record {
      total = eqb-true (total_of part) (total_of first) both.0;
      number = eqb-true (number_of_part part) (many + 1) both.1;
      time = leb-true part.time (first.time + 30) last.1;
    }

run_parts : (first : Taken) (others : List Taken) (part : Taken) → is_run (first ∷ (others ++ part ∷ [])) ≡ true
    → (is_run (first ∷ others) ≡ true) × Extends first (length (first ∷ others)) part
run_parts first others part h =
    let both = and_parts (is_run (first ∷ others)) (extends first (length (first ∷ others)) part) (sym (run_more first others part) ∙ h) in
    (both.0, extends_so first (length (first ∷ others)) part both.1)

-- one part by itself
run_one : (part : Taken) → is_run (part ∷ []) ≡ (number_of_part part == 1)
unfolding is_run
run_one part = grind arith

extends_again : (first : Taken) (many : ℕ) (part : Taken) → Extends first many part → extends first many part ≡ true
unfolding extends
extends_again first many part e =
    rw (eq-eqb (total_of part) (total_of first) e.total, eq-eqb (number_of_part part) (many + 1) e.number, le-leb part.time (first.time + 30) e.time) refl

-- the last part of a run has the number of its place
run_last : (front : List Taken) (last : Taken) → is_run (front ++ last ∷ []) ≡ true → number_of_part last ≡ length (front ++ last ∷ [])
run_last [] last h = eqb-true (number_of_part last) 1 (sym (run_one last) ∙ h)
run_last (first ∷ others) last h =
    let number = (run_parts first others last h).1.number in
    number ∙ sym (length-append (first ∷ others) (last ∷ []))

-- and the total of the first
pub run_total : (first : Taken) (others front : List Taken) (last : Taken) → first ∷ others ≡ front ++ last ∷ [] → is_run (first ∷ others) ≡ true → total_of last ≡ total_of first
run_total first others [] last e h = let same : first ≡ last = cc in ap total_of (sym same)
run_total first others (other ∷ front) last e h =
    let same : first ≡ other = cc in
    let rest : others ≡ front ++ last ∷ [] = cc in
    (run_parts first front last (ap (λ (l : List Taken). is_run (first ∷ l)) (sym rest) ∙ h)).1.total

-- ---- the message of a key against the last sentences of the key

-- whether the message, if there is one, awaits a part
pub awaited : Option Begun → Taken → Bool
awaited None part = false
awaited (Some run) part = awaits run part

-- A closed message, or none, awaits no part but the first.
closed_awaits : (found : Option Begun) (part : Taken) → KeepsOpen found None → 2 ≤ number_of_part part → awaited found part ≡ false
unfolding awaited
closed_awaits None part keeps two = refl
closed_awaits (Some run) part keeps two =
    let not_next : (number_of_part part - run.count == 1) ≡ false = ne_eqb (number_of_part part - run.count) 1 (λ one. absurd (omega (arith, keeps))) in
    and_left ((run.total == total_of part) && nat_lt run.count (number_of_part part) && (number_of_part part - run.count == 1)) (nat_le part.time (run.since + 30))
    (and_right ((run.total == total_of part) && nat_lt run.count (number_of_part part)) (number_of_part part - run.count == 1) not_next)

same_tests : (t u k n a b : ℕ) → ((t == u) && nat_lt n k && (k - n == 1) && nat_le a b) ≡ ((u == t) && (k == n + 1) && nat_le a b)
same_tests t u k n a b = grind (arith, nat_tests)

-- An open one awaits a part if it extends the parts that are kept.
open_awaits : (found : Option Begun) (first : Taken) (others : List Taken) (part : Taken) → KeepsOpen found (Some (first ∷ others)) → awaited found part ≡ extends first (length (first ∷ others)) part
unfolding awaited extends
open_awaits None first others part keeps = absurd keeps
open_awaits (Some run) first others part keeps =
    rw (keeps.0, keeps.1, keeps.2) (same_tests (total_of first) (total_of part) (number_of_part part) (length (first ∷ others)) part.time (first.time + 30))

-- the message that keeps some parts
kept_message : (found : Option Begun) (first : Taken) (others : List Taken) → KeepsOpen found (Some (first ∷ others)) → (run : Begun) × (found ≡ Some run) × Keeps run (first ∷ others)
kept_message None first others keeps = absurd keeps
kept_message (Some run) first others keeps = (run, refl, keeps)

head_view : (front : List Taken) (last : Taken) → (first : Taken) × (others : List Taken) × (front ++ last ∷ [] ≡ first ∷ others)
head_view [] last = (last, [], refl)
head_view (first ∷ front) last = (first, front ++ last ∷ [], refl)

-- The part continues the open message: the sentences considered are the kept ones and the part.
pub record GoesOn (found : Option Begun) (parts : List Taken) (part : Taken) : Type 0 where
  first : Taken
  others : List Taken
  run : Begun
  found_is : found ≡ Some run
  keeps : Keeps run (first ∷ others)
  whole : last_of (number_of_part part) (parts ++ part ∷ []) ≡ first ∷ (others ++ part ∷ [])
  awaited_so : awaited found part ≡ true
  run_so : is_run (last_of (number_of_part part) (parts ++ part ∷ [])) ≡ true

-- The part continues nothing.
pub record GoesOff (found : Option Begun) (parts : List Taken) (part : Taken) : Type 0 where
  awaited_not : awaited found part ≡ false
  run_not : is_run (last_of (number_of_part part) (parts ++ part ∷ [])) ≡ false

-- a number from 2 on
from_two : (k : ℕ) → 2 ≤ k → (j : ℕ) × (k ≡ suc (suc j))
from_two zero two = absurd (omega arith)
from_two (suc zero) two = absurd (omega arith)
from_two (suc (suc j)) two = (j, refl)

from_one : (k : ℕ) → 1 ≤ k → (j : ℕ) × (k ≡ suc j)
from_one zero one = absurd (omega arith)
from_one (suc j) one = (j, refl)

no_run : is_run [] ≡ false
unfolding is_run
no_run = refl

empty_run : {X : Type 0} (xs : List X) → last_of 0 xs ≡ []
empty_run xs = drop_all (length xs - 0) xs (omega arith)

-- with no sentence before it
goes_first : (found : Option Begun) (part : Taken) → KeepsOpen found (open_parts []) → 2 ≤ number_of_part part → GoesOff found [] part
unfolding open_parts
goes_first found part keeps two = record {
  awaited_not = closed_awaits found part keeps two;
  run_not =
      let k = from_two (number_of_part part) two in
      let nothing : last_of {X = Taken} (suc k.0) [] ≡ [] = drop_all (0 - suc k.0) [] (omega arith) in
      ap (λ (n : ℕ). is_run (last_of n (part ∷ []))) k.1
      ∙ ap is_run (last_more (suc k.0) [] part ∙ ap (λ (l : List Taken). l ++ part ∷ []) nothing)
      ∙ run_one part
      ∙ ne_eqb (number_of_part part) 1 (λ one. absurd (omega arith));
}

module _ (front : List Taken) (last : Taken) where
  abbrev before : List Taken
  before = front ++ last ∷ []

  open_is : open_parts before ≡ open_behind before last
  unfolding open_parts
  open_is = ap (option_and_then (open_behind before)) (last_element front last)

  -- the sentences considered, if the part's number is j + 2
  looked_at : (part : Taken) (j : ℕ) → number_of_part part ≡ suc (suc j) → last_of (number_of_part part) (before ++ part ∷ []) ≡ (last_of j front ++ last ∷ []) ++ part ∷ []
  looked_at part j e =
      ap (λ (n : ℕ). last_of n (before ++ part ∷ [])) e
      ∙ last_more (suc j) before part
      ∙ ap (λ (l : List Taken). l ++ part ∷ []) (last_more j front last)

  kept_at : (j : ℕ) → number_of_part last ≡ suc j → last_of (number_of_part last) before ≡ last_of j front ++ last ∷ []
  kept_at j e = ap (λ (n : ℕ). last_of n before) e ∙ last_more j front last

  -- the run that the last sentence ends, if it is open
  open_run : is_run (last_of (number_of_part last) before) ≡ true → number_of_part last < total_of last → open_parts before ≡ Some (last_of (number_of_part last) before)
  open_run run below =
      open_is
      ∙ cond-true _ (Some (last_of (number_of_part last) before)) None
      (and_from (is_run (last_of (number_of_part last) before)) (nat_lt (number_of_part last) (total_of last)) run (lt-ltb (number_of_part last) (total_of last) below))

  goes_on : (found : Option Begun) (part : Taken) → KeepsOpen found (open_parts before) → number_of_part part ≤ total_of part → (j : ℕ) → number_of_part part ≡ suc (suc j)
      → is_run (last_of (number_of_part part) (before ++ part ∷ [])) ≡ true → GoesOn found before part
  goes_on found part keeps within j k run =
      let parts = last_of j front ++ last ∷ [] in
      let head = head_view (last_of j front) last in
      let first = head.0 in
      let others = head.1 in
      let whole : last_of (number_of_part part) (before ++ part ∷ []) ≡ first ∷ (others ++ part ∷ [])
      = looked_at part j k ∙ ap (λ (l : List Taken). l ++ part ∷ []) head.2 in
      let both = run_parts first others part (ap is_run (sym whole) ∙ run) in
      let size : length parts ≡ length (first ∷ others) = ap length head.2 in
      let last_number : number_of_part last ≡ length parts = run_last (last_of j front) last (ap is_run head.2 ∙ both.0) in
      let next = both.1.number in
      let last_is : number_of_part last ≡ suc j = omega arith in
      let total : total_of last ≡ total_of first = run_total first others (last_of j front) last (sym head.2) both.0 in
      let same_total = both.1.total in
      let kept : last_of (number_of_part last) before ≡ first ∷ others = kept_at j last_is ∙ head.2 in
      let open_now : open_parts before ≡ Some (first ∷ others) = open_run (ap is_run kept ∙ both.0) (omega arith) ∙ ap Some kept in
      let keeps_now : KeepsOpen found (Some (first ∷ others)) = subst (KeepsOpen found) open_now keeps in
      let message = kept_message found first others keeps_now in record {
        first = first;
        others = others;
        run = message.0;
        found_is = message.1;
        keeps = message.2;
        whole = whole;
        awaited_so = open_awaits found first others part keeps_now ∙ extends_again first (length (first ∷ others)) part both.1;
        run_so = run;
      }

  goes_off : (found : Option Begun) (part : Taken) → KeepsOpen found (open_parts before) → 2 ≤ number_of_part part
      → is_run (last_of (number_of_part part) (before ++ part ∷ [])) ≡ false → awaited found part ≡ false
  goes_off found part keeps two run = by_open (is_run kept && nat_lt (number_of_part last) (total_of last)) refl
    where
      kept : List Taken
      kept = last_of (number_of_part last) before

      by_awaited : (first : Taken) (others : List Taken) (m : ℕ) → number_of_part last ≡ suc m → kept ≡ first ∷ others → is_run kept ≡ true → open_parts before ≡ Some kept
          → (b : Bool) → awaited found part ≡ b → awaited found part ≡ false
      by_awaited first others m n head run_kept open_now false e = e
      by_awaited first others m n head run_kept open_now true e =
          let keeps_now : KeepsOpen found (Some (first ∷ others)) = subst (KeepsOpen found) (open_now ∙ ap Some head) keeps in
          let extends_now : extends first (length (first ∷ others)) part ≡ true = sym (open_awaits found first others part keeps_now) ∙ e in
          let next = (extends_so first (length (first ∷ others)) part extends_now).number in
          let at : last_of m front ++ last ∷ [] ≡ first ∷ others = sym (kept_at m n) ∙ head in
          let last_number : number_of_part last ≡ length (last_of m front ++ last ∷ []) = run_last (last_of m front) last (ap is_run (at ∙ sym head) ∙ run_kept) in
          let size : length (last_of m front ++ last ∷ []) ≡ length (first ∷ others) = ap length at in
          let looked : last_of (number_of_part part) (before ++ part ∷ []) ≡ first ∷ (others ++ part ∷ [])
          = looked_at part m (omega arith) ∙ ap (λ (l : List Taken). l ++ part ∷ []) at in
          let runs : is_run (last_of (number_of_part part) (before ++ part ∷ [])) ≡ true
          = ap is_run looked ∙ run_more first others part ∙ and_from (is_run (first ∷ others)) (extends first (length (first ∷ others)) part) (ap is_run (sym head) ∙ run_kept) extends_now in
          absurd (false≢true (sym run ∙ runs))

      some_number : is_run kept ≡ true → (n : ℕ) → number_of_part last ≡ n → 1 ≤ n
      some_number run_kept zero e =
          absurd (false≢true (sym no_run ∙ ap is_run (sym (ap (λ (n : ℕ). last_of n before) e ∙ empty_run before)) ∙ run_kept))
      some_number run_kept (suc n) e = omega arith

      by_open : (b : Bool) → (is_run kept && nat_lt (number_of_part last) (total_of last)) ≡ b → awaited found part ≡ false
      by_open false e =
          closed_awaits found part (subst (KeepsOpen found) (open_is ∙ cond-false _ (Some kept) None e) keeps) two
      by_open true e =
          let both = and_parts (is_run kept) (nat_lt (number_of_part last) (total_of last)) e in
          let number = from_one (number_of_part last) (some_number both.0 (number_of_part last) refl) in
          let head = head_view (last_of number.0 front) last in
          by_awaited head.0 head.1 number.0 number.1 (kept_at number.0 number.1 ∙ head.2) both.0 (open_is ∙ cond-true _ (Some kept) None e) (awaited found part) refl

-- what becomes of a part that is not the first
pub goes : (found : Option Begun) (parts : List Taken) (part : Taken) → KeepsOpen found (open_parts parts) → 2 ≤ number_of_part part → number_of_part part ≤ total_of part
    → GoesOn found parts part ⊎ GoesOff found parts part
goes found parts part keeps two within = by_parts (snoc_view parts)
  where
    by_parts : (parts ≡ []) ⊎ ((front : List Taken) × (last : Taken) × (parts ≡ front ++ last ∷ [])) → GoesOn found parts part ⊎ GoesOff found parts part
    by_parts (inl none) =
        inr (subst (λ (l : List Taken). GoesOff found l part) (sym none) (goes_first found part (subst (λ (l : List Taken). KeepsOpen found (open_parts l)) none keeps) two))
    by_parts (inr (front, last, e)) =
        subst (λ (l : List Taken). GoesOn found l part ⊎ GoesOff found l part) (sym e)
        (by_run front last (subst (λ (l : List Taken). KeepsOpen found (open_parts l)) e keeps) (is_run (last_of (number_of_part part) ((front ++ last ∷ []) ++ part ∷ []))) refl)
      where
        by_run : (front : List Taken) (last : Taken) → KeepsOpen found (open_parts (front ++ last ∷ [])) → (b : Bool)
            → is_run (last_of (number_of_part part) ((front ++ last ∷ []) ++ part ∷ [])) ≡ b → GoesOn found (front ++ last ∷ []) part ⊎ GoesOff found (front ++ last ∷ []) part
        by_run front last keeps true run = let j = from_two (number_of_part part) two in inl (goes_on front last found part keeps within j.0 j.1 run)
        by_run front last keeps false run = inr (record { awaited_not = goes_off front last found part keeps two run; run_not = run })

-- ---- one step, for the sentences of one key

-- The step results in what the last sentences result in, and keeps the open messages after it.
pub record Steps (found : Option Begun) (parts : List Taken) (part : Taken) : Type 0 where
  pub joined : joined_by found part ≡ joined_run part (last_of (number_of_part part) (parts ++ part ∷ []))
  pub keeps : KeepsOpen (run_by found part) (open_parts (parts ++ part ∷ []))

-- what is open after a part, by the two tests
open_when : (parts : List Taken) (part : Taken) (r b : Bool) → is_run (last_of (number_of_part part) (parts ++ part ∷ [])) ≡ r → nat_lt (number_of_part part) (total_of part) ≡ b
    → open_parts (parts ++ part ∷ []) ≡ (if r && b then Some (last_of (number_of_part part) (parts ++ part ∷ [])) else None)
open_when parts part r b p q = open_is parts part ∙ rw (p, q) refl

joined_when : (part : Taken) (run : List Taken) (r e : Bool) → is_run run ≡ r → (number_of_part part == total_of part) ≡ e
    → joined_run part run ≡ (if r then (if e then Message (joined_bits run) else Waiting) else Orphan)
unfolding joined_run
joined_when part run r e p q = rw (p, q) refl

-- the first part
pub first_joined : (found : Option Begun) (part : Taken) → (number_of_part part == 1) ≡ true → joined_by found part ≡ Waiting
first_joined None part e = cond-true _ Waiting Orphan e
first_joined (Some run) part e = cond-true _ Waiting (joined_on run part) e

pub first_run : (found : Option Begun) (part : Taken) → (number_of_part part == 1) ≡ true → run_by found part ≡ Some (begun_by part)
first_run None part e = cond-true _ (Some (begun_by part)) None e
first_run (Some run) part e = cond-true _ (Some (begun_by part)) (Some (run_on run part)) e

step_first : (found : Option Begun) (parts : List Taken) (part : Taken) → number_of_part part ≡ 1 → 1 < total_of part → Steps found parts part
step_first found parts part one more =
    let looked : last_of (number_of_part part) (parts ++ part ∷ []) ≡ part ∷ []
    = ap (λ (n : ℕ). last_of n (parts ++ part ∷ [])) one ∙ last_more 0 parts part ∙ ap (λ (l : List Taken). l ++ part ∷ []) (empty_run parts) in
    let first : (number_of_part part == 1) ≡ true = eq-eqb (number_of_part part) 1 one in
    let run : is_run (last_of (number_of_part part) (parts ++ part ∷ [])) ≡ true = ap is_run looked ∙ run_one part ∙ first in
    let below : nat_lt (number_of_part part) (total_of part) ≡ true = lt-ltb (number_of_part part) (total_of part) (omega arith) in
    let other : (number_of_part part == total_of part) ≡ false = ne_eqb (number_of_part part) (total_of part) (λ e. absurd (omega arith)) in
    let kept : KeepsOpen (Some (begun_by part)) (Some (part ∷ [])) = (refl, refl, refl, sym (append-nil (part_bits part))) in record {
      joined = first_joined found part first ∙ sym (joined_when part (last_of (number_of_part part) (parts ++ part ∷ [])) true false run other);
      keeps = rw (first_run found part first, open_when parts part true true run below, looked) kept;
    }

-- a part that continues nothing
off_joined : (found : Option Begun) (part : Taken) → (number_of_part part == 1) ≡ false → awaited found part ≡ false → joined_by found part ≡ Orphan
unfolding awaited
off_joined None part e w = cond-false _ Waiting Orphan e
off_joined (Some run) part e w = cond-false _ Waiting (joined_on run part) e ∙ cond-false _ (if nat_lt (number_of_part part) (total_of part) then Waiting else Message (run.bits ++ part_bits part)) Orphan w

off_keeps : (found : Option Begun) (part : Taken) → (number_of_part part == 1) ≡ false → awaited found part ≡ false → KeepsOpen (run_by found part) None
unfolding awaited
off_keeps None part e w = rw e tt
off_keeps (Some run) part e w = rw (e, w) refl

step_off : (found : Option Begun) (parts : List Taken) (part : Taken) → 2 ≤ number_of_part part → GoesOff found parts part → Steps found parts part
step_off found parts part two off =
    let other : (number_of_part part == 1) ≡ false = ne_eqb (number_of_part part) 1 (λ e. absurd (omega arith)) in record {
      joined = off_joined found part other off.awaited_not ∙ sym (joined_when part (last_of (number_of_part part) (parts ++ part ∷ [])) false (number_of_part part == total_of part) off.run_not refl);
      keeps = subst (KeepsOpen (run_by found part)) (sym (open_when parts part false (nat_lt (number_of_part part) (total_of part)) off.run_not refl)) (off_keeps found part other off.awaited_not);
    }

-- a part that continues the open message
joined_more : (first : Taken) (others : List Taken) (part : Taken) → joined_bits (first ∷ (others ++ part ∷ [])) ≡ joined_bits (first ∷ others) ++ part_bits part
joined_more first others part =
    flat_map-append part_bits (first ∷ others) (part ∷ []) ∙ ap (λ (bits : List Bool). joined_bits (first ∷ others) ++ bits) (append-nil (part_bits part))

on_step : (run : Begun) (parts : List Taken) (part first : Taken) (others : List Taken) → (number_of_part part == 1) ≡ false → number_of_part part ≤ total_of part
    → awaits run part ≡ true → Keeps run (first ∷ others) → last_of (number_of_part part) (parts ++ part ∷ []) ≡ first ∷ (others ++ part ∷ [])
    → is_run (last_of (number_of_part part) (parts ++ part ∷ [])) ≡ true → Steps (Some run) parts part
on_step run parts part first others other within awaits_so keeps whole run_so = by_end (nat_lt (number_of_part part) (total_of part)) refl
  where
    looked : List Taken
    looked = last_of (number_of_part part) (parts ++ part ∷ [])

    joined_is : joined_by (Some run) part ≡ (if nat_lt (number_of_part part) (total_of part) then Waiting else Message (run.bits ++ part_bits part))
    joined_is =
        cond-false _ Waiting (joined_on run part) other
        ∙ cond-true _ (if nat_lt (number_of_part part) (total_of part) then Waiting else Message (run.bits ++ part_bits part)) Orphan awaits_so

    bits_are : joined_bits looked ≡ run.bits ++ part_bits part
    bits_are = ap joined_bits whole ∙ joined_more first others part ∙ ap (λ (bits : List Bool). bits ++ part_bits part) (sym keeps.3)

    number_is : number_of_part part ≡ length (first ∷ (others ++ part ∷ []))
    number_is = run_last (first ∷ others) part (ap is_run (sym whole) ∙ run_so)

    by_end : (b : Bool) → nat_lt (number_of_part part) (total_of part) ≡ b → Steps (Some run) parts part
    by_end true below =
        let not_last : (number_of_part part == total_of part) ≡ false = ne_eqb (number_of_part part) (total_of part) (λ e. absurd (omega (arith, ltb-true (number_of_part part) (total_of part) below))) in
        let kept : KeepsOpen (Some (record run { count = number_of_part part; bits = run.bits ++ part_bits part })) (Some (first ∷ (others ++ part ∷ [])))
        = (number_is, keeps.1, keeps.2, sym (ap joined_bits (sym whole) ∙ bits_are)) in record {
          joined = joined_is ∙ cond-true _ Waiting (Message (run.bits ++ part_bits part)) below ∙ sym (joined_when part looked true false run_so not_last);
          keeps = rw (other, awaits_so, below, open_when parts part true true run_so below, whole) kept;
        }
    by_end false past =
        let last_so : (number_of_part part == total_of part) ≡ true = eq-eqb (number_of_part part) (total_of part) (omega (arith, ltb-false (number_of_part part) (total_of part) past)) in record {
          joined =
              joined_is
              ∙ cond-false _ Waiting (Message (run.bits ++ part_bits part)) past
              ∙ ap Message (sym bits_are)
              ∙ sym (joined_when part looked true true run_so last_so);
          keeps = rw (other, awaits_so, past, open_when parts part true false run_so past) refl;
        }

pub steps : (found : Option Begun) (parts : List Taken) (part : Taken) → KeepsOpen found (open_parts parts) → 1 ≤ number_of_part part → number_of_part part ≤ total_of part → 1 < total_of part
    → Steps found parts part
unfolding awaited
steps found parts part keeps some within more =
    elim (cases_eq (number_of_part part) 1) [
      | inl one ↦ step_first found parts part one more
      | inr others ↦
          let two : 2 ≤ number_of_part part = omega arith in
          let other : (number_of_part part == 1) ≡ false = ne_eqb (number_of_part part) 1 others in
          elim (goes found parts part keeps two within) [
            | inl on ↦
                subst (λ (f : Option Begun). Steps f parts part) (sym on.found_is)
                (on_step on.run parts part on.first on.others other within (ap (λ (f : Option Begun). awaited f part) (sym on.found_is) ∙ on.awaited_so) on.keeps on.whole on.run_so)
            | inr off ↦ step_off found parts part two off
          ]
    ]

-- ---- a whole message is closed

waiting_no_message : {bits : List Bool} → Waiting ≡ Message bits → ⊥
waiting_no_message e = cc

orphan_no_message : {bits : List Bool} → Orphan ≡ Message bits → ⊥
orphan_no_message e = cc

pub closed_run : (front : List Taken) (last next : Taken) → number_of_part last ≡ total_of last → 2 ≤ number_of_part next → number_of_part next ≤ total_of next
    → is_run (last_of (number_of_part next) ((front ++ last ∷ []) ++ next ∷ [])) ≡ false
closed_run front last next whole two within = by_run (is_run looked) refl
  where
    looked : List Taken
    looked = last_of (number_of_part next) ((front ++ last ∷ []) ++ next ∷ [])

    by_run : (b : Bool) → is_run looked ≡ b → is_run looked ≡ false
    by_run false run = run
    by_run true run =
        let j = from_two (number_of_part next) two in
        let head = head_view (last_of j.0 front) last in
        let parts = last_of j.0 front ++ last ∷ [] in
        let whole_run : looked ≡ head.0 ∷ (head.1 ++ next ∷ []) = looked_at front last next j.0 j.1 ∙ ap (λ (l : List Taken). l ++ next ∷ []) head.2 in
        let both = run_parts head.0 head.1 next (ap is_run (sym whole_run) ∙ run) in
        let size : length parts ≡ length (head.0 ∷ head.1) = ap length head.2 in
        let last_number : number_of_part last ≡ length parts = run_last (last_of j.0 front) last (ap is_run head.2 ∙ both.0) in
        let last_total : total_of last ≡ total_of head.0 = run_total head.0 head.1 (last_of j.0 front) last (sym head.2) both.0 in
        let next_total = both.1.total in
        let next_number = both.1.number in
        absurd (omega arith)

-- a sentence of several that completes a message has the number of its total
pub last_number : (last : Taken) (run : List Taken) (bits : List Bool) → joined_run last run ≡ Message bits → number_of_part last ≡ total_of last
unfolding joined_run
last_number last run bits e = by_tests (is_run run) (number_of_part last == total_of last) refl e
  where
    by_tests : (r b : Bool) → (number_of_part last == total_of last) ≡ b → (if r then (if b then Message (joined_bits run) else Waiting) else Orphan) ≡ Message bits → number_of_part last ≡ total_of last
    by_tests true true h e = eqb-true (number_of_part last) (total_of last) h
    by_tests true false h e = absurd (waiting_no_message e)
    by_tests false b h e = absurd (orphan_no_message e)

pub orphan_run : (last : Taken) (run : List Taken) → is_run run ≡ false → joined_run last run ≡ Orphan
orphan_run last run e = joined_when last run false (number_of_part last == total_of last) e refl
