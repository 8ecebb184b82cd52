-- What tables without a fault predict lies in its ranges.
use Rattle.std.proofs.Common.{◌≡◌, ◌≢◌, ℕ, zero, suc, ◌≤◌, ◌<◌, ◌%◌, ◌==◌, ◌&&◌, ◌||◌, nat_le, Bool, true, false, if◌then◌else◌, ℤ, pos, negsuc, ◌≤ℤ◌, int_le, List, [], ◌∷◌, ◌++◌, map, length, take, Option, Some, None, refl, ap, sym, ◌∙◌, subst, All, arith}
use Rattle.std.specs.Prelude.{AllPairs, codes, int_lt, slice_index_or, unsigned_abs, ◌<ℤ◌}
use Rattle.std.specs.List.{list_all, list_any}
use Rattle.std.proofs.lemmas.Bool.{and_parts}
use Rattle.std.proofs.lemmas.Bool.Decides.{nat_tests}
use Rattle.std.proofs.lemmas.Int.{ints}
use Rattle.std.proofs.lemmas.List.{length-map}
use Rattle.std.proofs.lemmas.List.Elements.{All-cons, All-map}
use Rattle.std.proofs.lemmas.List.Kept.{AllPairs-cons}
use Rattle.toml.specs.Data.{Data, Items, as_array, as_integer}
use Rattle.toml.specs.View.{items_view, view}
use Rattle.toml.specs.declared.value.Value.{Value}
use Rattle.scenario_keys.specs.FirstFaults.{with_before}
use Rattle.scenario_keys.specs.FirstOf.{first_of}
use Rattle.scenario_keys.specs.IntegerFaults.{integer_cause, is_multiple, is_in_bounds, number_cause}
use Rattle.scenario_keys.specs.KeyValues.{array_in, integer_found, list_in, member_at, natural_of}
use Rattle.scenario_keys.specs.ListFaults.{elements, is_integer_list}
use Rattle.scenario_keys.specs.ToldFaults.{fault_by_at, item_of}
use Rattle.scenario_keys.specs.declared.cause.Cause.{Cause}
use Rattle.scenario_keys.specs.declared.cause.Cause.TheVariants as cause
use Rattle.scenario_keys.specs.declared.key.Key.{Key}
use Rattle.scenario_keys.proofs.ForCallers.{all_head, all_none, all_tail}
use Rattle.predictions.proofs.Lists.{all_seen, mapped_seen}
use Rattle.predictions.specs.PredictFaults.{after_of, are_changes, are_on_ticks, array_cause, ascend, ascend_from, changes_cause, is_change_of, is_from_0_to, is_ship_taken, list_cause, predicted_mmsi, new_cause, change_numbers_at, predict_fault, ship_cause, ships, table_fault, HaveNoFault}
use Rattle.predictions.specs.PredictValues.{change_of, predicted_changes, predict_of, predictions_of, ArePredictions, AreTimed}
use Rattle.predictions.specs.Inner.{AreReadable, IsReadable}
use Rattle.predictions.specs.declared.changes.Change.{Change}
use Rattle.predictions.specs.declared.changes.ChangeNumbers.{ChangeNumbers}
use Rattle.predictions.specs.declared.predictions.Predict.{Predict}

-- a table passes, by those before it

record Passes (tick own : ℕ) (before : List Data) (here : Data) : Type 0 where
  ship : number_cause ships (member_at (codes "mmsi") here) ≡ None
  new : is_ship_taken own before (predicted_mmsi here) ≡ false
  changes : changes_cause tick (member_at (codes "changes") here) ≡ None

first_more : {A : Type 0} (a : Option A) (rest : List (Option A)) → first_of (a ∷ rest) ≡ None → (a ≡ None) × (first_of rest ≡ None)
first_more None rest h = (refl, h)
first_more (Some a) rest h = absurd (cc)

no_cause : (row item : ℕ) (why : Option Cause) → fault_by_at row item why ≡ None → why ≡ None
no_cause row item None h = refl
no_cause row item (Some why) h = cc

new_parts : (taken : Bool) (why : Option Cause) → new_cause taken why ≡ None → (why ≡ None) × (taken ≡ false)
new_parts taken (Some why) h = absurd (cc)
new_parts true None h = absurd (cc)
new_parts false None h = (refl, refl)

passes : (tick own : ℕ) (before : List Data) (here : Data) → table_fault tick own (before, here) ≡ None → Passes tick own before here
unfolding table_fault
passes tick own before here h =
    let item = item_of (length before) in
    let ship = member_at (codes "mmsi") here in
    let changes = member_at (codes "changes") here in
    let (a, b) = first_more (fault_by_at 46 item (ship_cause own before ship)) (fault_by_at 47 item (changes_cause tick changes) ∷ []) h in
    let (c, d) = first_more (fault_by_at 47 item (changes_cause tick changes)) [] b in
    let (s, n) = new_parts (is_ship_taken own before (predicted_mmsi here)) (number_cause ships ship) (no_cause 46 item (ship_cause own before ship) a) in
    record { ship = s; new = n; changes = no_cause 47 item (changes_cause tick changes) c }

append_nil : {A : Type 0} (a : List A) → a ++ [] ≡ a
append_nil [] = refl
append_nil (x ∷ a) = ap (λ l. x ∷ l) (append_nil a)

append_one : {A : Type 0} (a : List A) (x : A) (b : List A) → (a ++ x ∷ []) ++ b ≡ a ++ x ∷ b
append_one [] x b = refl
append_one (y ∷ a) x b = ap (λ l. y ∷ l) (append_one a x b)

none_behind : (test : List Data × Data → Option (Key × Cause)) (front l : List Data) → first_of (map test (with_before front l)) ≡ None →
    (k : ℕ) (d : Data) → k < length l → test (front ++ take k l, slice_index_or l k d) ≡ None
none_behind test front [] h k d lt = absurd (omega arith)
none_behind test front (x ∷ l) h zero d lt =
    let (a, b) = first_more (test (front, x)) (map test (with_before (front ++ x ∷ []) l)) h in
    subst (λ f. test (f, x) ≡ None) (sym (append_nil front)) a
none_behind test front (x ∷ l) h (suc k) d lt =
    let (a, b) = first_more (test (front, x)) (map test (with_before (front ++ x ∷ []) l)) h in
    subst (λ f. test (f, slice_index_or l k d) ≡ None) (append_one front x (take k l)) (none_behind test (front ++ x ∷ []) l b k d (omega arith))

all_pass : (tick own : ℕ) (tables : List Data) → predict_fault tick own tables ≡ None → (k : ℕ) (d : Data) → k < length tables →
    Passes tick own (take k tables) (slice_index_or tables k d)
unfolding predict_fault
all_pass tick own tables h k d lt = passes tick own (take k tables) (slice_index_or tables k d) (none_behind (table_fault tick own) [] tables h k d lt)

from_map : {A B : Type 0} (P : B → Type 0) (f : A → B) (l : List A) → All P (map f l) → All (λ a. P (f a)) l
from_map P f [] h = all_none (λ a. P (f a))
from_map P f (a ∷ l) h = All-cons (λ a. P (f a)) a l (all_head P (f a) (map f l) h) (from_map P f l (all_tail P (f a) (map f l) h))

pub readable : (values : List Value) → HaveNoFault (map view values) → All (λ v. IsReadable (view v)) values
readable values (tick, own, h) =
    from_map IsReadable view values
    (λ k d lt. let p = all_pass tick own (map view values) h k d lt in record { ship = p.ship; changes = (tick, p.changes) })

-- ships

within_of : (z : ℤ) → integer_cause ships (Some z) ≡ None → is_in_bounds ships z ≡ true
within_of z h =
    let cause_by : Bool → Option Cause = λ b. if b then (if is_multiple 1 z then None else Some cause.Multiple) else Some cause.Range in
    elim (is_in_bounds ships z) as (λ b. cause_by b ≡ None → b ≡ true) [
      | true ↦ λ e. refl
      | false ↦ λ e. cc
    ] h

int_le-true : (x y : ℤ) → int_le x y ≡ true → x ≤ℤ y
int_le-true x y h = grind (arith, ints)

natural_between : (low high : ℕ) (z : ℤ) → pos low ≤ℤ z → z ≤ℤ pos high → (low ≤ natural_of (Some z)) × (natural_of (Some z) ≤ high)
natural_between low high (pos n) h k = (omega (arith, ints), omega (arith, ints))
natural_between low high (negsuc n) h k = absurd (omega (arith, ints))

ship_between : (found : Option Data) → number_cause ships found ≡ None →
    (200000000 ≤ natural_of (integer_found found)) × (natural_of (integer_found found) ≤ 799999999)
ship_between None h = absurd (cc)
ship_between (Some found) h =
    elim (as_integer found) as (λ n. integer_cause ships n ≡ None → (200000000 ≤ natural_of n) × (natural_of n ≤ 799999999)) [
      | None ↦ λ e. absurd (cc)
      | Some z ↦ λ e. (
          let (a, b) = and_parts (int_le (pos 200000000) z) (int_le z (pos 799999999)) (within_of z e) in
          natural_between 200000000 799999999 z (int_le-true (pos 200000000) z a) (int_le-true z (pos 799999999) b))
    ] h

neither : (a b : Bool) → (a || b) ≡ false → (a ≡ false) × (b ≡ false)
neither true b h = absurd (cc)
neither false b h = (refl, h)

apart : (a b : ℕ) → (a == b) ≡ false → a ≢ b
apart a b h e = grind (arith, nat_tests)

other_inside : (mmsi : ℕ) (front : List Data) (here : Data) (rest : List Data) → list_any (λ taken. taken == mmsi) (map predicted_mmsi (front ++ here ∷ rest)) ≡ false →
    (predicted_mmsi here == mmsi) ≡ false
other_inside mmsi [] here rest h = (neither (predicted_mmsi here == mmsi) (list_any (λ taken. taken == mmsi) (map predicted_mmsi rest)) h).0
other_inside mmsi (x ∷ front) here rest h =
    other_inside mmsi front here rest (neither (predicted_mmsi x == mmsi) (list_any (λ taken. taken == mmsi) (map predicted_mmsi (front ++ here ∷ rest))) h).1

AreNew : ℕ → List Data → List Data → Type 0
AreNew own front l = (k : ℕ) (d : Data) → k < length l → is_ship_taken own (front ++ take k l) (predicted_mmsi (slice_index_or l k d)) ≡ false

new_behind : (own : ℕ) (front : List Data) (x : Data) (l : List Data) → AreNew own front (x ∷ l) → AreNew own (front ++ x ∷ []) l
unfolding AreNew
new_behind own front x l h = λ k d lt. subst (λ f. is_ship_taken own f (predicted_mmsi (slice_index_or l k d)) ≡ false) (sym (append_one front x (take k l))) (h (suc k) d (omega arith))

differs_behind : (own : ℕ) (front : List Data) (x : Data) (l : List Data) → AreNew own front (x ∷ l) → All (λ t. predicted_mmsi x ≢ predicted_mmsi t) l
unfolding AreNew
differs_behind own front x l h = λ k d lt.
    let mmsi = predicted_mmsi (slice_index_or l k d) in
    let (a, b) = neither (own == mmsi) (list_any (λ taken. taken == mmsi) (map predicted_mmsi (front ++ x ∷ take k l))) (h (suc k) d (omega arith)) in
    apart (predicted_mmsi x) mmsi (other_inside mmsi front x (take k l) b)

all_different : (own : ℕ) (front l : List Data) → AreNew own front l → AllPairs (λ (p q : Predict). p.mmsi ≢ q.mmsi) (map predict_of l)
all_different own front [] h = λ i j d a b. absurd (omega arith)
all_different own front (x ∷ l) h =
    AllPairs-cons (λ (p q : Predict). p.mmsi ≢ q.mmsi) (predict_of x) (map predict_of l)
    (All-map (λ (q : Predict). predicted_mmsi x ≢ q.mmsi) predict_of l (differs_behind own front x l h))
    (all_different own (front ++ x ∷ []) l (new_behind own front x l h))

-- changes

causes : (a b c : Bool) → (if a then (if b then (if c then None else Some cause.Multiple) else Some cause.Range) else Some cause.Type_) ≡ None →
    (a ≡ true) × (b ≡ true) × (c ≡ true)
causes true true true h = (refl, refl, refl)
causes true true false h = absurd (cc)
causes true false c h = absurd (cc)
causes false b c h = absurd (cc)

all_passed : (p : Data → Bool) (list : List Data) → list_all p list ≡ true → All (λ d. p d ≡ true) list
all_passed p [] h = all_none (λ d. p d ≡ true)
all_passed p (x ∷ list) h =
    let (a, b) = and_parts (p x) (list_all p list) h in All-cons (λ d. p d ≡ true) x list a (all_passed p list b)

from_0 : (most : ℕ) (z : ℤ) → is_from_0_to most z ≡ true → (0 ≤ natural_of (Some z)) × (natural_of (Some z) ≤ most)
from_0 most z h =
    let (a, b) = and_parts (int_le (pos 0) z) (int_le z (pos most)) h in
    natural_between 0 most z (int_le-true (pos 0) z a) (int_le-true z (pos most) b)

record Held (n : ChangeNumbers) : Type 0 where
  after : is_from_0_to 7200 n.after ≡ true
  course : is_from_0_to 3599 n.course ≡ true
  speed : is_from_0_to 1022 n.speed ≡ true

held : (n : ChangeNumbers) → is_change_of (Some n) ≡ true → Held n
held n h =
    let (a, b) = and_parts (is_from_0_to 7200 n.after) (is_from_0_to 3599 n.course && is_from_0_to 1022 n.speed) h in
    let (c, d) = and_parts (is_from_0_to 3599 n.course) (is_from_0_to 1022 n.speed) b in
    record { after = a; course = c; speed = d }

zero_tested : (n : ℕ) → (n == 0) ≡ true → n ≡ 0
zero_tested n h = grind (arith, nat_tests)

whole : (tick : ℕ) (z : ℤ) → is_from_0_to 7200 z ≡ true → unsigned_abs z % tick ≡ 0 → natural_of (Some z) % tick ≡ 0
whole tick (pos n) h e = e
whole tick (negsuc n) h e = absurd (cc)

after_held : (tick : ℕ) (n : Option ChangeNumbers) → is_change_of n ≡ true → (unsigned_abs (after_of n) % tick == 0) ≡ true →
    ((change_of n).after ≤ 7200) × ((change_of n).after % tick ≡ 0)
after_held tick None h e = absurd (cc)
after_held tick (Some n) h e = ((from_0 7200 n.after (held n h).after).1, whole tick n.after (held n h).after (zero_tested (unsigned_abs n.after % tick) e))

course_held : (n : Option ChangeNumbers) → is_change_of n ≡ true → (change_of n).course ≤ 3599
course_held None h = absurd (cc)
course_held (Some n) h = (from_0 3599 n.course (held n h).course).1

speed_held : (n : Option ChangeNumbers) → is_change_of n ≡ true → (change_of n).speed ≤ 1022
speed_held None h = absurd (cc)
speed_held (Some n) h = (from_0 1022 n.speed (held n h).speed).1

int_lt-true : (x y : ℤ) → int_lt x y ≡ true → x <ℤ y
int_lt-true x y h = grind (arith, ints)

lt_trans : (x y z : ℤ) → x <ℤ y → y <ℤ z → x <ℤ z
lt_trans x y z h k = omega (arith, ints)

natural_less : (x y : ℤ) → is_from_0_to 7200 x ≡ true → x <ℤ y → natural_of (Some x) < natural_of (Some y)
natural_less (pos m) (pos n) h k = omega (arith, ints)
natural_less (pos m) (negsuc n) h k = absurd (omega (arith, ints))
natural_less (negsuc m) y h k = absurd (cc)

later : (m n : Option ChangeNumbers) → is_change_of m ≡ true → is_change_of n ≡ true → after_of m <ℤ after_of n → (change_of m).after < (change_of n).after
later None n h k lt = absurd (cc)
later (Some m) None h k lt = absurd (cc)
later (Some m) (Some n) h k lt = natural_less m.after n.after (held m h).after lt

abbrev time_of : Data → ℤ
time_of d = after_of (change_numbers_at d)

abbrev change_in : Data → Change
change_in d = change_of (change_numbers_at d)

all_exceed : (least : ℤ) (list : List Data) → ascend_from least (map time_of list) ≡ true → All (λ d. least <ℤ time_of d) list
all_exceed least [] h = all_none (λ d. least <ℤ time_of d)
all_exceed least (x ∷ list) h =
    let (a, b) = and_parts (int_lt least (time_of x)) (ascend_from (time_of x) (map time_of list)) h in
    let lt = int_lt-true least (time_of x) a in
    let rest = all_exceed (time_of x) list b in
    All-cons (λ d. least <ℤ time_of d) x list lt (λ k d le. lt_trans least (time_of x) (time_of (slice_index_or list k d)) lt (rest k d le))

ordered_from : (least : ℤ) (list : List Data) → ascend_from least (map time_of list) ≡ true → All (λ d. is_change_of (change_numbers_at d) ≡ true) list →
    AllPairs (λ (c d : Change). c.after < d.after) (map change_in list)
ordered_from least [] h all = λ i j d a b. absurd (omega arith)
ordered_from least (x ∷ list) h all =
    let (a, b) = and_parts (int_lt least (time_of x)) (ascend_from (time_of x) (map time_of list)) h in
    let first = all_head (λ d. is_change_of (change_numbers_at d) ≡ true) x list all in
    let rest = all_tail (λ d. is_change_of (change_numbers_at d) ≡ true) x list all in
    let exceed = all_exceed (time_of x) list b in
    AllPairs-cons (λ (c d : Change). c.after < d.after) (change_in x) (map change_in list)
    (All-map (λ (d : Change). (change_in x).after < d.after) change_in list
    (λ k d lt. later (change_numbers_at x) (change_numbers_at (slice_index_or list k d)) first (rest k d lt) (exceed k d lt)))
    (ordered_from (time_of x) list b rest)

ordered : (list : List Data) → ascend (map time_of list) ≡ true → All (λ d. is_change_of (change_numbers_at d) ≡ true) list →
    AllPairs (λ (c d : Change). c.after < d.after) (map change_in list)
ordered [] h all = λ i j d a b. absurd (omega arith)
ordered (x ∷ list) h all =
    let first = all_head (λ d. is_change_of (change_numbers_at d) ≡ true) x list all in
    let rest = all_tail (λ d. is_change_of (change_numbers_at d) ≡ true) x list all in
    let exceed = all_exceed (time_of x) list h in
    AllPairs-cons (λ (c d : Change). c.after < d.after) (change_in x) (map change_in list)
    (All-map (λ (d : Change). (change_in x).after < d.after) change_in list
    (λ k d lt. later (change_numbers_at x) (change_numbers_at (slice_index_or list k d)) first (rest k d lt) (exceed k d lt)))
    (ordered_from (time_of x) list h rest)

nat_le-true : (m n : ℕ) → nat_le m n ≡ true → m ≤ n
nat_le-true m n h = grind (arith, nat_tests)

list_timed : (tick : ℕ) (list : List Data) → list_cause tick list ≡ None → AreTimed tick (map change_in list)
unfolding list_cause
list_timed tick list h =
    let (t, r, m) = causes (list_all is_integer_list list) (are_changes list) (are_on_ticks tick list) h in
    let (l, c) = and_parts (nat_le 1 (length list) && nat_le (length list) 16)
    (list_all (λ found. is_change_of (change_numbers_at found)) list && ascend (map time_of list)) r in
    let (low, high) = and_parts (nat_le 1 (length list)) (nat_le (length list) 16) l in
    let (each, order) = and_parts (list_all (λ found. is_change_of (change_numbers_at found)) list) (ascend (map time_of list)) c in
    let changes = all_passed (λ found. is_change_of (change_numbers_at found)) list each in
    let ticks = all_passed (λ found. unsigned_abs (time_of found) % tick == 0) list m in
    let many = length-map list change_in in
    let some = nat_le-true 1 (length list) low in
    let few = nat_le-true (length list) 16 high in
    record {
      some = omega arith;
      few = omega arith;
      after = All-map (λ (c : Change). (c.after ≤ 7200) × (c.after % tick ≡ 0)) change_in list
          (λ k d lt. after_held tick (change_numbers_at (slice_index_or list k d)) (changes k d lt) (ticks k d lt));
      course = All-map (λ (c : Change). c.course ≤ 3599) change_in list (λ k d lt. course_held (change_numbers_at (slice_index_or list k d)) (changes k d lt));
      speed = All-map (λ (c : Change). c.speed ≤ 1022) change_in list (λ k d lt. speed_held (change_numbers_at (slice_index_or list k d)) (changes k d lt));
      order = ordered list order changes;
    }

timed : (tick : ℕ) (found : Option Data) → changes_cause tick found ≡ None → AreTimed tick (predicted_changes found)
timed tick None h = absurd (cc)
timed tick (Some found) h =
    elim (as_array found) as (λ a. array_cause tick a ≡ None → AreTimed tick (map change_in (list_in a))) [
      | None ↦ λ e. absurd (cc)
      | Some items ↦ λ e. list_timed tick (elements items) e
    ] h

-- the same of the values of an array

list_held : (tick : ℕ) (list : List Data) → list_cause tick list ≡ None → list_all (λ found. is_change_of (change_numbers_at found)) list ≡ true
unfolding list_cause
list_held tick list h =
    let (t, r, m) = causes (list_all is_integer_list list) (are_changes list) (are_on_ticks tick list) h in
    let (l, c) = and_parts (nat_le 1 (length list) && nat_le (length list) 16)
    (list_all (λ found. is_change_of (change_numbers_at found)) list && ascend (map time_of list)) r in
    (and_parts (list_all (λ found. is_change_of (change_numbers_at found)) list) (ascend (map time_of list)) c).0

array_held : (tick : ℕ) (array : Option Items) (values : List Value) → array_cause tick array ≡ None → Some (items_view values) ≡ array →
    list_all (λ v. is_change_of (change_numbers_at (view v))) values ≡ true
array_held tick None values h e = absurd (cc)
array_held tick (Some items) values h e =
    let same : items_view values ≡ items = cc in
    sym (all_seen (λ found. is_change_of (change_numbers_at found)) values)
    ∙ list_held tick (elements (items_view values)) (subst (λ (i : Items). list_cause tick (elements i) ≡ None) (sym same) h)

pub changes_held : (found : Option Data) (values : List Value) → AreReadable found → Some (items_view values) ≡ array_in found →
    list_all (λ v. is_change_of (change_numbers_at (view v))) values ≡ true
changes_held None values (tick, h) e = absurd (cc)
changes_held (Some found) values (tick, h) e = array_held tick (as_array found) values h e

pub changes_are : (found : Option Data) (values : List Value) → Some (items_view values) ≡ array_in found →
    map (λ v. change_of (change_numbers_at (view v))) values ≡ predicted_changes found
changes_are found values e =
    sym (mapped_seen change_in values) ∙ ap (λ a. map change_in (list_in a)) e

-- all together

pub in_range : (tick own : ℕ) (tables : List Data) → length tables ≤ 64 → predict_fault tick own tables ≡ None → ArePredictions tick own (predictions_of tables)
unfolding AreNew
in_range tick own tables few h =
    let pass = all_pass tick own tables h in
    let many = length-map tables predict_of in
    record {
      few = omega arith;
      ships = All-map (λ (p : Predict). (200000000 ≤ p.mmsi) × (p.mmsi ≤ 799999999)) predict_of tables
          (λ k d lt. ship_between (member_at (codes "mmsi") (slice_index_or tables k d)) (pass k d lt).ship);
      others = All-map (λ (p : Predict). p.mmsi ≢ own) predict_of tables
          (λ k d lt e. apart own (predicted_mmsi (slice_index_or tables k d))
          (neither (own == predicted_mmsi (slice_index_or tables k d)) (list_any (λ taken. taken == predicted_mmsi (slice_index_or tables k d)) (map predicted_mmsi (take k tables))) (pass k d lt).new).0
          (sym e));
      different = all_different own [] tables (λ k d lt. (pass k d lt).new);
      changes = All-map (λ (p : Predict). AreTimed tick p.changes) predict_of tables
          (λ k d lt. timed tick (member_at (codes "changes") (slice_index_or tables k d)) (pass k d lt).changes);
    }
