-- The elements of a list without a fault.
use Rattle.std.proofs.Common.{Vec, Global, IfOk, ◌≡◌, ℕ, ◌≤◌, suc, nat_le, not, ℤ, pos, negsuc, ◌≤ℤ◌, int_le, ◌&&◌, List, [], ◌∷◌, map, length, All, MatchOption, Bool, true, false, if◌then◌else◌, Option, Some, None, Result, Ok, Err, refl, ap, sym, ◌∙◌, subst, arith}
use Rattle.std.specs.Prelude.{slice_index_or, unsigned_abs, neg_ℤ}
use Rattle.std.specs.Option.{option_map_or, is_none}
use Rattle.std.specs.List.{position, position_or_len}
use Rattle.std.proofs.lemmas.Int.{ints}
use Rattle.std.proofs.lemmas.Bool.{and_parts}
use Rattle.std.proofs.lemmas.Bool.Decides.{nat_tests}
use Rattle.std.proofs.lemmas.List.{length-map}
use Rattle.std.proofs.lemmas.List.Elements.{All-cons, All-map}
use Rattle.toml.specs.Data.{Data, Items, Members, as_array, as_integer, get_member}
use Rattle.toml.specs.View.{view, items_view}
use Rattle.toml.specs.declared.value.Value.{Value}
use Rattle.scenario_keys.specs.FirstOf.{first_of}
use Rattle.scenario_keys.specs.ListFaults.{array_fault, at_item, elements, elements_fault, is_in_range, is_no_integer, is_no_table, is_out_of_range, length_fault, list_fault, table_array_fault, tables_fault, tables_fault_in}
use Rattle.scenario_keys.specs.KeyValues.{array_in, found_in, integer_of, list_at, list_in, natural_of, table_at}
use Rattle.scenario_keys.specs.ToldFaults.{fault_listed}
use Rattle.scenario.specs.KeyFaults.{basis_of, fault_in}
use Rattle.scenario.specs.Shapes.{shape_fault}
use Rattle.scenario.specs.Inner.NoFaults.{HaveNoFault}
use Rattle.scenario.specs.Inner.KnownKeys.{fewest_in, fewest_of, high_in, kind_at, list_range_at, list_range_in, lists_lie_in, longest_in, low_in}
use Rattle.scenario.specs.Inner.WithinBounds.{IsWithin}
use Rattle.scenario.specs.declared.basis.Basis.{Basis}
use Rattle.scenario_keys.specs.declared.cause.Cause.{Cause}
use Rattle.scenario_keys.specs.declared.cause.Cause.TheVariants as cause
use Rattle.scenario_keys.specs.declared.rows.ListRange.{ListRange}
use Rattle.scenario_keys.specs.declared.rows.Kind.{Kind}
use Rattle.scenario_keys.specs.declared.rows.Kind.TheVariants as kind
use Rattle.scenario_keys.proofs.Elements.{mapped_seen, seen_elements}
use Rattle.scenario.proofs.Held.{faultless_at, natural_from, natural_to}

-- no element passes if none is first

pub no_position : {A : Type 0} (p : A → Bool) (l : List A) → position p l ≡ None → length l ≤ position_or_len p l
no_position p l h = grind (arith, nat_tests)

ahead_true : (p : Data → Bool) (d : Data) (l : List Data) → p d ≡ true → length (d ∷ l) ≤ position_or_len p (d ∷ l) → ⊥
ahead_true p d l e h = let z : position_or_len p (d ∷ l) ≡ 0 = rw e in omega arith

ahead_false : (p : Data → Bool) (d : Data) (l : List Data) → p d ≡ false → length (d ∷ l) ≤ position_or_len p (d ∷ l) → length l ≤ position_or_len p l
ahead_false p d l e h = let z : position_or_len p (d ∷ l) ≡ suc (position_or_len p l) = rw e (omega arith) in omega arith

cases_of : (b : Bool) (P : Type 0) → (b ≡ true → P) → (b ≡ false → P) → P
cases_of true P f g = f refl
cases_of false P f g = g refl

all_by : (p q : Data → Bool) (P : Data → Type 0) → ((d : Data) → p d ≡ false → q d ≡ false → P d) →
    (l : List Data) → length l ≤ position_or_len p l → length l ≤ position_or_len q l → All P l
all_by p q P h [] m n = λ k d lt. absurd (omega arith)
all_by p q P h (d ∷ l) m n =
    cases_of (p d) (All P (d ∷ l))
    (λ e. absurd (ahead_true p d l e m))
    (λ e. cases_of (q d) (All P (d ∷ l))
    (λ f. absurd (ahead_true q d l f n))
    (λ f. All-cons P d l (h d e f) (all_by p q P h l (ahead_false p d l e m) (ahead_false q d l f n))))

-- the parts of a list's test

pub first_two : {A : Type 0} (a b : Option A) (rest : List (Option A)) → first_of (a ∷ b ∷ rest) ≡ None → (a ≡ None) × (first_of (b ∷ rest) ≡ None)
first_two None b rest h = (refl, h)
first_two (Some a) b rest h = cc

pub first_one : {A : Type 0} (a : Option A) → first_of (a ∷ []) ≡ None → a ≡ None
first_one None h = refl
first_one (Some a) h = cc

pub no_item : (c : Cause) (p : Option ℕ) → at_item c p ≡ None → p ≡ None
no_item c None h = refl
no_item c (Some p) h = cc

not_false : (b : Bool) → not b ≡ false → b ≡ true
not_false true h = refl
not_false false h = cc

int_le-true : (x y : ℤ) → int_le x y ≡ true → x ≤ℤ y
int_le-true x y h = grind (arith, ints)

within : (range : ListRange) (n : Option ℤ) → is_none n ≡ false → option_map_or (λ z. not (is_in_range range z)) n false ≡ false →
    MatchOption n ⊥ (λ n. (range.low ≤ℤ n) × (n ≤ℤ range.high))
within range None h k = cc
within range (Some z) h k =
    let (a, b) = and_parts (int_le range.low z) (int_le z range.high) (not_false (is_in_range range z) k) in
    (int_le-true range.low z a, int_le-true z range.high b)

pub record ListHolds (fewest most : ℕ) (low high : ℤ) (list : List Data) : Type 0 where
  pub from : fewest ≤ length list
  pub to : length list ≤ most
  pub all : All (IsWithin low high) list

pub length_held : (fewest most n : ℕ) → length_fault fewest most n ≡ None → (fewest ≤ n) × (n ≤ most)
length_held fewest most n h =
    cases_of (nat_le fewest n && nat_le n most) ((fewest ≤ n) × (n ≤ most))
    (λ e. (let (a, b) = and_parts (nat_le fewest n) (nat_le n most) e in (grind (arith, nat_tests), grind (arith, nat_tests))))
    (λ e. (let f : length_fault fewest most n ≡ Some (0, cause.Range) = rw e in cc))

pub elements_held : (range : ListRange) (list : List Data) → elements_fault range list ≡ None → ListHolds range.fewest range.most range.low range.high list
unfolding elements_fault
elements_held range list h =
    let (a, b) = first_two (at_item cause.Type_ (position is_no_integer list)) (length_fault range.fewest range.most (length list)) (at_item cause.Range (position (is_out_of_range range) list) ∷ []) h in
    let (c, d) = first_two (length_fault range.fewest range.most (length list)) (at_item cause.Range (position (is_out_of_range range) list)) [] b in
    let e = first_one (at_item cause.Range (position (is_out_of_range range) list)) d in
    let (f, g) = length_held range.fewest range.most (length list) c in
    record {
      from = f;
      to = g;
      all = all_by is_no_integer (is_out_of_range range) (IsWithin range.low range.high) (λ d e f. within range (as_integer d) e f) list
          (no_position is_no_integer list (no_item cause.Type_ (position is_no_integer list) a))
          (no_position (is_out_of_range range) list (no_item cause.Range (position (is_out_of_range range) list) e));
    }

-- what stands at a key whose list has no fault

unlisted : (row : ℕ) (fault : Option (ℕ × Cause)) → fault_listed row fault ≡ None → fault ≡ None
unlisted row None h = refl
unlisted row (Some (n, c)) h = cc

left_out : (range : ListRange) → list_fault range None ≡ None → range.is_optional ≡ true
left_out range h =
    cases_of range.is_optional (range.is_optional ≡ true)
    (λ e. e)
    (λ e. (let f : list_fault range None ≡ Some (0, cause.Missing) = rw e in cc))

fewest_below : (range : ListRange) → fewest_of range ≤ range.fewest
fewest_below range =
    elim range.is_optional as (λ b. (if b then 0 else range.fewest) ≤ range.fewest) [
      | true ↦ omega arith
      | false ↦ omega arith
    ]

array_held : (range : ListRange) (found : Option Data) → list_fault range found ≡ None → ListHolds (fewest_of range) range.most range.low range.high (list_in (array_in found))
array_held range None h =
    let e = left_out range h in
    let f : fewest_of range ≡ 0 = rw e in
    record { from = omega arith; to = omega arith; all = λ k d lt. absurd (omega arith) }
array_held range (Some found) h =
    elim (as_array found) as (λ a. array_fault range a ≡ None → ListHolds (fewest_of range) range.most range.low range.high (list_in a)) [
      | None ↦ λ e. cc
      | Some items ↦ λ e. (
          let held = elements_held range (elements items) e in
          let below = fewest_below range in
          let long = held.from in
          record { from = omega arith; to = held.to; all = held.all })
    ] h

pub list_uncaused : (basis : Basis) (row : ℕ) (name : List ℕ) (range : ListRange) (table : Result Members Cause) → fault_in basis row name (kind.Numbers range) table ≡ None →
    list_fault range (found_in name table) ≡ None
list_uncaused basis row name range (Err cause) h = cc
list_uncaused basis row name range (Ok table) h = unlisted row (list_fault range (get_member name table)) h

list_kind_is : (here : Option Kind) (range : ListRange) → list_range_in here ≡ Some range → here ≡ Some (kind.Numbers range)
list_kind_is None range h = cc
list_kind_is (Some (kind.Numbers this)) range h = let same : this ≡ range = cc in ap (λ (r : ListRange). Some (kind.Numbers r)) same
list_kind_is (Some (kind.Number of)) range h = cc
list_kind_is (Some (kind.Tables most)) range h = cc
list_kind_is (Some kind.Shape) range h = cc
list_kind_is (Some kind.Plans) range h = cc
list_kind_is (Some kind.FormulaName) range h = cc
list_kind_is (Some kind.FormulaText) range h = cc
list_kind_is (Some kind.Formulas) range h = cc
list_kind_is (Some kind.PredictedShip) range h = cc
list_kind_is (Some kind.PredictedChanges) range h = cc
list_kind_is (Some kind.Document) range h = cc

list_held_by : (need_own : Bool) (document : Members) (table name : List ℕ) (range : ListRange) → list_range_at (basis_of need_own document) table name ≡ Some range → HaveNoFault need_own document →
    ListHolds (fewest_of range) range.most range.low range.high (list_at table name document)
unfolding list_at
list_held_by need_own document table name range is faultless =
    let h = faultless_at need_own document table name (kind.Numbers range) (list_kind_is (kind_at (basis_of need_own document) table name) range is) faultless in
    array_held range (found_in name (table_at table document)) (list_uncaused (basis_of need_own document) h.number name range (table_at table document) h.faultless)

≤ℤ_trans : (x y z : ℤ) → x ≤ℤ y → y ≤ℤ z → x ≤ℤ z
≤ℤ_trans x y z h k = omega (arith, ints)

pub nat_le-true : (m n : ℕ) → nat_le m n ≡ true → m ≤ n
nat_le-true m n h = grind (arith, nat_tests)

pub list_held : (need_own : Bool) (document : Members) (table name : List ℕ) (low high : ℤ) → lists_lie_in low high (list_range_at (basis_of need_own document) table name) ≡ true →
    HaveNoFault need_own document →
    (let r = list_range_at (basis_of need_own document) table name in ListHolds (fewest_in r) (longest_in r) (low_in r) (high_in r) (list_at table name document))
list_held need_own document table name low high within faultless =
    elim (list_range_at (basis_of need_own document) table name) as (λ r. list_range_at (basis_of need_own document) table name ≡ r → lists_lie_in low high r ≡ true →
    ListHolds (fewest_in r) (longest_in r) (low_in r) (high_in r) (list_at table name document)) [
      | None ↦ λ e h. cc
      | Some range ↦ λ e h. list_held_by need_own document table name range e faultless
    ] refl within

pub list_bounds : (low high : ℤ) (r : Option ListRange) → lists_lie_in low high r ≡ true → (low ≤ℤ low_in r) × (high_in r ≤ℤ high)
list_bounds low high None h = cc
list_bounds low high (Some range) h =
    let (a, b) = and_parts (int_le low range.low) (int_le range.high high) h in
    (int_le-true low range.low a, int_le-true range.high high b)

wider_element : (low high least most : ℤ) (n : Option ℤ) → low ≤ℤ least → most ≤ℤ high → MatchOption n ⊥ (λ n. (least ≤ℤ n) × (n ≤ℤ most)) →
    MatchOption n ⊥ (λ n. (low ≤ℤ n) × (n ≤ℤ high))
wider_element low high least most None a b h = h
wider_element low high least most (Some n) a b h = (≤ℤ_trans low least n a h.0, ≤ℤ_trans n most high h.1 b)

pub elements_within : (need_own : Bool) (document : Members) (table name : List ℕ) (low high : ℤ) → lists_lie_in low high (list_range_at (basis_of need_own document) table name) ≡ true →
    HaveNoFault need_own document → All (IsWithin low high) (list_at table name document)
elements_within need_own document table name low high within faultless =
    let r = list_range_at (basis_of need_own document) table name in
    let held = list_held need_own document table name low high within faultless in
    let (a, b) = list_bounds low high r within in
    λ k x lt. wider_element low high (low_in r) (high_in r) (as_integer (slice_index_or (list_at table name document) k x)) a b (held.all k x lt)

-- the same of the values of an array

from_map : {A B : Type 0} (P : B → Type 0) (f : A → B) (l : List A) → All P (map f l) → All (λ a. P (f a)) l
from_map P f [] h = λ k d lt. absurd (omega arith)
from_map P f (a ∷ l) h =
    All-cons (λ a. P (f a)) a l (h 0 (f a) (omega arith)) (from_map P f l (λ k d lt. h (suc k) d (omega arith)))

pub values_held : (document : Members) (table name : List ℕ) (low high : ℤ) (values : List Value) →
    Some (items_view values) ≡ array_in (found_in name (table_at table document)) →
    All (IsWithin low high) (list_at table name document) → All (λ v. IsWithin low high (view v)) values
unfolding list_at
values_held document table name low high values e held =
    let f : map view values ≡ list_in (array_in (found_in name (table_at table document))) = sym (seen_elements values) ∙ ap list_in e in
    from_map (IsWithin low high) view values (subst (λ (l : List Data). All (IsWithin low high) l) (sym f) held)

pub mapped : {A : Type 0} (f : Data → A) (document : Members) (table name : List ℕ) (values : List Value) →
    Some (items_view values) ≡ array_in (found_in name (table_at table document)) →
    map (λ v. f (view v)) values ≡ map f (list_at table name document)
unfolding list_at
mapped f document table name values e = sym (mapped_seen f values) ∙ ap (λ (i : Option Items). map f (list_in i)) e

pub nothing_mapped : {A : Type 0} (f : Data → A) (document : Members) (table name : List ℕ) → None ≡ array_in (found_in name (table_at table document)) →
    [] ≡ map f (list_at table name document)
unfolding list_at
nothing_mapped f document table name e = ap (λ (i : Option Items). map f (list_in i)) e

-- the list itself

pub values_at : (document : Members) (table name : List ℕ) (values : List Value) → Some (items_view values) ≡ array_in (found_in name (table_at table document)) →
    map view values ≡ list_at table name document
unfolding list_at
values_at document table name values e = sym (seen_elements values) ∙ ap list_in e

pub nothing_at : (document : Members) (table name : List ℕ) → None ≡ array_in (found_in name (table_at table document)) → [] ≡ list_at table name document
unfolding list_at
nothing_at document table name e = ap list_in e

-- a list of tables is no longer than it may be

few_tables : (most : ℕ) (list : List Data) → tables_fault_in most list ≡ None → length list ≤ most
unfolding tables_fault_in
few_tables most list h =
    let (a, b) = first_two (at_item cause.Type_ (position is_no_table list)) (length_fault 0 most (length list)) [] h in
    (length_held 0 most (length list) (first_one (length_fault 0 most (length list)) b)).1

few_found : (most : ℕ) (found : Option Data) → tables_fault most found ≡ None → length (list_in (array_in found)) ≤ most
few_found most None h = omega arith
few_found most (Some found) h =
    elim (as_array found) as (λ a. table_array_fault most a ≡ None → length (list_in a) ≤ most) [
      | None ↦ λ e. cc
      | Some items ↦ λ e. few_tables most (elements items) e
    ] h

pub tables_uncaused : (basis : Basis) (row : ℕ) (name : List ℕ) (most : ℕ) (table : Result Members Cause) → fault_in basis row name (kind.Tables most) table ≡ None →
    tables_fault most (found_in name table) ≡ None
tables_uncaused basis row name most (Err cause) h = cc
tables_uncaused basis row name most (Ok table) h = unlisted row (tables_fault most (get_member name table)) h

pub shape_uncaused : (basis : Basis) (row : ℕ) (name : List ℕ) (table : Result Members Cause) → fault_in basis row name kind.Shape table ≡ None →
    shape_fault (found_in name table) ≡ None
shape_uncaused basis row name (Err cause) h = cc
shape_uncaused basis row name (Ok table) h = unlisted row (shape_fault (get_member name table)) h

pub tables_held : (need_own : Bool) (document : Members) (table name : List ℕ) (most : ℕ) → kind_at (basis_of need_own document) table name ≡ Some (kind.Tables most) →
    HaveNoFault need_own document → length (list_at table name document) ≤ most
unfolding list_at
tables_held need_own document table name most is faultless =
    let h = faultless_at need_own document table name (kind.Tables most) is faultless in
    few_found most (found_in name (table_at table document)) (tables_uncaused (basis_of need_own document) h.number name most (table_at table document) h.faultless)

-- what the naturals of a list are

natural_held : (low high : ℤ) (n : Option ℤ) → pos 0 ≤ℤ low → MatchOption n ⊥ (λ n. (low ≤ℤ n) × (n ≤ℤ high)) → (unsigned_abs low ≤ natural_of n) × (natural_of n ≤ unsigned_abs high)
natural_held low high None from h = absurd h
natural_held low high (Some (pos n)) from h = (natural_from low n from h.0, natural_to high n h.1)
natural_held low high (Some (negsuc n)) from h = let a = h.0 in absurd (omega (arith, ints))

naturals_held : (fewest most : ℕ) (low high : ℤ) (list : List Data) → pos 0 ≤ℤ low → ListHolds fewest most low high list →
    All (λ n. (unsigned_abs low ≤ n) × (n ≤ unsigned_abs high)) (map (λ d. natural_of (as_integer d)) list)
naturals_held fewest most low high list from held =
    All-map (λ n. (unsigned_abs low ≤ n) × (n ≤ unsigned_abs high)) (λ d. natural_of (as_integer d)) list
    (λ k d lt. natural_held low high (as_integer (slice_index_or list k d)) from (held.all k d lt))

pub naturals_in_range : {E : Type 0} (fewest most : ℕ) (low high : ℤ) (list : List Data) (result : Result (Vec ℕ Global) E) → pos 0 ≤ℤ low → ListHolds fewest most low high list →
    IfOk result (λ v. v.items ≡ map (λ d. natural_of (as_integer d)) list) →
    IfOk result (λ v. All (λ n. (unsigned_abs low ≤ n) × (n ≤ unsigned_abs high)) v.items) × IfOk result (λ v. fewest ≤ length v.items) × IfOk result (λ v. length v.items ≤ most)
naturals_in_range fewest most low high list (Err e) from held is = (tt, tt, tt)
naturals_in_range fewest most low high list (Ok v) from held is =
    let count : length v.items ≡ length list = ap length is ∙ length-map list (λ d. natural_of (as_integer d)) in
    let a = held.from in
    let b = held.to in
    (subst (λ (l : List ℕ). All (λ n. (unsigned_abs low ≤ n) × (n ≤ unsigned_abs high)) l) (sym is) (naturals_held fewest most low high list from held), omega arith, omega arith)

-- what the integers of a list are

integer_held : (low high : ℤ) (n : Option ℤ) → MatchOption n ⊥ (λ n. (low ≤ℤ n) × (n ≤ℤ high)) → (low ≤ℤ integer_of n) × (integer_of n ≤ℤ high)
integer_held low high None h = absurd h
integer_held low high (Some z) h = h

pub integers_in_range : {E : Type 0} (fewest most : ℕ) (low high : ℤ) (list : List Data) (result : Result (Vec ℤ Global) E) → ListHolds fewest most low high list →
    IfOk result (λ v. v.items ≡ map (λ d. integer_of (as_integer d)) list) →
    IfOk result (λ v. All (λ z. (low ≤ℤ z) × (z ≤ℤ high)) v.items) × IfOk result (λ v. fewest ≤ length v.items) × IfOk result (λ v. length v.items ≤ most)
integers_in_range fewest most low high list (Err e) held is = (tt, tt, tt)
integers_in_range fewest most low high list (Ok v) held is =
    let count : length v.items ≡ length list = ap length is ∙ length-map list (λ d. integer_of (as_integer d)) in
    let a = held.from in
    let b = held.to in (
      subst (λ (l : List ℤ). All (λ z. (low ≤ℤ z) × (z ≤ℤ high)) l) (sym is)
          (All-map (λ z. (low ≤ℤ z) × (z ≤ℤ high)) (λ d. integer_of (as_integer d)) list (λ k d lt. integer_held low high (as_integer (slice_index_or list k d)) (held.all k d lt))),
      omega arith,
      omega arith,
    )

-- integers between two numbers that are equally far from 0

near_zero : (size : ℕ) (z : ℤ) → neg_ℤ (pos size) ≤ℤ z → z ≤ℤ pos size → unsigned_abs z ≤ size
near_zero size z h k = grind (arith, ints)

pub about_zero : {E : Type 0} (size : ℕ) (result : Result (Vec ℤ Global) E) → IfOk result (λ v. All (λ z. (neg_ℤ (pos size) ≤ℤ z) × (z ≤ℤ pos size)) v.items) →
    IfOk result (λ v. All (λ z. unsigned_abs z ≤ size) v.items)
about_zero size (Err e) h = tt
about_zero size (Ok v) h = λ k d lt. near_zero size (slice_index_or v.items k d) (h k d lt).0 (h k d lt).1
