-- What a document without a fault holds at a key.
use Rattle.std.specs.Prelude.{if◌then◌else◌, codes, find, unsigned_abs, slice_index_or, not}
use Rattle.std.proofs.Common.{subst, MatchOption, ap, ◌≡◌, ℕ, suc, ◌≤◌, ◌%◌, ◌==◌, ◌&&◌, ℤ, pos, negsuc, ◌≤ℤ◌, int_le, List, [], ◌∷◌, Bool, true, false, Option, Some, None, Result, Ok, Err, refl, sym, ◌∙◌, All, arith}
use Rattle.std.proofs.lemmas.Bool.{and_parts}
use Rattle.std.proofs.lemmas.Int.{ints}
use Rattle.std.proofs.lemmas.Bool.Decides.{nat_tests}
use Rattle.std.specs.Str.{bytes_eq}
use Rattle.std.proofs.lemmas.Slice.Eq.{bytes_eq-Decides}
use Rattle.toml.specs.Data.{Data, Members, as_integer, get_member}
use Rattle.scenario_keys.specs.ScenarioKeys.{Row, first_rows}
use Rattle.scenario_keys.specs.KeyValues.{found_in, integer_at, integer_found, integer_or, table_at}
use Rattle.scenario_keys.specs.IntegerFaults.{bounds_of, integer_cause, is_multiple, is_in_bounds, missing_cause, number_cause}
use Rattle.scenario_keys.specs.ToldFaults.{fault_by}
use Rattle.scenario.specs.KeyFaults.{basis_of, counts, fault_in, fault_of, is_version_two, tick_of, tick_or_one}
use Rattle.scenario.specs.Inner.NoFaults.{rows_by, HaveNoFault}
use Rattle.scenario.specs.Inner.KnownKeys.{are_ticks, begins_with_the_tick, is_named, kind_at, kind_of, least_in, lies_in, may_lie_in, most_in, range_at, range_in}
use Rattle.scenario_keys.specs.declared.cause.Cause.{Cause}
use Rattle.scenario_keys.specs.declared.cause.Cause.TheVariants as cause
use Rattle.scenario_keys.specs.declared.key.Key.{Key}
use Rattle.scenario.specs.declared.basis.Basis.{Basis}
use Rattle.scenario_keys.specs.declared.numbers.Bounds.{Bounds}
use Rattle.scenario_keys.specs.declared.rows.Range.{Range}
use Rattle.scenario_keys.specs.declared.rows.Range.TheVariants as range
use Rattle.scenario_keys.specs.declared.rows.When.{When}
use Rattle.scenario_keys.specs.declared.rows.When.TheVariants as when
use Rattle.scenario_keys.specs.declared.rows.Kind.{Kind}
use Rattle.scenario_keys.specs.declared.rows.Kind.TheVariants as kind

int_le-true : (x y : ℤ) → int_le x y ≡ true → x ≤ℤ y
int_le-true x y h = grind (arith, ints)

≤ℤ_trans : (x y z : ℤ) → x ≤ℤ y → y ≤ℤ z → x ≤ℤ z
≤ℤ_trans x y z h k = omega (arith, ints)

-- an integer at a key that is within the bounds, and a multiple of their step
pub record Holds (bounds : Bounds) (found : Option Data) : Type 0 where
  pub number : ℤ
  pub is : integer_found found ≡ Some number
  pub least : bounds.low ≤ℤ number
  pub most : number ≤ℤ bounds.high
  pub whole : unsigned_abs number % bounds.step ≡ 0

-- an integer at a key, within two numbers
record Lies (low high : ℤ) (found : Option Data) : Type 0 where
  pub number : ℤ
  pub is : integer_found found ≡ Some number
  pub least : low ≤ℤ number
  pub most : number ≤ℤ high

-- an integer without a cause is within the bounds

is_within-uncaused : (bounds : Bounds) (z : ℤ) → integer_cause bounds (Some z) ≡ None → is_in_bounds bounds z ≡ true
is_within-uncaused bounds z h =
    let cause_by : Bool → Option Cause = λ b. if b then (if is_multiple bounds.step z then None else Some cause.Multiple) else Some cause.Range in
    elim (is_in_bounds bounds z) as (λ b. cause_by b ≡ None → b ≡ true) [
      | true ↦ λ e. refl
      | false ↦ λ e. cc
    ] h

is_multiple-uncaused : (bounds : Bounds) (z : ℤ) → integer_cause bounds (Some z) ≡ None → is_multiple bounds.step z ≡ true
is_multiple-uncaused bounds z h =
    let cause_by : Bool → Bool → Option Cause = λ w b. if w then (if b then None else Some cause.Multiple) else Some cause.Range in
    let e = is_within-uncaused bounds z h in
    let f : cause_by true (is_multiple bounds.step z) ≡ None = subst (λ (w : Bool). cause_by w (is_multiple bounds.step z) ≡ None) e h in
    elim (is_multiple bounds.step z) as (λ b. cause_by true b ≡ None → b ≡ true) [
      | true ↦ λ e. refl
      | false ↦ λ e. cc
    ] f

zero_tested : (n : ℕ) → (n == 0) ≡ true → n ≡ 0
zero_tested n h = grind (arith, nat_tests)

holds_found : (bounds : Bounds) (found : Data) → number_cause bounds (Some found) ≡ None → Holds bounds (Some found)
holds_found bounds found h =
    elim (as_integer found) as (λ n. as_integer found ≡ n → integer_cause bounds n ≡ None → Holds bounds (Some found)) [
      | None ↦ λ e f. cc
      | Some z ↦ λ e f. (
          let (a, b) = and_parts (int_le bounds.low z) (int_le z bounds.high) (is_within-uncaused bounds z f) in
          record {
            number = z;
            is = e;
            least = int_le-true bounds.low z a;
            most = int_le-true z bounds.high b;
            whole = zero_tested (unsigned_abs z % bounds.step) (is_multiple-uncaused bounds z f);
          })
    ] refl h

holds_required : (bounds : Bounds) (found : Option Data) → bounds.otherwise ≡ None → number_cause bounds found ≡ None → Holds bounds found
holds_required bounds None e h =
    let f : missing_cause bounds.otherwise ≡ Some cause.Missing = rw e in cc
holds_required bounds (Some found) e h = holds_found bounds found h

-- the row of a key has no fault if no row has one

record Found (names : Row → Bool) (test : Row → Option (Key × Cause)) (here : Row) : Type 0 where
  named : names here ≡ true
  faultless : test here ≡ None

found_row : (names : Row → Bool) (test : Row → Option (Key × Cause)) (list : List Row) (row : Row) → find names list ≡ Some row → All (λ row. test row ≡ None) list → Found names test row
found_row names test [] row h all = cc
found_row names test (here ∷ rest) row h all =
    elim (names here) as (λ b. names here ≡ b → (if b then Some here else find names rest) ≡ Some row → Found names test row) [
      | true ↦ λ e f. (let same : here ≡ row = cc in subst (λ (r : Row). Found names test r) same (record { named = e; faultless = all 0 here (omega arith) }))
      | false ↦ λ e f. found_row names test rest row f (λ k d lt. all (suc k) d (omega arith))
    ] refl h

-- what stands at the key has no fault, whatever the number of its row
pub record Faultless (basis : Basis) (name : List ℕ) (here : Kind) (table : Result Members Cause) : Type 0 where
  pub number : ℕ
  pub faultless : fault_in basis number name here table ≡ None

counted : (basis : Basis) (row : Row) (here : Kind) (table : Result Members Cause) → kind_of basis (Some row) ≡ Some here →
    (if counts basis row.when then fault_in basis row.number row.name row.kind table else None) ≡ None → Faultless basis row.name here table
counted basis row here table is h =
    elim (counts basis row.when) as (λ b. (if b then Some row.kind else None) ≡ Some here →
    (if b then fault_in basis row.number row.name row.kind table else None) ≡ None → Faultless basis row.name here table) [
      | true ↦ λ e f. (
          let same : row.kind ≡ here = cc in
          record { number = row.number; faultless = subst (λ (k : Kind). fault_in basis row.number row.name k table ≡ None) same f })
      | false ↦ λ e f. cc
    ] is h

row_faultless : (need_own : Bool) (document : Members) (table name : List ℕ) (here : Kind) (row : Row) → Found (is_named table name) (fault_of (basis_of need_own document) document) row →
    kind_of (basis_of need_own document) (Some row) ≡ Some here → Faultless (basis_of need_own document) name here (table_at table document)
unfolding fault_of
row_faultless need_own document table name here row found is =
    let (t, n) = and_parts (bytes_eq row.table table) (bytes_eq row.name name) found.named in
    let et = (bytes_eq-Decides row.table table).0 t in
    let en = (bytes_eq-Decides row.name name).0 n in
    let h = counted (basis_of need_own document) row here (table_at row.table document) is found.faultless in
    let C : List ℕ → List ℕ → Type 0 = λ t n. Faultless (basis_of need_own document) n here (table_at t document) in
    subst (λ (n : List ℕ). C table n) en (subst (λ (t : List ℕ). C t row.name) et h)

pub faultless_at : (need_own : Bool) (document : Members) (table name : List ℕ) (here : Kind) → kind_at (basis_of need_own document) table name ≡ Some here → HaveNoFault need_own document →
    Faultless (basis_of need_own document) name here (table_at table document)
unfolding kind_at
faultless_at need_own document table name here is faultless =
    elim (find (is_named table name) (rows_by need_own)) as (λ r. find (is_named table name) (rows_by need_own) ≡ r → kind_of (basis_of need_own document) r ≡ Some here →
    Faultless (basis_of need_own document) name here (table_at table document)) [
      | None ↦ λ e h. cc
      | Some row ↦ λ e h. row_faultless need_own document table name here row (found_row (is_named table name) (fault_of (basis_of need_own document) document) (rows_by need_own) row e faultless) h
    ] refl is

-- an integer's key has no cause

pub uncaused : (row : ℕ) (cause : Option Cause) → fault_by row cause ≡ None → cause ≡ None
uncaused row None h = refl
uncaused row (Some cause) h = cc

pub number_uncaused : (basis : Basis) (row : ℕ) (name : List ℕ) (of : Range) (table : Result Members Cause) → fault_in basis row name (kind.Number of) table ≡ None →
    number_cause (bounds_of basis.tick of) (found_in name table) ≡ None
number_uncaused basis row name of (Err cause) h = cc
number_uncaused basis row name of (Ok table) h = uncaused row (number_cause (bounds_of basis.tick of) (get_member name table)) h

kind_is : (here : Option Kind) (of : Range) → range_in here ≡ Some of → here ≡ Some (kind.Number of)
kind_is None of h = cc
kind_is (Some (kind.Number this)) of h = let same : this ≡ of = cc in ap (λ (r : Range). Some (kind.Number r)) same
kind_is (Some (kind.Numbers list)) of h = cc
kind_is (Some (kind.Tables most)) of h = cc
kind_is (Some kind.Shape) of h = cc
kind_is (Some kind.Plans) of h = cc
kind_is (Some kind.FormulaName) of h = cc
kind_is (Some kind.FormulaText) of h = cc
kind_is (Some kind.Formulas) of h = cc
kind_is (Some kind.PredictedShip) of h = cc
kind_is (Some kind.PredictedChanges) of h = cc
kind_is (Some kind.Document) of h = cc

uncaused_at : (need_own : Bool) (document : Members) (table name : List ℕ) (of : Range) → range_at (basis_of need_own document) table name ≡ Some of → HaveNoFault need_own document →
    number_cause (bounds_of (tick_of document) of) (found_in name (table_at table document)) ≡ None
uncaused_at need_own document table name of is faultless =
    let h = faultless_at need_own document table name (kind.Number of) (kind_is (kind_at (basis_of need_own document) table name) of is) faultless in
    number_uncaused (basis_of need_own document) h.number name of (table_at table document) h.faultless

-- a key that must be there

tick_or_one-from : (n : Option ℤ) → 1 ≤ tick_or_one n
tick_or_one-from None = omega arith
tick_or_one-from (Some (pos n)) = grind (arith, nat_tests)
tick_or_one-from (Some (negsuc n)) = omega arith

pub one_le_tick : (document : Members) → 1 ≤ tick_of document
unfolding tick_of
one_le_tick document = tick_or_one-from (integer_at (codes "window") (codes "tick") document)

tick_or_one-to : (n : Option ℤ) → tick_or_one n ≤ 60
tick_or_one-to None = omega arith
tick_or_one-to (Some (pos n)) = grind (arith, nat_tests)
tick_or_one-to (Some (negsuc n)) = omega arith

pub tick_le_60 : (document : Members) → tick_of document ≤ 60
unfolding tick_of
tick_le_60 document = tick_or_one-to (integer_at (codes "window") (codes "tick") document)

narrower : (low high : ℤ) (bounds : Bounds) (found : Option Data) → low ≤ℤ bounds.low → int_le bounds.high high ≡ true → Holds bounds found → Lies low high found
narrower low high bounds found h k holds = record {
  number = holds.number;
  is = holds.is;
  least = ≤ℤ_trans low bounds.low holds.number h holds.least;
  most = ≤ℤ_trans holds.number bounds.high high holds.most (int_le-true bounds.high high k);
}

-- what a key that must be there holds by its range
holds_at : (need_own : Bool) (document : Members) (table name : List ℕ) (of : Range) → (bounds_of (tick_of document) of).otherwise ≡ None → range_at (basis_of need_own document) table name ≡ Some of →
    HaveNoFault need_own document → Holds (bounds_of (tick_of document) of) (found_in name (table_at table document))
holds_at need_own document table name of required is faultless =
    holds_required (bounds_of (tick_of document) of) (found_in name (table_at table document)) required (uncaused_at need_own document table name of is faultless)

lies_by : (need_own : Bool) (document : Members) (table name : List ℕ) (low high : ℤ) (of : Range) → range_at (basis_of need_own document) table name ≡ Some of → lies_in low high (Some of) ≡ true → HaveNoFault need_own document →
    Lies low high (found_in name (table_at table document))
lies_by need_own document table name low high (range.FromTo least most) is within faultless =
    let (a, b) = and_parts (int_le low least) (int_le most high) within in
    narrower low high (bounds_of (tick_of document) (range.FromTo least most)) (found_in name (table_at table document)) (int_le-true low least a) b
    (holds_at need_own document table name (range.FromTo least most) refl is faultless)
lies_by need_own document table name low high (range.FromTheTickTo most) is within faultless =
    let (a, b) = and_parts (int_le low (pos 1)) (int_le most high) within in
    let one = one_le_tick document in
    let first : low ≤ℤ pos 1 = int_le-true low (pos 1) a in
    narrower low high (bounds_of (tick_of document) (range.FromTheTickTo most)) (found_in name (table_at table document)) (omega (arith, ints)) b
    (holds_at need_own document table name (range.FromTheTickTo most) refl is faultless)
lies_by need_own document table name low high (range.TicksFromOneTo most) is within faultless =
    let (a, b) = and_parts (int_le low (pos 1)) (int_le most high) within in
    let one = one_le_tick document in
    let first : low ≤ℤ pos 1 = int_le-true low (pos 1) a in
    narrower low high (bounds_of (tick_of document) (range.TicksFromOneTo most)) (found_in name (table_at table document)) (omega (arith, ints)) b
    (holds_at need_own document table name (range.TicksFromOneTo most) refl is faultless)
lies_by need_own document table name low high (range.TicksTo most) is within faultless =
    let (a, b) = and_parts (int_le low (pos 0)) (int_le most high) within in
    narrower low high (bounds_of (tick_of document) (range.TicksTo most)) (found_in name (table_at table document)) (int_le-true low (pos 0) a) b
    (holds_at need_own document table name (range.TicksTo most) refl is faultless)
lies_by need_own document table name low high (range.Optional least most otherwise) is within faultless = cc

lies : (need_own : Bool) (document : Members) (table name : List ℕ) (low high : ℤ) → lies_in low high (range_at (basis_of need_own document) table name) ≡ true → HaveNoFault need_own document →
    Lies low high (found_in name (table_at table document))
lies need_own document table name low high within faultless =
    elim (range_at (basis_of need_own document) table name) as (λ r. range_at (basis_of need_own document) table name ≡ r → lies_in low high r ≡ true → Lies low high (found_in name (table_at table document))) [
      | None ↦ λ e h. cc
      | Some of ↦ λ e h. lies_by need_own document table name low high of e h faultless
    ] refl within

told : (low high : ℤ) (found : Option Data) (result : Option ℤ) → Lies low high found → result ≡ integer_found found → MatchOption result ⊥ (λ n. (low ≤ℤ n) × (n ≤ℤ high))
told low high found None lies e = let f = e ∙ lies.is in cc
told low high found (Some n) lies e =
    let f = e ∙ lies.is in
    let same : lies.number ≡ n = cc in
    subst (λ (n : ℤ). (low ≤ℤ n) × (n ≤ℤ high)) same (lies.least, lies.most)

pub known : (need_own : Bool) (document : Members) (table name : List ℕ) (low high : ℤ) (result : Option ℤ) → lies_in low high (range_at (basis_of need_own document) table name) ≡ true → HaveNoFault need_own document →
    result ≡ integer_at table name document → MatchOption result ⊥ (λ n. (low ≤ℤ n) × (n ≤ℤ high))
unfolding integer_at
known need_own document table name low high result within faultless e =
    told low high (found_in name (table_at table document)) result (lies need_own document table name low high within faultless) e

-- the bounds of the range itself

int_le-itself : (z : ℤ) → int_le z z ≡ true
int_le-itself z = grind (arith, ints)

both_itself : (y z : ℤ) → (int_le y y && int_le z z) ≡ true
both_itself y z = rw (int_le-itself y, int_le-itself z) refl

narrowest : (low high : ℤ) (r : Option Range) → lies_in low high r ≡ true → lies_in (least_in r) (most_in r) r ≡ true
narrowest low high None h = cc
narrowest low high (Some (range.FromTo least most)) h = both_itself least most
narrowest low high (Some (range.FromTheTickTo most)) h = both_itself (pos 1) most
narrowest low high (Some (range.TicksFromOneTo most)) h = both_itself (pos 1) most
narrowest low high (Some (range.TicksTo most)) h = both_itself (pos 0) most
narrowest low high (Some (range.Optional least most otherwise)) h = cc

two_bounds : (low high least most : ℤ) → (int_le low least && int_le most high) ≡ true → (low ≤ℤ least) × (most ≤ℤ high)
two_bounds low high least most h =
    let (a, b) = and_parts (int_le low least) (int_le most high) h in
    (int_le-true low least a, int_le-true most high b)

pub lies_bounds : (low high : ℤ) (r : Option Range) → lies_in low high r ≡ true → (low ≤ℤ least_in r) × (most_in r ≤ℤ high)
lies_bounds low high None h = cc
lies_bounds low high (Some (range.FromTo least most)) h = two_bounds low high least most h
lies_bounds low high (Some (range.FromTheTickTo most)) h = two_bounds low high (pos 1) most h
lies_bounds low high (Some (range.TicksFromOneTo most)) h = two_bounds low high (pos 1) most h
lies_bounds low high (Some (range.TicksTo most)) h = two_bounds low high (pos 0) most h
lies_bounds low high (Some (range.Optional least most otherwise)) h = cc

pub known_in_range : (need_own : Bool) (document : Members) (table name : List ℕ) (low high : ℤ) (result : Option ℤ) → lies_in low high (range_at (basis_of need_own document) table name) ≡ true → HaveNoFault need_own document →
    result ≡ integer_at table name document →
    MatchOption result ⊥ (λ n. (least_in (range_at (basis_of need_own document) table name) ≤ℤ n) × (n ≤ℤ most_in (range_at (basis_of need_own document) table name)))
known_in_range need_own document table name low high result within faultless e =
    let r = range_at (basis_of need_own document) table name in
    known need_own document table name (least_in r) (most_in r) result (narrowest low high r within) faultless e

pub natural_from : (z : ℤ) (n : ℕ) → pos 0 ≤ℤ z → z ≤ℤ pos n → unsigned_abs z ≤ n
natural_from (pos m) n h k = omega (arith, ints)
natural_from (negsuc m) n h k = omega (arith, ints)

pub natural_to : (z : ℤ) (n : ℕ) → pos n ≤ℤ z → n ≤ unsigned_abs z
natural_to (pos m) n h = omega (arith, ints)
natural_to (negsuc m) n h = omega (arith, ints)

-- if the key's range begins with the tick

least_told : (bounds : Bounds) (found : Option Data) (result : Option ℤ) → Holds bounds found → result ≡ integer_found found → MatchOption result ⊥ (λ n. bounds.low ≤ℤ n)
least_told bounds found None holds e = let f = e ∙ holds.is in cc
least_told bounds found (Some n) holds e =
    let f = e ∙ holds.is in
    let same : holds.number ≡ n = cc in
    subst (λ (n : ℤ). bounds.low ≤ℤ n) same holds.least

from_tick_by : (need_own : Bool) (document : Members) (table name : List ℕ) (of : Range) (result : Option ℤ) → range_at (basis_of need_own document) table name ≡ Some of → begins_with_the_tick (Some of) ≡ true → HaveNoFault need_own document →
    result ≡ integer_at table name document → MatchOption result ⊥ (λ n. pos (tick_of document) ≤ℤ n)
unfolding integer_at
from_tick_by need_own document table name (range.FromTo least most) result is begins faultless e = cc
from_tick_by need_own document table name (range.FromTheTickTo most) result is begins faultless e =
    least_told (bounds_of (tick_of document) (range.FromTheTickTo most)) (found_in name (table_at table document)) result
    (holds_at need_own document table name (range.FromTheTickTo most) refl is faultless) e
from_tick_by need_own document table name (range.TicksFromOneTo most) result is begins faultless e =
    least_told (bounds_of (tick_of document) (range.TicksFromOneTo most)) (found_in name (table_at table document)) result
    (holds_at need_own document table name (range.TicksFromOneTo most) refl is faultless) e
from_tick_by need_own document table name (range.TicksTo most) result is begins faultless e = cc
from_tick_by need_own document table name (range.Optional least most otherwise) result is begins faultless e = cc

pub from_tick : (need_own : Bool) (document : Members) (table name : List ℕ) (result : Option ℤ) → begins_with_the_tick (range_at (basis_of need_own document) table name) ≡ true → HaveNoFault need_own document →
    result ≡ integer_at table name document → MatchOption result ⊥ (λ n. pos (tick_of document) ≤ℤ n)
from_tick need_own document table name result begins faultless e =
    elim (range_at (basis_of need_own document) table name) as (λ r. range_at (basis_of need_own document) table name ≡ r → begins_with_the_tick r ≡ true → MatchOption result ⊥ (λ n. pos (tick_of document) ≤ℤ n)) [
      | None ↦ λ f h. cc
      | Some of ↦ λ f h. from_tick_by need_own document table name of result f h faultless e
    ] refl begins

-- if the key holds multiples of the tick

whole_told : (bounds : Bounds) (found : Option Data) (result : Option ℤ) → Holds bounds found → result ≡ integer_found found → MatchOption result ⊥ (λ n. unsigned_abs n % bounds.step ≡ 0)
whole_told bounds found None holds e = let f = e ∙ holds.is in cc
whole_told bounds found (Some n) holds e =
    let f = e ∙ holds.is in
    let same : holds.number ≡ n = cc in
    subst (λ (n : ℤ). unsigned_abs n % bounds.step ≡ 0) same holds.whole

in_ticks_by : (need_own : Bool) (document : Members) (table name : List ℕ) (of : Range) (result : Option ℤ) → range_at (basis_of need_own document) table name ≡ Some of → are_ticks (Some of) ≡ true → HaveNoFault need_own document →
    result ≡ integer_at table name document → MatchOption result ⊥ (λ n. unsigned_abs n % tick_of document ≡ 0)
unfolding integer_at
in_ticks_by need_own document table name (range.FromTo least most) result is ticks faultless e = cc
in_ticks_by need_own document table name (range.FromTheTickTo most) result is ticks faultless e = cc
in_ticks_by need_own document table name (range.TicksFromOneTo most) result is ticks faultless e =
    whole_told (bounds_of (tick_of document) (range.TicksFromOneTo most)) (found_in name (table_at table document)) result
    (holds_at need_own document table name (range.TicksFromOneTo most) refl is faultless) e
in_ticks_by need_own document table name (range.TicksTo most) result is ticks faultless e =
    whole_told (bounds_of (tick_of document) (range.TicksTo most)) (found_in name (table_at table document)) result
    (holds_at need_own document table name (range.TicksTo most) refl is faultless) e
in_ticks_by need_own document table name (range.Optional least most otherwise) result is ticks faultless e = cc

pub in_ticks : (need_own : Bool) (document : Members) (table name : List ℕ) (result : Option ℤ) → are_ticks (range_at (basis_of need_own document) table name) ≡ true → HaveNoFault need_own document →
    result ≡ integer_at table name document → MatchOption result ⊥ (λ n. unsigned_abs n % tick_of document ≡ 0)
in_ticks need_own document table name result ticks faultless e =
    elim (range_at (basis_of need_own document) table name) as (λ r. range_at (basis_of need_own document) table name ≡ r → are_ticks r ≡ true → MatchOption result ⊥ (λ n. unsigned_abs n % tick_of document ≡ 0)) [
      | None ↦ λ f h. cc
      | Some of ↦ λ f h. in_ticks_by need_own document table name of result f h faultless e
    ] refl ticks

-- a key that may be left out

or_by : (otherwise other least most : ℤ) (found : Option Data) → (int_le least otherwise && int_le otherwise most) ≡ true →
    number_cause (record { low = least; high = most; step = 1; otherwise = Some other }) found ≡ None →
    MatchOption (integer_or otherwise found) ⊥ (λ n. (least ≤ℤ n) × (n ≤ℤ most))
or_by otherwise other least most None within h = two_bounds least most otherwise otherwise within
or_by otherwise other least most (Some found) within h =
    let holds = holds_found (record { low = least; high = most; step = 1; otherwise = Some other }) found h in
    told least most (Some found) (as_integer found) (record { number = holds.number; is = holds.is; least = holds.least; most = holds.most }) refl

or_at : (need_own : Bool) (document : Members) (table name : List ℕ) (low high otherwise : ℤ) (of : Range) → range_at (basis_of need_own document) table name ≡ Some of → may_lie_in low high otherwise (Some of) ≡ true → HaveNoFault need_own document →
    MatchOption (integer_or otherwise (found_in name (table_at table document))) ⊥ (λ n. (least_in (Some of) ≤ℤ n) × (n ≤ℤ most_in (Some of)))
or_at need_own document table name low high otherwise (range.FromTo least most) is within faultless = cc
or_at need_own document table name low high otherwise (range.FromTheTickTo most) is within faultless = cc
or_at need_own document table name low high otherwise (range.TicksFromOneTo most) is within faultless = cc
or_at need_own document table name low high otherwise (range.TicksTo most) is within faultless = cc
or_at need_own document table name low high otherwise (range.Optional least most other) is within faultless =
    let (a, b) = and_parts (int_le low least && int_le most high) (int_le least otherwise && int_le otherwise most) within in
    or_by otherwise other least most (found_in name (table_at table document)) b (uncaused_at need_own document table name (range.Optional least most other) is faultless)

pub known_or : (need_own : Bool) (document : Members) (table name : List ℕ) (low high otherwise : ℤ) → may_lie_in low high otherwise (range_at (basis_of need_own document) table name) ≡ true → HaveNoFault need_own document →
    MatchOption (integer_or otherwise (found_in name (table_at table document))) ⊥
    (λ n. (least_in (range_at (basis_of need_own document) table name) ≤ℤ n) × (n ≤ℤ most_in (range_at (basis_of need_own document) table name)))
known_or need_own document table name low high otherwise within faultless =
    elim (range_at (basis_of need_own document) table name) as (λ r. range_at (basis_of need_own document) table name ≡ r → may_lie_in low high otherwise r ≡ true →
    MatchOption (integer_or otherwise (found_in name (table_at table document))) ⊥ (λ n. (least_in r ≤ℤ n) × (n ≤ℤ most_in r))) [
      | None ↦ λ f h. cc
      | Some of ↦ λ f h. or_at need_own document table name low high otherwise of f h faultless
    ] refl within

pub optional_bounds : (low high otherwise : ℤ) (r : Option Range) → may_lie_in low high otherwise r ≡ true → (low ≤ℤ least_in r) × (most_in r ≤ℤ high)
optional_bounds low high otherwise None h = cc
optional_bounds low high otherwise (Some (range.FromTo least most)) h = cc
optional_bounds low high otherwise (Some (range.FromTheTickTo most)) h = cc
optional_bounds low high otherwise (Some (range.TicksFromOneTo most)) h = cc
optional_bounds low high otherwise (Some (range.TicksTo most)) h = cc
optional_bounds low high otherwise (Some (range.Optional least most other)) h =
    let (a, b) = and_parts (int_le low least && int_le most high) (int_le least otherwise && int_le otherwise most) h in
    two_bounds low high least most a

pub wider : (low high least most : ℤ) (n : Option ℤ) → low ≤ℤ least → most ≤ℤ high → MatchOption n ⊥ (λ n. (least ≤ℤ n) × (n ≤ℤ most)) →
    MatchOption n ⊥ (λ n. (low ≤ℤ n) × (n ≤ℤ high))
wider low high least most None a b h = h
wider low high least most (Some n) a b h = (≤ℤ_trans low least n a h.0, ≤ℤ_trans n most high h.1 b)

-- the window's tick is the tick by which keys are tested

tick_known : (n : ℕ) → 1 ≤ n → n ≤ 60 → tick_or_one (Some (pos n)) ≡ n
tick_known n h k = grind (arith, nat_tests)

pub tick_is : (document : Members) (n : ℕ) → 1 ≤ n → n ≤ 60 → integer_at (codes "window") (codes "tick") document ≡ Some (pos n) → tick_of document ≡ n
unfolding tick_of
tick_is document n h k e = rw e (tick_known n h k)

-- a key without a fault if own ship is needed has none if she is not

same_fault : (need_own : Bool) (document : Members) (row : ℕ) (name : List ℕ) (here : Kind) (table : Result Members Cause) →
    fault_in (basis_of need_own document) row name here table ≡ fault_in (basis_of false document) row name here table
same_fault need_own document row name here (Err cause) = refl
same_fault need_own document row name (kind.Number of) (Ok table) = refl
same_fault need_own document row name (kind.Numbers list) (Ok table) = refl
same_fault need_own document row name (kind.Tables most) (Ok table) = refl
same_fault need_own document row name kind.Shape (Ok table) = refl
same_fault need_own document row name kind.Plans (Ok table) = refl
same_fault need_own document row name kind.Document (Ok table) = refl
same_fault need_own document row name kind.FormulaName (Ok table) = refl
same_fault need_own document row name kind.FormulaText (Ok table) = refl
same_fault need_own document row name kind.Formulas (Ok table) = refl
same_fault need_own document row name kind.PredictedShip (Ok table) = refl
same_fault need_own document row name kind.PredictedChanges (Ok table) = refl

counts_less : (need_own : Bool) (document : Members) (here : When) (fault other : Option (Key × Cause)) → fault ≡ other →
    (if counts (basis_of need_own document) here then fault else None) ≡ None → (if counts (basis_of false document) here then other else None) ≡ None
counts_less need_own document when.Always fault other e h = sym e ∙ h
counts_less need_own document when.InVersionOne fault other e h = subst (λ (f : Option (Key × Cause)). (if not (is_version_two document) then f else None) ≡ None) e h
counts_less need_own document when.InVersionTwo fault other e h = subst (λ (f : Option (Key × Cause)). (if is_version_two document then f else None) ≡ None) e h
counts_less need_own document when.ForOwnShip fault other e h = refl

row_without_own : (need_own : Bool) (document : Members) (row : Row) → fault_of (basis_of need_own document) document row ≡ None →
    fault_of (basis_of false document) document row ≡ None
unfolding fault_of
row_without_own need_own document row h =
    counts_less need_own document row.when
    (fault_in (basis_of need_own document) row.number row.name row.kind (table_at row.table document))
    (fault_in (basis_of false document) row.number row.name row.kind (table_at row.table document))
    (same_fault need_own document row.number row.name row.kind (table_at row.table document)) h

pub without_own : (need_own : Bool) (document : Members) → All (λ here. fault_of (basis_of need_own document) document here ≡ None) first_rows → HaveNoFault false document
without_own need_own document faultless = λ k d lt. row_without_own need_own document (slice_index_or first_rows k d) (faultless k d lt)
