-- What is kept of a document without a fault is shallow.
use Rattle.std.proofs.Common.{◌≡◌, ◌≤◌, ℕ, suc, List, [], ◌∷◌, ◌++◌, map, length, pos, Bool, true, false, not, ◌&&◌, ◌==◌, if◌then◌else◌, Option, Some, None, MatchOption, ℤ, refl, ap, sym, ◌∙◌, subst, All, arith}
use Rattle.std.specs.Prelude.{codes, is_some}
use Rattle.std.specs.List.{list_all, position, position_or_len}
use Rattle.std.specs.Str.{bytes_eq}
use Rattle.std.proofs.lemmas.Bool.{and_parts}
use Rattle.std.proofs.lemmas.Slice.Eq.{bytes_eq-Decides}
use Rattle.toml.specs.Data.{Data, string, integer, float, boolean, datetime, array, Items, no_items, item, Members, no_members, member, as_array, as_integer, as_str, as_table, depth, get_member, items_depth, members_depth}
use Rattle.toml.specs.Data as toml
use Rattle.toml.specs.View.{items_of}
use Rattle.std.proofs.lemmas.List.Elements.{All-cons}
use Rattle.std.specs.Prelude.{◌≤ℤ◌}
use Rattle.scenario_keys.specs.FirstFaults.{with_before}
use Rattle.scenario_keys.specs.FirstOf.{first_of}
use Rattle.scenario_keys.specs.IntegerFaults.{number_cause}
use Rattle.scenario_keys.specs.KeyValues.{array_in, integer_found, list_at, list_in, member_at, natural_at, natural_of, table_at}
use Rattle.scenario_keys.specs.ListFaults.{are_integers, array_fault, at_item, elements, is_integer, is_integer_list, length_fault, list_fault, table_array_fault, tables_fault}
use Rattle.scenario_keys.specs.ScenarioKeys.{first_rows, formula_rows, metres, own_rows, row, row_in_version_one, rows, Row}
use Rattle.scenario_keys.specs.ToldFaults.{fault_by_at, item_of}
use Rattle.scenario_keys.specs.declared.numbers.Bounds.{Bounds}
use Rattle.scenario_keys.specs.declared.rows.ListRange.{ListRange}
use Rattle.scenario_keys.specs.declared.rows.Kind.{Kind}
use Rattle.scenario_keys.specs.declared.rows.Kind.TheVariants as kind
use Rattle.scenario_keys.specs.declared.rows.When.{When}
use Rattle.scenario_keys.specs.declared.rows.When.TheVariants as when
use Rattle.scenario_keys.specs.declared.cause.Cause.{Cause}
use Rattle.scenario_keys.specs.declared.cause.Cause.TheVariants as cause
use Rattle.scenario_keys.proofs.ForCallers.{all_back, all_front, all_head, all_tail}
use Rattle.rule_set.specs.declared.ranking.Ranking.{Ranking}
use Rattle.scenario_rules.specs.FormulaTables.{is_name_taken, name_cause, new_name_cause, IsFormulaFault, IsStringCause, IsTableFault, IsTextCause, IsTextFault}
use Rattle.predictions.specs.PredictFaults.{array_cause, changes_cause, list_cause, new_cause, predict_fault, ship_cause, ships, table_fault}
use Rattle.predictions.specs.PredictFaults as predicted
use Rattle.scenario.specs.DocumentFaults.{IsFaultless, IsTold, IsToldFor}
use Rattle.scenario.specs.Inner.NoFaults.{HaveNoFault}
use Rattle.scenario.specs.Purposes.{ranking_of}
use Rattle.scenario.specs.KeyFaults.{basis_of, counts, fault_in, fault_of, is_version_two, tick_of}
use Rattle.scenario.specs.RuleValues.{formula_tables}
use Rattle.scenario.specs.Shapes.{is_no_integer_list, is_no_vertex, no_shape_fault, shape_array_fault, shape_fault, shape_in, vertices_fault}
use Rattle.scenario.specs.Inner.WithinBounds.{IsWithin}
use Rattle.scenario.specs.Migration.{for_migration, found_at, has_own, is_key, is_key_of, kept, kept_array, kept_by, known_members, member_if, new_value, new_value_when, table_names, two_of}
use Rattle.scenario.specs.Inner.PutTogether.{keys_of, migrated, with_found, with_key, with_keys, with_member, with_table, with_tables}
use Rattle.scenario.specs.declared.basis.Basis.{Basis}
use Rattle.scenario.specs.declared.purpose.Purpose.{Purpose}
use Rattle.scenario.proofs.Firsts.{is_plain, plain_told, read_from}
use Rattle.scenario.proofs.Held.{number_uncaused}
use Rattle.scenario.proofs.ListsHeld.{elements_held, first_one, first_two, list_uncaused, no_item, no_position, shape_uncaused, tables_uncaused}
use Rattle.scenario.proofs.Members.{no_deeper}
use Rattle.scenario.proofs.PlansHeld.{predict_held}

-- what may stand somewhere is no deeper than this

abbrev pub IsDeep : ℕ → Option Data → Type 0
IsDeep n None = Unit {0}
IsDeep n (Some found) = depth found ≤ n

deeper : (m n : ℕ) (found : Option Data) → m ≤ n → IsDeep m found → IsDeep n found
deeper m n None h k = tt
deeper m n (Some found) h k = omega arith

found_deep : (n : ℕ) (name : List ℕ) (found : Option Data) (members : Members) → IsDeep n found → members_depth members ≤ n → members_depth (with_found name found members) ≤ n
found_deep n name None members h k = k
found_deep n name (Some found) members h k = no_deeper n name found members h k

if_deep : (n : ℕ) (name : List ℕ) (found : Option Data) (rest : Members) → IsDeep n found → members_depth rest ≤ n → members_depth (member_if name found rest) ≤ n
if_deep n name None rest h k = k
if_deep n name (Some found) rest h k = omega arith

two_deep : (n : ℕ) (first second : List ℕ) (here : Data) → IsDeep n (member_at first here) → IsDeep n (member_at second here) → depth (two_of first second here) ≤ suc n
two_deep n first second here h k =
    let a = if_deep n second (member_at second here) no_members k (omega arith) in
    let b = if_deep n first (member_at first here) (member_if second (member_at second here) no_members) h a in
    omega arith

items_deep : (f : Data → Data) (n : ℕ) (list : List Data) → All (λ here. depth (f here) ≤ n) list → items_depth (items_of (map f list)) ≤ n
items_deep f n [] h = omega arith
items_deep f n (here ∷ list) h =
    let a = all_head (λ here. depth (f here) ≤ n) here list h in
    let b = items_deep f n list (all_tail (λ here. depth (f here) ≤ n) here list h) in
    omega arith

-- integers and texts

integer_flat : (found : Data) (z : ℤ) → as_integer found ≡ Some z → depth found ≡ 0
integer_flat (integer n) z h = refl
integer_flat (string s) z h = cc
integer_flat (float x) z h = cc
integer_flat (boolean b) z h = cc
integer_flat (datetime d) z h = cc
integer_flat (array items) z h = cc
integer_flat (toml.table members) z h = cc

text_flat : (found : Data) (s : List ℕ) → as_str found ≡ Some s → depth found ≡ 0
text_flat (string s) t h = refl
text_flat (integer n) t h = cc
text_flat (float x) t h = cc
text_flat (boolean b) t h = cc
text_flat (datetime d) t h = cc
text_flat (array items) t h = cc
text_flat (toml.table members) t h = cc

number_deep : (bounds : Bounds) (found : Option Data) → number_cause bounds found ≡ None → IsDeep 0 found
number_deep bounds None h = tt
number_deep bounds (Some found) h =
    elim (as_integer found) as (λ n. as_integer found ≡ n → number_cause bounds (Some found) ≡ None → depth found ≤ 0) [
      | None ↦ λ e f. (let g : number_cause bounds (Some found) ≡ Some cause.Type_ = rw e refl in cc)
      | Some z ↦ λ e f. (let g = integer_flat found z e in omega arith)
    ] refl h

-- lists of integers

array_is : (found : Data) (items : Items) → as_array found ≡ Some items → depth found ≡ suc (items_depth items)
array_is (array these) items h = let same : these ≡ items = cc in ap (λ (i : Items). suc (items_depth i)) same
array_is (string s) items h = cc
array_is (integer n) items h = cc
array_is (float x) items h = cc
array_is (boolean b) items h = cc
array_is (datetime d) items h = cc
array_is (toml.table members) items h = cc

within_flat : (low high : ℤ) (found : Data) → IsWithin low high found → depth found ≤ 0
within_flat low high found h =
    elim (as_integer found) as (λ n. as_integer found ≡ n → MatchOption n ⊥ (λ n. (low ≤ℤ n) × (n ≤ℤ high)) → depth found ≤ 0) [
      | None ↦ λ e f. absurd f
      | Some z ↦ λ e f. (let g = integer_flat found z e in omega arith)
    ] refl h

elements_deep : (n : ℕ) (items : Items) → All (λ here. depth here ≤ n) (elements items) → items_depth items ≤ n
elements_deep n no_items h = omega arith
elements_deep n (item here rest) h =
    let a = all_head (λ here. depth here ≤ n) here (elements rest) h in
    let b = elements_deep n rest (all_tail (λ here. depth here ≤ n) here (elements rest) h) in
    omega arith

list_deep : (range : ListRange) (found : Option Data) → list_fault range found ≡ None → IsDeep 1 found
list_deep range None h = tt
list_deep range (Some found) h =
    elim (as_array found) as (λ a. as_array found ≡ a → array_fault range a ≡ None → depth found ≤ 1) [
      | None ↦ λ e f. cc
      | Some items ↦ λ e f. (
          let held = elements_held range (elements items) f in
          let flat = elements_deep 0 items (λ k d lt. within_flat range.low range.high _ (held.all k d lt)) in
          let same = array_is found items e in
          omega arith)
    ] refl h

-- lists of tables that are reduced to two members

tables_deep : (most n : ℕ) (name : List ℕ) (found : Option Data) → tables_fault most found ≡ None → All (λ here. depth (known_members name here) ≤ n) (list_in (array_in found)) →
    (row : Row) → row.kind ≡ kind.Tables most → row.name ≡ name → IsDeep (suc n) (kept row found)
tables_deep most n name None h all row e f = tt
tables_deep most n name (Some found) h all row e f =
    let g : depth (kept_array name found (as_array found)) ≤ suc n =
    elim (as_array found) as (λ a. table_array_fault most a ≡ None → All (λ here. depth (known_members name here) ≤ n) (list_in a) → depth (kept_array name found a) ≤ suc n) [
      | None ↦ λ h all. cc
      | Some items ↦ λ h all. (let a = items_deep (known_members name) n (elements items) all in omega arith)
    ] h all in
    rw (e, f) g

-- what holds of each table, from what holds of it with those before it

each : (P : List Data × Data → Type 0) (Q : Data → Type 0) → ((before : List Data) (here : Data) → P (before, here) → Q here) →
    (before tables : List Data) → All P (with_before before tables) → All Q tables
each P Q f before [] h = λ k d lt. absurd (omega arith)
each P Q f before (here ∷ rest) h =
    All-cons Q here rest
    (f before here (all_head P (before, here) (with_before (before ++ here ∷ []) rest) h))
    (each P Q f (before ++ here ∷ []) rest (all_tail P (before, here) (with_before (before ++ here ∷ []) rest) h))

-- the tables of `formula`

name_deep : (taken : List ℕ → Bool) (found : Option Data) → name_cause taken found ≡ None → IsDeep 0 found
name_deep taken None h = tt
name_deep taken (Some found) h =
    elim (as_str found) as (λ s. as_str found ≡ s → new_name_cause taken s ≡ None → depth found ≤ 0) [
      | None ↦ λ e f. cc
      | Some s ↦ λ e f. (let g = text_flat found s e in omega arith)
    ] refl h

text_deep : (tick : ℕ) (found : Option Data) → IsTextCause tick found None → IsDeep 0 found
text_deep tick None h = tt
text_deep tick (Some found) h =
    elim (as_str found) as (λ s. as_str found ≡ s → IsStringCause tick s None → depth found ≤ 0) [
      | None ↦ λ e f. cc
      | Some s ↦ λ e f. (let g = text_flat found s e in omega arith)
    ] refl h

no_text_fault : (tick index : ℕ) (why : Option Cause) (found : Option Data) → IsTextFault tick index why found None → (why ≡ None) × IsTextCause tick found None
no_text_fault tick index (Some why) found h = cc
no_text_fault tick index None found h = (refl, untold h.0 h.1 h.2)
  where
    untold : (why : Option Cause) → IsTextCause tick found why → None ≡ fault_by_at 33 index why → IsTextCause tick found None
    untold None is e = is
    untold (Some why) is e = cc

formula_deep : (ranks : Ranking) (tick : ℕ) (before : List Data) (here : Data) → IsTableFault ranks tick (before, here) None → depth (known_members (codes "formula") here) ≤ 3
formula_deep ranks tick before here h =
    let (a, b) = no_text_fault tick (length before) (name_cause (is_name_taken ranks before) (member_at (codes "name") here)) (member_at (codes "text") here) h in
    let c = two_deep 0 (codes "name") (codes "text") here (name_deep (is_name_taken ranks before) (member_at (codes "name") here) a) (text_deep tick (member_at (codes "text") here) b) in
    omega arith

pub formulas_deep : (ranks : Ranking) (tick : ℕ) (tables : List Data) → IsFormulaFault ranks tick tables None → All (λ here. depth (known_members (codes "formula") here) ≤ 3) tables
formulas_deep ranks tick tables h = each (λ pair. IsTableFault ranks tick pair None) (λ here. depth (known_members (codes "formula") here) ≤ 3) (formula_deep ranks tick) [] tables h

-- the tables of `predict`

ship_caused : (own : ℕ) (before : List Data) (found : Option Data) → ship_cause own before found ≡ None → number_cause ships found ≡ None
ship_caused own before found h = by_cause (number_cause ships found) h
  where
    by_cause : (why : Option Cause) → new_cause (predicted.is_ship_taken own before (natural_of (integer_found found))) why ≡ None → why ≡ None
    by_cause None h = refl
    by_cause (Some why) h = cc

integers_flat : (list : List Data) → list_all is_integer list ≡ true → All (λ here. depth here ≤ 0) list
integers_flat [] h = λ k d lt. absurd (omega arith)
integers_flat (here ∷ rest) h =
    let (a, b) = and_parts (is_integer here) (list_all is_integer rest) h in
    All-cons (λ here. depth here ≤ 0) here rest (flat (as_integer here) refl a) (integers_flat rest b)
  where
    flat : (n : Option ℤ) → as_integer here ≡ n → is_some n ≡ true → depth here ≤ 0
    flat None e f = cc
    flat (Some z) e f = let g = integer_flat here z e in omega arith

lists_flat : (list : List Data) → list_all is_integer_list list ≡ true → All (λ here. depth here ≤ 1) list
lists_flat [] h = λ k d lt. absurd (omega arith)
lists_flat (here ∷ rest) h =
    let (a, b) = and_parts (is_integer_list here) (list_all is_integer_list rest) h in
    All-cons (λ here. depth here ≤ 1) here rest (flat (as_array here) refl a) (lists_flat rest b)
  where
    flat : (n : Option Items) → as_array here ≡ n → are_integers n ≡ true → depth here ≤ 1
    flat None e f = cc
    flat (Some items) e f =
        let g = array_is here items e in
        let d = elements_deep 0 items (integers_flat (elements items) f) in
        omega arith

listed : (tick : ℕ) (list : List Data) → list_cause tick list ≡ None → list_all is_integer_list list ≡ true
unfolding list_cause
listed tick list h =
    elim (list_all is_integer_list list) as (λ b. (if b then (if predicted.are_changes list then (if predicted.are_on_ticks tick list then None else Some cause.Multiple) else Some cause.Range) else Some cause.Type_) ≡ None → b ≡ true) [
      | true ↦ λ e. refl
      | false ↦ λ e. cc
    ] h

changes_deep : (tick : ℕ) (found : Option Data) → changes_cause tick found ≡ None → IsDeep 2 found
changes_deep tick None h = tt
changes_deep tick (Some found) h =
    elim (as_array found) as (λ a. as_array found ≡ a → array_cause tick a ≡ None → depth found ≤ 2) [
      | None ↦ λ e f. cc
      | Some items ↦ λ e f. (
          let flat = elements_deep 1 items (lists_flat (elements items) (listed tick (elements items) f)) in
          let same = array_is found items e in
          omega arith)
    ] refl h

-- lists of lists of integers, as of the vertices of a shape

all_pass : (p : Data → Bool) (list : List Data) → length list ≤ position_or_len (λ d. not (p d)) list → list_all p list ≡ true
all_pass p [] h = refl
all_pass p (here ∷ rest) h =
    elim (p here) as (λ b. p here ≡ b → list_all p (here ∷ rest) ≡ true) [
      | true ↦ λ e. (let z : position_or_len (λ d. not (p d)) (here ∷ rest) ≡ suc (position_or_len (λ d. not (p d)) rest) = rw e (omega arith) in rw e (all_pass p rest (omega arith)))
      | false ↦ λ e. (let z : position_or_len (λ d. not (p d)) (here ∷ rest) ≡ 0 = rw e refl in absurd (omega arith))
    ] refl

vertices_listed : (list : List Data) → vertices_fault list ≡ None → list_all is_integer_list list ≡ true
unfolding vertices_fault
vertices_listed list h =
    let (a, b) = first_two (at_item cause.Type_ (position is_no_integer_list list)) (length_fault 6 6 (length list))
    (at_item cause.Range (position is_no_vertex list) ∷ no_shape_fault (shape_in list) ∷ []) h in
    all_pass is_integer_list list (no_position is_no_integer_list list (no_item cause.Type_ (position is_no_integer_list list) a))

shape_deep : (found : Option Data) → shape_fault found ≡ None → IsDeep 2 found
shape_deep None h = tt
shape_deep (Some found) h =
    elim (as_array found) as (λ a. as_array found ≡ a → shape_array_fault a ≡ None → depth found ≤ 2) [
      | None ↦ λ e f. cc
      | Some items ↦ λ e f. (
          let flat = elements_deep 1 items (lists_flat (elements items) (vertices_listed (elements items) f)) in
          let same = array_is found items e in
          omega arith)
    ] refl h

by_none : (row index : ℕ) (why : Option Cause) → fault_by_at row index why ≡ None → why ≡ None
by_none row index None h = refl
by_none row index (Some why) h = cc

no_table_fault : (tick own : ℕ) (before : List Data) (here : Data) → table_fault tick own (before, here) ≡ None →
    (ship_cause own before (member_at (codes "mmsi") here) ≡ None) × (changes_cause tick (member_at (codes "changes") here) ≡ None)
unfolding table_fault
no_table_fault tick own before here h =
    let a = fault_by_at 46 (item_of (length before)) (ship_cause own before (member_at (codes "mmsi") here)) in
    let b = fault_by_at 47 (item_of (length before)) (changes_cause tick (member_at (codes "changes") here)) in
    let (e, f) = first_two a b [] h in
    (by_none 46 (item_of (length before)) _ e, by_none 47 (item_of (length before)) _ (first_one b f))

predict_deep : (tick own : ℕ) (before : List Data) (here : Data) → table_fault tick own (before, here) ≡ None → depth (known_members (codes "predict") here) ≤ 3
predict_deep tick own before here h =
    let (a, b) = no_table_fault tick own before here h in
    let ship = deeper 0 2 (member_at (codes "mmsi") here) (omega arith)
    (number_deep ships (member_at (codes "mmsi") here) (ship_caused own before (member_at (codes "mmsi") here) a)) in
    two_deep 2 (codes "changes") (codes "mmsi") here (changes_deep tick (member_at (codes "changes") here) b) ship

pub none_first : {A F : Type 0} (test : A → Option F) (list : List A) → first_of (map test list) ≡ None → All (λ here. test here ≡ None) list
none_first {F = F} test [] h = λ k d lt. absurd (omega arith)
none_first {F = F} test (here ∷ rest) h =
    let (a, b) = split (test here) h in
    All-cons (λ here. test here ≡ None) here rest a (none_first test rest b)
  where
    split : (x : Option F) → first_of (x ∷ map test rest) ≡ None → (x ≡ None) × (first_of (map test rest) ≡ None)
    split None h = (refl, h)
    split (Some found) h = cc

pub predictions_deep : (tick own : ℕ) (tables : List Data) → predict_fault tick own tables ≡ None → All (λ here. depth (known_members (codes "predict") here) ≤ 3) tables
unfolding predict_fault
predictions_deep tick own tables h =
    each (λ pair. table_fault tick own pair ≡ None) (λ here. depth (known_members (codes "predict") here) ≤ 3) (predict_deep tick own) [] tables
    (none_first (table_fault tick own) (with_before [] tables) h)

-- the parts of a document without a fault

pub faultless_parts : (purpose : Purpose) (document : Members) → IsFaultless purpose document →
    All (λ here. IsToldFor purpose document here None) first_rows
    × All (λ here. IsToldFor purpose document here None) formula_rows
    × All (λ here. IsToldFor purpose document here None) own_rows
unfolding IsFaultless
faultless_parts purpose document h =
    let P : Row → Type 0 = λ here. IsToldFor purpose document here None in
    let back = all_back P first_rows (formula_rows ++ own_rows) h in
    (all_front P first_rows (formula_rows ++ own_rows) h, all_front P formula_rows own_rows back, all_back P formula_rows own_rows back)

pub formulas_faultless : (purpose : Purpose) (document : Members) → IsFaultless purpose document → IsFormulaFault (ranking_of purpose document) (tick_of document) (formula_tables document) None
unfolding formula_rows
formulas_faultless purpose document h =
    (faultless_parts purpose document h).1 0 (row 32 (codes "") (codes "formula.name") kind.FormulaName) (omega arith)

pub predict_faultless : (purpose : Purpose) (document : Members) → purpose.need_own ≡ true → IsFaultless purpose document →
    predict_fault (tick_of document) (natural_at (codes "own") (codes "mmsi") document) (list_at (codes "") (codes "predict") document) ≡ None
predict_faultless purpose document own h =
    let parts = faultless_parts purpose document h in
    predict_held document (subst (λ (b : Bool). HaveNoFault b document) own (read_from purpose.need_own (ranking_of purpose document) document parts.0 parts.2))

-- each key

pub key_faultless : (basis : Basis) (ranks : Ranking) (document : Members) (here : Row) → IsTold basis ranks document here None → is_plain here.kind ≡ true → counts basis here.when ≡ true →
    fault_in basis here.number here.name here.kind (table_at here.table document) ≡ None
unfolding fault_of
key_faultless basis ranks document here h plain counted =
    let e = sym (plain_told here.kind basis ranks document here None plain h) in
    let by : Bool → Type 0 = λ b. (if b then fault_in basis here.number here.name here.kind (table_at here.table document) else None) ≡ None in
    subst by counted e

pub key_plain : (here : Kind) → is_key here ≡ true → is_plain here ≡ true
key_plain (kind.Number of) h = refl
key_plain (kind.Numbers list) h = refl
key_plain (kind.Tables most) h = refl
key_plain kind.Shape h = refl
key_plain kind.Plans h = refl
key_plain kind.Document h = refl
key_plain kind.FormulaName h = cc
key_plain kind.FormulaText h = refl
key_plain kind.Formulas h = cc
key_plain kind.PredictedShip h = refl
key_plain kind.PredictedChanges h = refl

-- the lists of tables are those with known members

abbrev pub IsKnownList : Members → Row → Type 0
IsKnownList document here =
    (most : ℕ) → here.kind ≡ kind.Tables most → All (λ found. depth (known_members here.name found) ≤ 3) (list_at here.table here.name document)

abbrev pub list_name : When → List ℕ
list_name when.ForOwnShip = codes "predict"
list_name _ = codes "formula"

abbrev pub is_known_list : Kind → Row → Bool
is_known_list (kind.Tables most) here = bytes_eq here.table (codes "") && bytes_eq here.name (list_name here.when)
is_known_list _ here = true

named_deep : (document : Members) → IsFaultless (for_migration document) document → (here : When) → counts (basis_of (has_own document) document) here ≡ true →
    All (λ found. depth (known_members (list_name here) found) ≤ 3) (list_at (codes "") (list_name here) document)
unfolding formula_tables
named_deep document h when.Always counted = formulas_deep (ranking_of (for_migration document) document) (tick_of document) (formula_tables document) (formulas_faultless (for_migration document) document h)
named_deep document h when.InVersionOne counted = formulas_deep (ranking_of (for_migration document) document) (tick_of document) (formula_tables document) (formulas_faultless (for_migration document) document h)
named_deep document h when.InVersionTwo counted = formulas_deep (ranking_of (for_migration document) document) (tick_of document) (formula_tables document) (formulas_faultless (for_migration document) document h)
named_deep document h when.ForOwnShip counted =
    predictions_deep (tick_of document) (natural_at (codes "own") (codes "mmsi") document) (list_at (codes "") (codes "predict") document)
    (predict_faultless (for_migration document) document counted h)

known_list : (document : Members) (here : Row) → IsFaultless (for_migration document) document → counts (basis_of (has_own document) document) here.when ≡ true →
    is_known_list here.kind here ≡ true → IsKnownList document here
known_list document here h counted known most e =
    let f : bytes_eq here.table (codes "") && bytes_eq here.name (list_name here.when) ≡ true = subst (λ (k : Kind). is_known_list k here ≡ true) e known in
    let (a, b) = and_parts (bytes_eq here.table (codes "")) (bytes_eq here.name (list_name here.when)) f in
    let table_is = (bytes_eq-Decides here.table (codes "")).0 a in
    let name_is = (bytes_eq-Decides here.name (list_name here.when)).0 b in
    let C : List ℕ → List ℕ → Type 0 = λ table name. All (λ found. depth (known_members name found) ≤ 3) (list_at table name document) in
    subst (λ (t : List ℕ). C t here.name) (sym table_is) (subst (λ (n : List ℕ). C (codes "") n) (sym name_is) (named_deep document h here.when counted))

pub untouched : (here : Row) (found : Option Data) → ((name : List ℕ) (d : Data) → kept_by here.kind name d ≡ d) → kept here found ≡ found
untouched here None h = refl
untouched here (Some found) h = ap (λ (d : Data). Some d) (h here.name found)

kept_deep : (basis : Basis) (document : Members) (here : Row) (what : Kind) → here.kind ≡ what → is_key what ≡ true →
    fault_in basis here.number here.name what (table_at here.table document) ≡ None → IsKnownList document here → IsDeep 4 (kept here (found_at here.table here.name document))
unfolding list_at
kept_deep basis document here (kind.Number of) e key h known =
    let found = found_at here.table here.name document in
    let same = untouched here found (λ name d. ap (λ (k : Kind). kept_by k name d) e) in
    subst (λ (x : Option Data). IsDeep 4 x) (sym same)
    (deeper 0 4 found (omega arith) (number_deep _ found (number_uncaused basis here.number here.name of (table_at here.table document) h)))
kept_deep basis document here (kind.Numbers list) e key h known =
    let found = found_at here.table here.name document in
    let same = untouched here found (λ name d. ap (λ (k : Kind). kept_by k name d) e) in
    subst (λ (x : Option Data). IsDeep 4 x) (sym same)
    (deeper 1 4 found (omega arith) (list_deep list found (list_uncaused basis here.number here.name list (table_at here.table document) h)))
kept_deep basis document here (kind.Tables most) e key h known =
    let found = found_at here.table here.name document in
    tables_deep most 3 here.name found (tables_uncaused basis here.number here.name most (table_at here.table document) h) (known most e) here e refl
kept_deep basis document here kind.Shape e key h known =
    let found = found_at here.table here.name document in
    let same = untouched here found (λ name d. ap (λ (k : Kind). kept_by k name d) e) in
    subst (λ (x : Option Data). IsDeep 4 x) (sym same)
    (deeper 2 4 found (omega arith) (shape_deep found (shape_uncaused basis here.number here.name (table_at here.table document) h)))
kept_deep basis document here kind.Plans e key h known = cc
kept_deep basis document here kind.Document e key h known = cc
kept_deep basis document here kind.FormulaName e key h known = cc
kept_deep basis document here kind.FormulaText e key h known = cc
kept_deep basis document here kind.Formulas e key h known = cc
kept_deep basis document here kind.PredictedShip e key h known = cc
kept_deep basis document here kind.PredictedChanges e key h known = cc

counted_deep : (document : Members) (here : Row) → IsFaultless (for_migration document) document → IsToldFor (for_migration document) document here None →
    is_key here.kind ≡ true → is_known_list here.kind here ≡ true → counts (basis_of (has_own document) document) here.when ≡ true →
    IsDeep 4 (kept here (found_at here.table here.name document))
counted_deep document here h told key known counted =
    kept_deep (basis_of (has_own document) document) document here here.kind refl key
    (key_faultless (basis_of (has_own document) document) (ranking_of (for_migration document) document) document here told (key_plain here.kind key) counted)
    (known_list document here h counted known)

safe_deep : (document : Members) → is_version_two document ≡ false → IsFaultless (for_migration document) document → IsDeep 4 (found_at (codes "rules") (codes "safe") document)
unfolding first_rows
safe_deep document one h =
    let here = row_in_version_one 22 (codes "rules") (codes "safe") metres in
    let told = (faultless_parts (for_migration document) document h).0 22 here (omega arith) in
    let counted : counts (basis_of (has_own document) document) when.InVersionOne ≡ true = ap not one in
    let deep = counted_deep document here h told refl refl counted in
    let found = found_at (codes "rules") (codes "safe") document in
    subst (λ (x : Option Data). IsDeep 4 x) (untouched here found (λ name d. refl)) deep

number_or_kept : (b : Bool) (kept : Option Data) → IsDeep 4 kept → IsDeep 4 (if b then Some (integer (pos 2)) else kept)
number_or_kept true kept h = omega arith
number_or_kept false kept h = h

own_or_none : (b : Bool) (kept : Option Data) → (b ≡ true → IsDeep 4 kept) → IsDeep 4 (if b then kept else None)
own_or_none true kept h = h refl
own_or_none false kept h = tt

value_deep : (document : Members) (here : Row) (moment : When) → here.when ≡ moment → is_version_two document ≡ false → IsFaultless (for_migration document) document →
    IsToldFor (for_migration document) document here None → is_key here.kind ≡ true → is_known_list here.kind here ≡ true →
    IsDeep 4 (new_value_when moment here document)
value_deep document here when.Always e one h told key known =
    number_or_kept (here.number == 1) (kept here (found_at here.table here.name document))
    (counted_deep document here h told key known (ap (counts (basis_of (has_own document) document)) e))
value_deep document here when.InVersionOne e one h told key known =
    number_or_kept (here.number == 1) (kept here (found_at here.table here.name document))
    (counted_deep document here h told key known (ap (counts (basis_of (has_own document) document)) e ∙ ap not one))
value_deep document here when.InVersionTwo e one h told key known = safe_deep document one h
value_deep document here when.ForOwnShip e one h told key known =
    own_or_none (has_own document) (kept here (found_at here.table here.name document))
    (λ own. counted_deep document here h told key known (ap (counts (basis_of (has_own document) document)) e ∙ own))

abbrev pub HasDeepValue : Members → Row → Type 0
HasDeepValue document here = is_key here.kind ≡ true → IsDeep 4 (new_value document here)

values_deep : (document : Members) → is_version_two document ≡ false → IsFaultless (for_migration document) document → (list : List Row) →
    All (λ here. IsToldFor (for_migration document) document here None) list → list_all (λ here. is_known_list here.kind here) list ≡ true →
    All (HasDeepValue document) list
unfolding new_value
values_deep document one h [] told known = λ k d lt. absurd (omega arith)
values_deep document one h (here ∷ rest) told known =
    let P : Row → Type 0 = λ here. IsToldFor (for_migration document) document here None in
    let (a, b) = and_parts (is_known_list here.kind here) (list_all (λ here. is_known_list here.kind here) rest) known in
    All-cons (HasDeepValue document) here rest
    (λ key. value_deep document here here.when refl one h (all_head P here rest told) key a)
    (values_deep document one h rest (all_tail P here rest told) b)

-- all of them together

key_deep : (document : Members) (table : List ℕ) (here : Row) (members : Members) → HasDeepValue document here → members_depth members ≤ 4 → members_depth (with_key document table here members) ≤ 4
key_deep document table here members h k =
    elim (is_key_of table here) as (λ b. is_key_of table here ≡ b → members_depth (if b then with_found here.name (new_value document here) members else members) ≤ 4) [
      | true ↦ λ e. (
          let (a, b) = and_parts (is_key here.kind) (bytes_eq here.table table) e in
          found_deep 4 here.name (new_value document here) members (h a) k)
      | false ↦ λ e. k
    ] refl

keys_deep : (document : Members) (table : List ℕ) (list : List Row) (members : Members) → All (HasDeepValue document) list → members_depth members ≤ 4 →
    members_depth (with_keys document table list members) ≤ 4
keys_deep document table [] members h k = k
keys_deep document table (here ∷ rest) members h k =
    keys_deep document table rest (with_key document table here members) (all_tail (HasDeepValue document) here rest h)
    (key_deep document table here members (all_head (HasDeepValue document) here rest h) k)

tables_put_deep : (document : Members) → ((name : List ℕ) → members_depth (keys_of document name) ≤ 4) → (names : List (List ℕ)) (members : Members) → members_depth members ≤ 5 →
    members_depth (with_tables document names members) ≤ 5
tables_put_deep document h [] members k = k
tables_put_deep document h (name ∷ names) members k = tables_put_deep document h names (with_table document name members) (put (is_some (get_member name document)))
  where
    put : (b : Bool) → members_depth (if b then with_member name (toml.table (keys_of document name)) members else members) ≤ 5
    put true = let a = h name in no_deeper 5 name (toml.table (keys_of document name)) members (omega arith) k
    put false = k

pub migrated_deep : (document : Members) → is_version_two document ≡ false → IsFaultless (for_migration document) document → members_depth (migrated document) ≤ 5
unfolding migrated keys_of IsFaultless first_rows formula_rows own_rows
migrated_deep document one h =
    let deep : (name : List ℕ) → members_depth (keys_of document name) ≤ 4 =
    λ name. keys_deep document name rows no_members (values_deep document one h rows h refl) (omega arith) in
    let top = deep (codes "") in
    tables_put_deep document deep table_names (keys_of document (codes "")) (omega arith)
