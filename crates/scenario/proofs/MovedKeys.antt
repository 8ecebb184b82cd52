-- What a migrated document holds, beside what the document held.
use Rattle.std.proofs.Common.{◌≡◌, ℕ, pos, List, [], ◌∷◌, ◌++◌, length, Bool, true, false, not, ◌&&◌, ◌==◌, if◌then◌else◌, Option, Some, None, Ok, Err, refl, ap, sym, ◌∙◌, subst, All, arith}
use Rattle.std.specs.Prelude.{codes, filter, is_some}
use Rattle.std.specs.List.{list_all, list_any}
use Rattle.std.specs.Str.{bytes_eq}
use Rattle.std.proofs.lemmas.Bool.{and_parts}
use Rattle.std.proofs.lemmas.Bool.Decides.{nat_tests}
use Rattle.std.proofs.lemmas.List.Elements.{All-cons}
use Rattle.toml.specs.Data.{Data, integer, Members, as_table, get_member}
use Rattle.toml.specs.Data as toml
use Rattle.scenario_keys.specs.KeyValues.{found_in, found_table, table_at}
use Rattle.scenario_keys.specs.ScenarioKeys.{first_rows, formula_rows, own_rows, rows, Row}
use Rattle.scenario_keys.specs.declared.rows.When.{When}
use Rattle.scenario_keys.specs.declared.rows.When.TheVariants as when
use Rattle.scenario_keys.proofs.ForCallers.{all_back, all_front, all_head, all_tail}
use Rattle.scenario.specs.DocumentFaults.{IsFaultless, IsToldFor}
use Rattle.scenario.specs.KeyFaults.{basis_of, counts, fault_in}
use Rattle.scenario.specs.Purposes.{ranking_of}
use Rattle.scenario.specs.Migration.{for_migration, found_at, has_own, is_key, is_key_at, kept, new_value, new_value_when, table_names}
use Rattle.scenario.specs.Inner.PutTogether.{keys_of, migrated}
use Rattle.scenario.specs.declared.basis.Basis.{Basis}
use Rattle.scenario.proofs.Kept.{key_held, tables_by, IsAlone}
use Rattle.scenario.proofs.Shallow.{faultless_parts, key_faultless, key_plain}

-- each key has one row

abbrev pub is_single : Row → Bool
is_single here = is_key_at here.table here.name here && (length (filter (is_key_at here.table here.name) rows) == 1)

filter_behind : (p : Row → Bool) (a b : List Row) → filter p (a ++ b) ≡ filter p a ++ filter p b
filter_behind p [] b = refl
filter_behind p (here ∷ a) b =
    ap (λ (l : List Row). if p here then here ∷ l else l) (filter_behind p a b) ∙ put (p here)
  where
    put : (c : Bool) → (if c then here ∷ (filter p a ++ filter p b) else filter p a ++ filter p b) ≡ (if c then here ∷ filter p a else filter p a) ++ filter p b
    put true = refl
    put false = refl

filter_here : (p : Row → Bool) (here : Row) (after : List Row) → p here ≡ true → filter p (here ∷ after) ≡ here ∷ filter p after
filter_here p here after h = rw h refl

one_left : (a : List Row) (here : Row) (b : List Row) → length (a ++ here ∷ b) ≡ 1 → a ++ here ∷ b ≡ here ∷ []
one_left [] here [] h = refl
one_left [] here (x ∷ b) h = absurd (omega arith)
one_left (x ∷ []) here b h = absurd (omega arith)
one_left (x ∷ y ∷ a) here b h = absurd (omega arith)

one_tested : (n : ℕ) → (n == 1) ≡ true → n ≡ 1
one_tested n h = grind (arith, nat_tests)

alone : (before : List Row) (here : Row) (after : List Row) → rows ≡ before ++ here ∷ after → is_single here ≡ true → IsAlone here
alone before here after e h =
    let p : Row → Bool = is_key_at here.table here.name in
    let (a, b) = and_parts (p here) (length (filter p rows) == 1) h in
    let parts : filter p rows ≡ filter p before ++ here ∷ filter p after =
    ap (filter p) e ∙ filter_behind p before (here ∷ after) ∙ ap (λ (l : List Row). filter p before ++ l) (filter_here p here after a) in
    parts ∙ one_left (filter p before) here (filter p after) (ap length (sym parts) ∙ one_tested (length (filter p rows)) b)

-- and its place is the document, or one of the tables

abbrev pub is_placed : Row → Bool
is_placed here = if length here.table == 0 then not (list_any (bytes_eq here.name) table_names) else list_any (bytes_eq here.table) table_names

abbrev pub is_known : Row → Bool
is_known here = if is_key here.kind then is_single here && is_placed here else true

abbrev pub IsKnown : Row → Type 0
IsKnown here = is_key here.kind ≡ true → IsAlone here × (is_placed here ≡ true)

rows_behind : (before : List Row) (here : Row) (after : List Row) → before ++ here ∷ after ≡ (before ++ here ∷ []) ++ after
rows_behind [] here after = refl
rows_behind (x ∷ before) here after = ap (λ (l : List Row). x ∷ l) (rows_behind before here after)

known_from : (before list : List Row) → rows ≡ before ++ list → list_all is_known list ≡ true → All IsKnown list
known_from before [] e h = λ k d lt. absurd (omega arith)
known_from before (here ∷ after) e h =
    let (a, b) = and_parts (is_known here) (list_all is_known after) h in
    All-cons IsKnown here after
    (λ key. (
    let c : is_single here && is_placed here ≡ true = subst (λ (k : Bool). (if k then is_single here && is_placed here else true) ≡ true) key a in
    let (d, f) = and_parts (is_single here) (is_placed here) c in
    (alone before here after e d, f)))
    (known_from (before ++ here ∷ []) after (e ∙ rows_behind before here after) b)

pub all_known : All IsKnown rows
unfolding first_rows formula_rows own_rows
all_known = known_from [] rows refl refl

-- what the migrated document holds at a key whose place the document has

pub record Held (document : Members) (here : Row) : Type 0 where
  pub members : Members
  pub is : table_at here.table (migrated document) ≡ Ok members
  pub value : get_member here.name members ≡ new_value document here

abbrev pub HasPlace : Members → Row → Type 0
HasPlace document here = (table : Members) × (table_at here.table document ≡ Ok table)

empty : (name : List ℕ) → (length name == 0) ≡ true → name ≡ []
empty [] h = refl
empty (x ∷ name) h = let l : length (x ∷ name) ≡ 0 = grind (arith, nat_tests) in absurd (omega arith)

at_top : (document : Members) (name : List ℕ) → not (list_any (bytes_eq name) table_names) ≡ true →
    get_member name (migrated document) ≡ get_member name (keys_of document (codes ""))
unfolding migrated
at_top document name h =
    tables_by document name table_names (keys_of document (codes ""))
    ∙ cases (list_any (bytes_eq name) table_names) h
  where
    cases : (b : Bool) → not b ≡ true →
        (if b && is_some (get_member name document) then Some (toml.table (keys_of document name)) else get_member name (keys_of document (codes "")))
        ≡ get_member name (keys_of document (codes ""))
    cases true h = cc
    cases false h = refl

in_table : (document : Members) (name : List ℕ) → list_any (bytes_eq name) table_names ≡ true → is_some (get_member name document) ≡ true →
    get_member name (migrated document) ≡ Some (toml.table (keys_of document name))
unfolding migrated
in_table document name h k = tables_by document name table_names (keys_of document (codes "")) ∙ rw (h, k) refl

pub there : (document : Members) (name : List ℕ) (table : Members) → found_table (get_member name document) ≡ Ok table → is_some (get_member name document) ≡ true
there document name table h = by (get_member name document) h
  where
    by : (found : Option Data) → found_table found ≡ Ok table → is_some found ≡ true
    by None h = cc
    by (Some found) h = refl

held_by : (document : Members) (here : Row) (top : Bool) → (length here.table == 0) ≡ top → IsAlone here →
    (if top then not (list_any (bytes_eq here.name) table_names) else list_any (bytes_eq here.table) table_names) ≡ true →
    (table : Members) → (if top then Ok document else found_table (get_member here.table document)) ≡ Ok table → Held document here
held_by document here true e alone placed table h =
    let is = empty here.table e in
    record {
      members = migrated document;
      is = ap (λ (name : List ℕ). table_at name (migrated document)) is;
      value = at_top document here.name placed ∙ sym (ap (λ (t : List ℕ). get_member here.name (keys_of document t)) is) ∙ key_held document here alone;
    }
held_by document here false e alone placed table h =
    let found = in_table document here.table placed (there document here.table table h) in
    record {
      members = keys_of document here.table;
      is = rw (e, found) refl;
      value = key_held document here alone;
    }

pub held : (document : Members) (here : Row) → IsAlone here → is_placed here ≡ true → HasPlace document here → Held document here
held document here alone placed (table, is) = held_by document here (length here.table == 0) refl alone placed table is

-- a key without a fault has its place

pub place_of : (basis : Basis) (document : Members) (here : Row) → fault_in basis here.number here.name here.kind (table_at here.table document) ≡ None → HasPlace document here
place_of basis document here h =
    elim (table_at here.table document) as (λ t. table_at here.table document ≡ t → fault_in basis here.number here.name here.kind t ≡ None → HasPlace document here) [
      | Err cause ↦ λ e f. cc
      | Ok table ↦ λ e f. (table, e)
    ] refl h

-- what such a key holds, but for the version and the safe distances, is what is kept of what it held

abbrev pub is_second : When → Bool
is_second when.InVersionTwo = true
is_second _ = false

abbrev pub is_moved : Row → Bool
is_moved here = is_key here.kind && (not (here.number == 1) && not (is_second here.when))

abbrev pub IsMoved : Members → Row → Type 0
IsMoved document here = found_at here.table here.name (migrated document) ≡ kept here (found_at here.table here.name document)

not_one : (b : Bool) (one kept : Option Data) → not b ≡ true → (if b then one else kept) ≡ kept
not_one true one kept h = cc
not_one false one kept h = refl

value_when : (document : Members) (here : Row) (moment : When) → not (here.number == 1) ≡ true → not (is_second moment) ≡ true →
    counts (basis_of (has_own document) document) moment ≡ true → new_value_when moment here document ≡ kept here (found_at here.table here.name document)
value_when document here when.Always first second counted =
    not_one (here.number == 1) (Some (integer (pos 2))) (kept here (found_at here.table here.name document)) first
value_when document here when.InVersionOne first second counted =
    not_one (here.number == 1) (Some (integer (pos 2))) (kept here (found_at here.table here.name document)) first
value_when document here when.InVersionTwo first second counted = cc
value_when document here when.ForOwnShip first second counted = rw counted refl

pub value_moved : (document : Members) (here : Row) → is_moved here ≡ true → counts (basis_of (has_own document) document) here.when ≡ true →
    new_value document here ≡ kept here (found_at here.table here.name document)
unfolding new_value
value_moved document here moved counted =
    let (a, b) = and_parts (is_key here.kind) (not (here.number == 1) && not (is_second here.when)) moved in
    let (c, d) = and_parts (not (here.number == 1)) (not (is_second here.when)) b in
    value_when document here here.when c d counted

moved_by : (document : Members) (here : Row) → Held document here → is_moved here ≡ true → counts (basis_of (has_own document) document) here.when ≡ true → IsMoved document here
moved_by document here held moved counted =
    ap (found_in here.name) held.is ∙ held.value ∙ value_moved document here moved counted

-- all keys of a document of version 1 without a fault

pub record IsRow (document : Members) (here : Row) : Type 0 where
  pub told : IsToldFor (for_migration document) document here None
  pub known : IsKnown here

both : (P Q : Row → Type 0) (list : List Row) → All P list → All Q list → (R : Row → Type 0) → ((here : Row) → P here → Q here → R here) → All R list
both P Q [] h k R f = λ i d lt. absurd (omega arith)
both P Q (here ∷ rest) h k R f =
    All-cons R here rest (f here (all_head P here rest h) (all_head Q here rest k)) (both P Q rest (all_tail P here rest h) (all_tail Q here rest k) R f)

pub all_rows : (document : Members) → IsFaultless (for_migration document) document → All (IsRow document) first_rows × All (IsRow document) own_rows
all_rows document h =
    let P : Row → Type 0 = λ here. IsToldFor (for_migration document) document here None in
    let parts = faultless_parts (for_migration document) document h in
    let join : (here : Row) → P here → IsKnown here → IsRow document here = λ here told known. record { told = told; known = known } in
    let front = all_front IsKnown first_rows (formula_rows ++ own_rows) all_known in
    let back = all_back IsKnown formula_rows own_rows (all_back IsKnown first_rows (formula_rows ++ own_rows) all_known) in
    (both P IsKnown first_rows parts.0 front (IsRow document) join, both P IsKnown own_rows parts.2 back (IsRow document) join)

pub row_held : (document : Members) (here : Row) → IsRow document here → is_key here.kind ≡ true → counts (basis_of (has_own document) document) here.when ≡ true → Held document here
row_held document here row key counted =
    let basis = basis_of (has_own document) document in
    let (a, p) = row.known key in
    held document here a p (place_of basis document here (key_faultless basis (ranking_of (for_migration document) document) document here row.told (key_plain here.kind key) counted))

pub row_moved : (document : Members) (here : Row) → IsRow document here → is_moved here ≡ true → counts (basis_of (has_own document) document) here.when ≡ true → IsMoved document here
row_moved document here row moved counted =
    let (key, rest) = and_parts (is_key here.kind) (not (here.number == 1) && not (is_second here.when)) moved in
    moved_by document here (row_held document here row key counted) moved counted
