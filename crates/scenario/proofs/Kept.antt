-- What a migrated document holds at the keys of the table of keys.
use Rattle.std.proofs.Common.{◌≡◌, ℕ, List, [], ◌∷◌, ◌++◌, map, Bool, true, false, ◌&&◌, if◌then◌else◌, ◌||◌, Option, Some, None, refl, ap, sym, ◌∙◌, subst}
use Rattle.std.specs.Prelude.{filter, is_some}
use Rattle.std.specs.List.{list_any}
use Rattle.std.specs.Str.{bytes_eq}
use Rattle.std.proofs.lemmas.Slice.Eq.{bytes_eq-Decides}
use Rattle.toml.specs.Data.{Data, array, Members, no_members, as_array, get_member}
use Rattle.toml.specs.Data as toml
use Rattle.toml.specs.View.{items_of, items_view, view}
use Rattle.toml.specs.declared.value.Value.{Value}
use Rattle.scenario_keys.specs.ScenarioKeys.{first_rows, formula_rows, own_rows, rows, Row}
use Rattle.scenario_keys.specs.declared.rows.Kind.{Kind}
use Rattle.scenario_keys.specs.declared.rows.Kind.TheVariants as kind
use Rattle.scenario_keys.proofs.Elements.{mapped_seen}
use Rattle.scenario.specs.Migration.{is_key_at, is_key_of, kept_array, kept_by, known_members, new_value}
use Rattle.scenario.specs.Inner.PutTogether.{keys_of, with_found, with_key, with_keys, with_member, with_table, with_tables}
use Rattle.scenario.proofs.Members.{found_other, found_same, get_other, get_same, or_else, or_none}

-- in the keys of one table

abbrev pub value_by : Members → List Row → Option Data → Option Data
value_by document [] found = found
value_by document (here ∷ rest) found = value_by document rest (or_else (new_value document here) found)

named_by : (document : Members) (name : List ℕ) (here : Row) (members : Members) (b : Bool) → bytes_eq name here.name ≡ b →
    get_member name (with_found here.name (new_value document here) members)
    ≡ (if b then or_else (new_value document here) (get_member name members) else get_member name members)
named_by document name here members true e =
    let same = (bytes_eq-Decides name here.name).0 e in
    subst (λ (n : List ℕ). get_member n (with_found here.name (new_value document here) members) ≡ or_else (new_value document here) (get_member n members))
    (sym same) (found_same here.name (new_value document here) members)
named_by document name here members false e = found_other name here.name (new_value document here) members e

key_by : (document : Members) (table name : List ℕ) (here : Row) (members : Members) →
    get_member name (with_key document table here members)
    ≡ (if is_key_at table name here then or_else (new_value document here) (get_member name members) else get_member name members)
key_by document table name here members =
    elim (is_key_of table here) as (λ b. get_member name (if b then with_found here.name (new_value document here) members else members)
    ≡ (if b && bytes_eq name here.name then or_else (new_value document here) (get_member name members) else get_member name members)) [
      | true ↦ named_by document name here members (bytes_eq name here.name) refl
      | false ↦ refl
    ]

pub keys_by : (document : Members) (table name : List ℕ) (list : List Row) (members : Members) →
    get_member name (with_keys document table list members) ≡ value_by document (filter (is_key_at table name) list) (get_member name members)
keys_by document table name [] members = refl
keys_by document table name (here ∷ rest) members =
    keys_by document table name rest (with_key document table here members)
    ∙ ap (value_by document (filter (is_key_at table name) rest)) (key_by document table name here members)
    ∙ put (is_key_at table name here)
  where
    put : (b : Bool) → value_by document (filter (is_key_at table name) rest) (if b then or_else (new_value document here) (get_member name members) else get_member name members)
        ≡ value_by document (if b then here ∷ filter (is_key_at table name) rest else filter (is_key_at table name) rest) (get_member name members)
    put true = refl
    put false = refl

-- the key is of this row alone
abbrev pub IsAlone : Row → Type 0
IsAlone here = filter (is_key_at here.table here.name) rows ≡ here ∷ []

pub key_held : (document : Members) (here : Row) → IsAlone here → get_member here.name (keys_of document here.table) ≡ new_value document here
unfolding keys_of
key_held document here alone =
    keys_by document here.table here.name rows no_members
    ∙ ap (λ (list : List Row). value_by document list None) alone
    ∙ or_none (new_value document here)

-- among the tables

pub tables_by : (document : Members) (name : List ℕ) (names : List (List ℕ)) (members : Members) →
    get_member name (with_tables document names members)
    ≡ (if list_any (bytes_eq name) names && is_some (get_member name document) then Some (toml.table (keys_of document name)) else get_member name members)
tables_by document name [] members = refl
tables_by document name (this ∷ names) members =
    tables_by document name names (with_table document this members) ∙ put (is_some (get_member this document)) (bytes_eq name this) refl refl
  where
    both : (a b : Bool) → b ≡ true → (x y : Option Data) → y ≡ x → (if a && b then x else y) ≡ (if true && b then x else get_member name members)
    both a true e x y h = cases a
      where
        cases : (a : Bool) → (if a && true then x else y) ≡ x
        cases true = refl
        cases false = h
    both a false e x y h = cc

    none : (a b : Bool) → b ≡ false → (x y : Option Data) → (if a && b then x else y) ≡ (if true && b then x else y)
    none true false e x y = refl
    none false false e x y = refl
    none a true e x y = cc

    put : (has same : Bool) → is_some (get_member this document) ≡ has → bytes_eq name this ≡ same →
        (if list_any (bytes_eq name) names && is_some (get_member name document)
        then Some (toml.table (keys_of document name))
        else get_member name (if has then with_member this (toml.table (keys_of document this)) members else members))
        ≡ (if (same || list_any (bytes_eq name) names) && is_some (get_member name document) then Some (toml.table (keys_of document name)) else get_member name members)
    put true true e f =
        let is = (bytes_eq-Decides name this).0 f in
        let g : is_some (get_member name document) ≡ true = subst (λ (n : List ℕ). is_some (get_member n document) ≡ true) (sym is) e in
        let held : get_member name (with_member this (toml.table (keys_of document this)) members) ≡ Some (toml.table (keys_of document name)) =
        subst (λ (n : List ℕ). get_member n (with_member this (toml.table (keys_of document this)) members) ≡ Some (toml.table (keys_of document n))) (sym is)
        (get_same this (toml.table (keys_of document this)) members) in
        both (list_any (bytes_eq name) names) (is_some (get_member name document)) g _ _ held
    put true false e f =
        ap (λ (x : Option Data). if list_any (bytes_eq name) names && is_some (get_member name document) then Some (toml.table (keys_of document name)) else x)
        (get_other name this (toml.table (keys_of document this)) members f)
    put false true e f =
        let is = (bytes_eq-Decides name this).0 f in
        let g : is_some (get_member name document) ≡ false = subst (λ (n : List ℕ). is_some (get_member n document) ≡ false) (sym is) e in
        none (list_any (bytes_eq name) names) (is_some (get_member name document)) g _ _
    put false false e f = refl

-- the rows that are of one key, in the two parts of the table of keys

keys_behind : (document : Members) (table : List ℕ) (a b : List Row) (members : Members) →
    with_keys document table (a ++ b) members ≡ with_keys document table b (with_keys document table a members)
keys_behind document table [] b members = refl
keys_behind document table (here ∷ a) b members = keys_behind document table a b (with_key document table here members)

no_formula_keys : (document : Members) (table : List ℕ) (members : Members) → with_keys document table formula_rows members ≡ members
unfolding formula_rows
no_formula_keys document table members = refl

pub keys_in_parts : (document : Members) (table : List ℕ) → with_keys document table own_rows (with_keys document table first_rows no_members) ≡ keys_of document table
unfolding keys_of
keys_in_parts document table =
    let front = with_keys document table first_rows no_members in
    sym (
    keys_behind document table first_rows (formula_rows ++ own_rows) no_members
    ∙ keys_behind document table formula_rows own_rows front
    ∙ ap (with_keys document table own_rows) (no_formula_keys document table front))

-- the tables of a list

pub list_kept : (what : Kind) (most : ℕ) (name : List ℕ) (found : Data) (tables known : List Value) → what ≡ kind.Tables most → as_array found ≡ Some (items_view tables) →
    map view known ≡ map (λ v. known_members name (view v)) tables → array (items_view known) ≡ kept_by what name found
list_kept what most name found tables known e f h =
    ap (λ (list : List Data). array (items_of list)) (h ∙ sym (mapped_seen (known_members name) tables))
    ∙ sym (ap (λ (k : Kind). kept_by k name found) e ∙ ap (kept_array name found) f)
