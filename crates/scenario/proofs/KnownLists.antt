-- The tables of a list, reduced to their known members: they have the same faults and the same values.
use Rattle.std.proofs.Common.{◌≡◌, ℕ, List, [], ◌∷◌, ◌++◌, map, length, Bool, true, false, ◌==◌, if◌then◌else◌, Option, Some, None, refl, ap, sym, ◌∙◌, subst, All, arith}
use Rattle.std.specs.Prelude.{codes}
use Rattle.std.specs.List.{list_any, position, position_or_len}
use Rattle.std.specs.Str.{bytes_eq}
use Rattle.std.proofs.lemmas.Bool.Decides.{nat_tests}
use Rattle.std.proofs.lemmas.List.{length-map, map-append}
use Rattle.std.proofs.lemmas.List.Elements.{All-cons}
use Rattle.std.specs.Cmp.Lexicographic.{slice_cmp}
use Rattle.std.specs.Ordering.{nat_cmp}
use Rattle.std.proofs.lemmas.Cmp.{nat_list_cmp_total, tied_itself}
use Rattle.toml.specs.Data.{Data, Items, Members, member, no_members, as_array, get_member}
use Rattle.toml.specs.View.{items_of}
use Rattle.mtl_language.specs.FormulaReading.{tree, IsMeaning}
use Rattle.rule_set.specs.NamedTrees.{NamedTree}
use Rattle.scenario_keys.specs.FirstFaults.{with_before}
use Rattle.scenario_keys.specs.FirstOf.{first_of}
use Rattle.scenario_keys.specs.IntegerFaults.{number_cause}
use Rattle.scenario_keys.specs.KeyValues.{array_in, integer_found, list_in, member_at, natural_of}
use Rattle.scenario_keys.specs.ListFaults.{at_item, elements, is_no_table, length_fault, table_array_fault, tables_fault, tables_fault_in}
use Rattle.scenario_keys.specs.ScenarioKeys.{Row}
use Rattle.scenario_keys.specs.ToldFaults.{fault_by_at, item_of}
use Rattle.scenario_keys.specs.declared.rows.Kind.{Kind}
use Rattle.scenario_keys.specs.declared.rows.Kind.TheVariants as kind
use Rattle.scenario_keys.specs.declared.key.Key.{Key}
use Rattle.scenario_keys.specs.declared.cause.Cause.{Cause}
use Rattle.scenario_keys.specs.declared.cause.Cause.TheVariants as cause
use Rattle.scenario_keys.proofs.ForCallers.{all_head, all_tail}
use Rattle.rule_set.specs.declared.ranking.Ranking.{Ranking}
use Rattle.scenario_rules.specs.FormulaTables.{is_name_taken, name_cause, formula_name_in, rule_names, string_in, IsFormulaFault, IsTableFault, IsTextFault}
use Rattle.scenario_rules.specs.ScenarioRules.{AreAdded, IsAdded}
use Rattle.predictions.specs.PredictFaults.{changes_cause, predicted_mmsi, predict_fault, ship_cause, table_fault}
use Rattle.predictions.specs.PredictFaults as predicted
use Rattle.predictions.specs.PredictValues.{predicted_changes, predict_of, predictions_of}
use Rattle.predictions.specs.declared.predictions.Predict.{Predict}
use Rattle.scenario.specs.Migration.{kept, kept_array, kept_by, known_members, member_if, two_of}
use Rattle.scenario.proofs.ListsHeld.{first_one, first_two}
use Rattle.scenario.proofs.Members.{passed, unlike}

-- the two members of a table

found_itself : (name : List ℕ) (here : Data) (rest : Members) → get_member name (member name here rest) ≡ Some here
found_itself name here rest = rw (tied_itself nat_list_cmp_total name) refl

two_found : (first second : List ℕ) (a b : Option Data) → bytes_eq first second ≡ false → get_member first (member_if first a (member_if second b no_members)) ≡ a
two_found first second None None h = refl
two_found first second None (Some there) h = passed (slice_cmp nat_cmp first second) None (Some there) (unlike first second h)
two_found first second (Some here) b h = found_itself first here (member_if second b no_members)

next_found : (first second : List ℕ) (a b : Option Data) → bytes_eq second first ≡ false → get_member second (member_if first a (member_if second b no_members)) ≡ b
next_found first second a None h = alone a
  where
    alone : (a : Option Data) → get_member second (member_if first a no_members) ≡ None
    alone None = refl
    alone (Some here) = passed (slice_cmp nat_cmp second first) None (Some here) (unlike second first h)
next_found first second None (Some there) h = found_itself second there no_members
next_found first second (Some here) (Some there) h =
    passed (slice_cmp nat_cmp second first) (get_member second (member second there no_members)) (Some here) (unlike second first h)
    ∙ found_itself second there no_members

first_of_two : (first second : List ℕ) (here : Data) → bytes_eq first second ≡ false → member_at first (two_of first second here) ≡ member_at first here
first_of_two first second here h = two_found first second (member_at first here) (member_at second here) h

second_of_two : (first second : List ℕ) (here : Data) → bytes_eq second first ≡ false → member_at second (two_of first second here) ≡ member_at second here
second_of_two first second here h = next_found first second (member_at first here) (member_at second here) h

abbrev pub formula_kept : Data → Data
formula_kept = known_members (codes "formula")

abbrev pub predict_kept : Data → Data
predict_kept = known_members (codes "predict")

name_kept : (here : Data) → member_at (codes "name") (formula_kept here) ≡ member_at (codes "name") here
name_kept here = first_of_two (codes "name") (codes "text") here refl

text_kept : (here : Data) → member_at (codes "text") (formula_kept here) ≡ member_at (codes "text") here
text_kept here = second_of_two (codes "name") (codes "text") here refl

ship_kept : (here : Data) → member_at (codes "mmsi") (predict_kept here) ≡ member_at (codes "mmsi") here
ship_kept here = second_of_two (codes "changes") (codes "mmsi") here refl

changes_kept : (here : Data) → member_at (codes "changes") (predict_kept here) ≡ member_at (codes "changes") here
changes_kept here = first_of_two (codes "changes") (codes "mmsi") here refl

-- the list itself

elements_of : (list : List Data) → elements (items_of list) ≡ list
elements_of [] = refl
elements_of (here ∷ rest) = ap (λ l. here ∷ l) (elements_of rest)

array_kept : (name : List ℕ) (found : Data) → list_in (as_array (kept_array name found (as_array found))) ≡ map (known_members name) (list_in (as_array found))
array_kept name found =
    elim (as_array found) as (λ a. as_array found ≡ a → list_in (as_array (kept_array name found a)) ≡ map (known_members name) (list_in a)) [
      | None ↦ λ e. ap list_in e
      | Some items ↦ λ e. elements_of (map (known_members name) (elements items))
    ] refl

pub list_kept : (here : Row) (most : ℕ) (found : Option Data) → here.kind ≡ kind.Tables most →
    list_in (array_in (kept here found)) ≡ map (known_members here.name) (list_in (array_in found))
list_kept here most None e = refl
list_kept here most (Some found) e =
    ap (λ (k : Kind). list_in (as_array (kept_by k here.name found))) e ∙ array_kept here.name found

-- its own faults

tables_pass : (f : Data → Data) → ((d : Data) → is_no_table (f d) ≡ false) → (list : List Data) → position_or_len is_no_table (map f list) ≡ length list
tables_pass f h [] = refl
tables_pass f h (here ∷ rest) = let more = tables_pass f h rest in rw (h here) (omega arith)

all_tables : (f : Data → Data) → ((d : Data) → is_no_table (f d) ≡ false) → (list : List Data) → position is_no_table (map f list) ≡ None
all_tables f h list =
    let a = tables_pass f h list in
    let b = length-map list f in
    grind (arith, nat_tests)

known_is_table : (name : List ℕ) (here : Data) → is_no_table (known_members name here) ≡ false
known_is_table name here =
    elim (bytes_eq name (codes "formula")) as (λ b. is_no_table (if b then two_of (codes "name") (codes "text") here else two_of (codes "changes") (codes "mmsi") here) ≡ false) [
      | true ↦ refl
      | false ↦ refl
    ]

in_kept : (most : ℕ) (name : List ℕ) (list : List Data) → tables_fault_in most list ≡ None → tables_fault_in most (map (known_members name) list) ≡ None
unfolding tables_fault_in
in_kept most name list h =
    let (a, b) = first_two (at_item cause.Type_ (position is_no_table list)) (length_fault 0 most (length list)) [] h in
    let c = all_tables (known_members name) (known_is_table name) list in
    rw (c, length-map list (known_members name), first_one (length_fault 0 most (length list)) b) refl

fault_kept_in : (most : ℕ) (name : List ℕ) (found : Data) (these : Option Items) → as_array found ≡ these → table_array_fault most these ≡ None →
    table_array_fault most (as_array (kept_array name found these)) ≡ None
fault_kept_in most name found None e h = cc
fault_kept_in most name found (Some items) e h =
    ap (tables_fault_in most) (elements_of (map (known_members name) (elements items))) ∙ in_kept most name (elements items) h

pub fault_kept : (here : Row) (most : ℕ) (found : Option Data) → here.kind ≡ kind.Tables most → tables_fault most found ≡ None → tables_fault most (kept here found) ≡ None
fault_kept here most None e h = refl
fault_kept here most (Some found) e h =
    ap (λ (k : Kind). table_array_fault most (as_array (kept_by k here.name found))) e ∙ fault_kept_in most here.name found (as_array found) refl h

-- the faults of `formula`

names_kept : (tables : List Data) → map formula_name_in (map formula_kept tables) ≡ map formula_name_in tables
names_kept [] = refl
names_kept (here ∷ rest) =
    ap (λ (l : List (List ℕ)). string_in (member_at (codes "name") (formula_kept here)) ∷ l) (names_kept rest)
    ∙ ap (λ (x : Option Data). string_in x ∷ map formula_name_in rest) (name_kept here)

taken_kept : (ranks : Ranking) (before : List Data) → is_name_taken ranks (map formula_kept before) ≡ is_name_taken ranks before
taken_kept ranks before = ap (λ (l : List (List ℕ)). λ (name : List ℕ). list_any (λ taken. bytes_eq taken name) (rule_names ranks ++ l)) (names_kept before)

formula_fault_kept : (ranks : Ranking) (tick : ℕ) (before : List Data) (here : Data) → IsTableFault ranks tick (before, here) None → IsTableFault ranks tick (map formula_kept before, formula_kept here) None
formula_fault_kept ranks tick before here h =
    let C : ℕ → (List ℕ → Bool) → Option Data → Option Data → Type 0 = λ n taken name text. IsTextFault tick n (name_cause taken name) text None in
    subst (λ n. C n (is_name_taken ranks (map formula_kept before)) (member_at (codes "name") (formula_kept here)) (member_at (codes "text") (formula_kept here))) (sym (length-map before formula_kept))
    (subst (λ taken. C (length before) taken (member_at (codes "name") (formula_kept here)) (member_at (codes "text") (formula_kept here))) (sym (taken_kept ranks before))
    (subst (λ name. C (length before) (is_name_taken ranks before) name (member_at (codes "text") (formula_kept here))) (sym (name_kept here))
    (subst (λ text. C (length before) (is_name_taken ranks before) (member_at (codes "name") here) text) (sym (text_kept here)) h)))

each_kept : (P : List Data × Data → Type 0) (f : Data → Data) → ((before : List Data) (here : Data) → P (before, here) → P (map f before, f here)) →
    (before tables : List Data) → All P (with_before before tables) → All P (with_before (map f before) (map f tables))
each_kept P f h before [] all = λ k d lt. absurd (omega arith)
each_kept P f h before (here ∷ rest) all =
    All-cons P (map f before, f here) (with_before (map f before ++ f here ∷ []) (map f rest))
    (h before here (all_head P (before, here) (with_before (before ++ here ∷ []) rest) all))
    (subst (λ (front : List Data). All P (with_before front (map f rest))) (map-append f before (here ∷ []))
    (each_kept P f h (before ++ here ∷ []) rest (all_tail P (before, here) (with_before (before ++ here ∷ []) rest) all)))

pub formulas_kept : (ranks : Ranking) (tick : ℕ) (tables : List Data) → IsFormulaFault ranks tick tables None → IsFormulaFault ranks tick (map formula_kept tables) None
formulas_kept ranks tick tables h = each_kept (λ pair. IsTableFault ranks tick pair None) formula_kept (formula_fault_kept ranks tick) [] tables h

-- the rules of `formula`

pub added_kept : (tick : ℕ) (tables : List Data) (rules : List NamedTree) → AreAdded tick tables rules → AreAdded tick (map formula_kept tables) rules
added_kept tick [] [] h = h
added_kept tick [] (rule ∷ rules) h = absurd h
added_kept tick (here ∷ tables) [] h = absurd h
added_kept tick (here ∷ tables) (rule ∷ rules) h =
    let named : IsAdded tick (formula_kept here) rule = record {
      name = h.0.name ∙ ap string_in (sym (name_kept here));
      meaning = subst (λ (text : List ℕ). IsMeaning text tick (tree rule.tree)) (ap string_in (sym (text_kept here))) h.0.meaning;
    } in
    (named, added_kept tick tables rules h.1)

-- the faults and the values of `predict`

ships_kept : (tables : List Data) → map predicted_mmsi (map predict_kept tables) ≡ map predicted_mmsi tables
ships_kept [] = refl
ships_kept (here ∷ rest) =
    ap (λ (l : List ℕ). natural_of (integer_found (member_at (codes "mmsi") (predict_kept here))) ∷ l) (ships_kept rest)
    ∙ ap (λ (x : Option Data). natural_of (integer_found x) ∷ map predicted_mmsi rest) (ship_kept here)

predict_fault_kept : (tick own : ℕ) (before : List Data) (here : Data) → table_fault tick own (map predict_kept before, predict_kept here) ≡ table_fault tick own (before, here)
unfolding table_fault
predict_fault_kept tick own before here =
    let told : ℕ → List ℕ → Option Data → Option Data → Option (Key × Cause) = λ n ships ship changes.
    first_of (
    fault_by_at 46 (item_of n) (predicted.new_cause (list_any (λ taken. taken == natural_of (integer_found ship)) (own ∷ ships)) (number_cause predicted.ships ship)) ∷
    fault_by_at 47 (item_of n) (changes_cause tick changes) ∷ []) in
    ap (λ n. told n (map predicted_mmsi (map predict_kept before)) (member_at (codes "mmsi") (predict_kept here)) (member_at (codes "changes") (predict_kept here))) (length-map before predict_kept)
    ∙ ap (λ ships. told (length before) ships (member_at (codes "mmsi") (predict_kept here)) (member_at (codes "changes") (predict_kept here))) (ships_kept before)
    ∙ ap (λ ship. told (length before) (map predicted_mmsi before) ship (member_at (codes "changes") (predict_kept here))) (ship_kept here)
    ∙ ap (λ changes. told (length before) (map predicted_mmsi before) (member_at (codes "mmsi") here) changes) (changes_kept here)

faults_kept : (tick own : ℕ) (before tables : List Data) →
    map (table_fault tick own) (with_before (map predict_kept before) (map predict_kept tables)) ≡ map (table_fault tick own) (with_before before tables)
faults_kept tick own before [] = refl
faults_kept tick own before (here ∷ rest) =
    ap (λ fault. fault ∷ map (table_fault tick own) (with_before (map predict_kept before ++ predict_kept here ∷ []) (map predict_kept rest))) (predict_fault_kept tick own before here)
    ∙ ap (λ (front : List Data). table_fault tick own (before, here) ∷ map (table_fault tick own) (with_before front (map predict_kept rest))) (sym (map-append predict_kept before (here ∷ [])))
    ∙ ap (λ l. table_fault tick own (before, here) ∷ l) (faults_kept tick own (before ++ here ∷ []) rest)

pub predictions_fault_kept : (tick own : ℕ) (tables : List Data) → predict_fault tick own (map predict_kept tables) ≡ predict_fault tick own tables
unfolding predict_fault
predictions_fault_kept tick own tables = ap first_of (faults_kept tick own [] tables)

predict_value_kept : (here : Data) → predict_of (predict_kept here) ≡ predict_of here
predict_value_kept here =
    let made : Option Data → Option Data → Predict = λ ship changes. record { mmsi = natural_of (integer_found ship); changes = predicted_changes changes } in
    ap (λ ship. made ship (member_at (codes "changes") (predict_kept here))) (ship_kept here) ∙ ap (made (member_at (codes "mmsi") here)) (changes_kept here)

pub predictions_kept : (tables : List Data) → predictions_of (map predict_kept tables) ≡ predictions_of tables
predictions_kept [] = refl
predictions_kept (here ∷ rest) =
    ap (λ (l : List Predict). predict_of (predict_kept here) ∷ l) (predictions_kept rest) ∙ ap (λ (p : Predict). p ∷ predictions_of rest) (predict_value_kept here)
