-- The first fault of tables, one after the other.
use Rattle.std.proofs.Common.{◌≡◌, ℕ, ◌+◌, ◌<◌, ◌≤◌, List, [], ◌∷◌, map, length, take, drop, Option, Some, refl, ap, sym, ◌∙◌}
use Rattle.std.specs.Prelude.{slice_index_or}
use Rattle.std.proofs.lemmas.List.{drop_all, drop_more, map-append, take_more}
use Rattle.toml.specs.Data.{Data}
use Rattle.toml.specs.View.{view}
use Rattle.toml.specs.declared.value.Value.{Value}
use Rattle.scenario_keys.specs.FirstFaults.{with_before}
use Rattle.scenario_keys.specs.FirstOf.{first_of}

-- the tables from an index on, each with those before it
abbrev pub left_from : List Value → ℕ → List (List Data × Data)
left_from values i = with_before (map view (take i values)) (map view (drop i values))

pub left_more : (values : List Value) (i : ℕ) (here : Value) → i < length values →
    left_from values i ≡ (map view (take i values), view (slice_index_or values i here)) ∷ left_from values (i + 1)
left_more values i here h =
    ap (λ l. with_before (map view (take i values)) (map view l)) (drop_more values i here h)
    ∙ ap (λ f. (map view (take i values), view (slice_index_or values i here)) ∷ with_before f (map view (drop (i + 1) values)))
    (sym (ap (map view) (take_more values i here h) ∙ map-append view (take i values) (slice_index_or values i here ∷ [])))

pub left_none : (values : List Value) (i : ℕ) → length values ≤ i → left_from values i ≡ []
left_none values i h = ap (λ l. with_before (map view (take i values)) (map view l)) (drop_all i values h)

first_is : {F : Type 0} (a : Option F) (rest : List (Option F)) (fault : F) → a ≡ Some fault → first_of (a ∷ rest) ≡ Some fault
first_is a rest fault e = rw e refl

pub found_at : {F : Type 0} (test : List Data × Data → Option F) (values : List Value) (i : ℕ) (here : Value) (fault : F) → here ≡ slice_index_or values i here →
    i < length values → Some fault ≡ test (map view (take i values), view here) → first_of (map test (left_from values i)) ≡ Some fault
found_at test values i here fault is h e =
    ap (λ l. first_of (map test l)) (left_more values i here h)
    ∙ ap (λ v. first_of (test (map view (take i values), view v) ∷ map test (left_from values (i + 1)))) (sym is)
    ∙ first_is (test (map view (take i values), view here)) (map test (left_from values (i + 1))) fault (sym e)
