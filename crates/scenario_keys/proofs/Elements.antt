-- The elements of an array of values.
use Rattle.std.specs.List.{list_all, position, position_or_len}
use Rattle.std.proofs.lemmas.List.{length-map}
use Rattle.std.proofs.lemmas.Simd.{map-map}
use Rattle.std.proofs.Common.{Bool, ◌&&◌, length, ◌≡◌, ◌∙◌, List, [], ◌∷◌, map, refl, ap}
use Rattle.toml.specs.Data.{Data}
use Rattle.toml.specs.View.{view, items_of, items_view}
use Rattle.toml.specs.declared.value.Value.{Value}
use Rattle.scenario_keys.specs.ListFaults.{elements}

elements_of : (list : List Data) → elements (items_of list) ≡ list
elements_of [] = refl
elements_of (found ∷ rest) = ap (λ l. found ∷ l) (elements_of rest)

pub seen_elements : (values : List Value) → elements (items_view values) ≡ map view values
seen_elements values = elements_of (map view values)

or_len_seen : (p : Data → Bool) (values : List Value) → position_or_len p (map view values) ≡ position_or_len (λ v. p (view v)) values
or_len_seen p [] = refl
or_len_seen p (v ∷ rest) = rw (or_len_seen p rest)

pub position_seen : (p : Data → Bool) (values : List Value) → position p (elements (items_view values)) ≡ position (λ v. p (view v)) values
position_seen p values = rw (seen_elements values, or_len_seen p values, length-map values view)

pub count_seen : (values : List Value) → length (elements (items_view values)) ≡ length values
count_seen values = rw (seen_elements values, length-map values view)

pub mapped_seen : {A : Type 0} (f : Data → A) (values : List Value) → map f (elements (items_view values)) ≡ map (λ v. f (view v)) values
mapped_seen f values = rw (seen_elements values, map-map f view values)

all_viewed : (p : Data → Bool) (values : List Value) → list_all p (map view values) ≡ list_all (λ v. p (view v)) values
all_viewed p [] = refl
all_viewed p (v ∷ values) = ap (λ b. p (view v) && b) (all_viewed p values)

pub all_seen : (p : Data → Bool) (values : List Value) → list_all p (elements (items_view values)) ≡ list_all (λ v. p (view v)) values
all_seen p values = ap (list_all p) (seen_elements values) ∙ all_viewed p values
