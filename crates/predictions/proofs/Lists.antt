-- Lists of values, each seen as its data.
use Rattle.std.proofs.Common.{◌≡◌, ◌≢◌, ℕ, ◌==◌, ◌||◌, Bool, ℤ, List, [], ◌∷◌, map, length, Some, None, refl, ap, arith}
use Rattle.std.specs.Prelude.{slice_index_or}
use Rattle.std.specs.List.{list_all, list_any}
use Rattle.std.proofs.lemmas.List.{length-map}
use Rattle.toml.specs.Data.{Data}
use Rattle.toml.specs.View.{items_view, view}
use Rattle.toml.specs.declared.value.Value.{Value}
use Rattle.scenario_keys.specs.ListFaults.{elements}
use Rattle.scenario_keys.proofs.Elements as keys
use Rattle.predictions.specs.PredictFaults.{change_numbers, predicted_mmsi}

pub all_seen : (p : Data → Bool) (values : List Value) → list_all p (elements (items_view values)) ≡ list_all (λ v. p (view v)) values
all_seen p values = keys.all_seen p values

pub any_seen : (mmsi : ℕ) (values : List Value) → list_any (λ taken. taken == mmsi) (map predicted_mmsi (map view values)) ≡ list_any (λ v. predicted_mmsi (view v) == mmsi) values
any_seen mmsi [] = refl
any_seen mmsi (v ∷ values) = ap (λ b. (predicted_mmsi (view v) == mmsi) || b) (any_seen mmsi values)

pub many_seen : (values : List Value) → length (map view values) ≡ length values
many_seen values = length-map values view

pub mapped_seen : {A : Type 0} (f : Data → A) (values : List Value) → map f (elements (items_view values)) ≡ map (λ v. f (view v)) values
mapped_seen f values = keys.mapped_seen f values

pub count_seen : (values : List Value) → length (elements (items_view values)) ≡ length values
count_seen values = keys.count_seen values

-- lists of three, and others

pub three_numbers : (f : Value → ℤ) (values : List Value) (a b c : Value) → length values ≡ 3 →
    change_numbers (map f values) ≡ Some (record { after = f (slice_index_or values 0 a); course = f (slice_index_or values 1 b); speed = f (slice_index_or values 2 c) })
three_numbers f [] a b c h = absurd (omega arith)
three_numbers f (x ∷ []) a b c h = absurd (omega arith)
three_numbers f (x ∷ y ∷ []) a b c h = absurd (omega arith)
three_numbers f (x ∷ y ∷ z ∷ []) a b c h = refl
three_numbers f (x ∷ y ∷ z ∷ w ∷ rest) a b c h = absurd (omega arith)

pub other_numbers : (f : Value → ℤ) (values : List Value) → length values ≢ 3 → change_numbers (map f values) ≡ None
other_numbers f [] h = refl
other_numbers f (x ∷ []) h = refl
other_numbers f (x ∷ y ∷ []) h = refl
other_numbers f (x ∷ y ∷ z ∷ []) h = absurd (h refl)
other_numbers f (x ∷ y ∷ z ∷ w ∷ rest) h = refl
