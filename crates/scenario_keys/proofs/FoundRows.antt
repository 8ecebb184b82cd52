-- A row that is found among the program's is the one that is found among the definition's.
use Rattle.std.proofs.Common.{◌≡◌, ℕ, List, [], ◌∷◌, ◌++◌, map, find, ◌==◌, Bool, true, false, if◌then◌else◌, Option, Some, None, refl, ap, sym, ◌∙◌, option_map}
use Rattle.std.specs.Option.{option_or}
use Rattle.std.proofs.lemmas.List.Folds.{find-append}
use Rattle.scenario_keys.specs.ScenarioKeys.{first_rows, formula_rows, own_rows, rows, Row}
use Rattle.scenario_keys.specs.Inner.SeenRows.{seen}
use Rattle.scenario_keys.specs.declared.rows.KeyRow.{KeyRow}

find_seen : (number : ℕ) (list : List KeyRow) → option_map seen (find (λ row. row.number == number) list) ≡ find (λ row. row.number == number) (map seen list)
find_seen number [] = refl
find_seen number (row ∷ list) =
    elim (row.number == number) as (λ b. option_map seen (if b then Some row else find (λ row. row.number == number) list)
    ≡ (if b then Some (seen row) else find (λ row. row.number == number) (map seen list))) [
      | true ↦ refl
      | false ↦ find_seen number list
    ]

option_map-seen : {B : Type 0} (view : B → KeyRow) (result : Option B) → option_map (λ b. seen (view b)) result ≡ option_map seen (option_map view result)
option_map-seen view None = refl
option_map-seen view (Some b) = refl

pub found_seen : {B : Type 0} (number : ℕ) (view : B → KeyRow) (list : List KeyRow) (rows : List Row) (result : Option B) →
    option_map view result ≡ find (λ row. row.number == number) list → map seen list ≡ rows →
    option_map (λ b. seen (view b)) result ≡ find (λ row. row.number == number) rows
found_seen number view list rows result e f =
    option_map-seen view result ∙ ap (option_map seen) e ∙ find_seen number list ∙ ap (find (λ row. row.number == number)) f

-- A row of the whole table is found in the first of its three parts that has it.

seen_or : {B : Type 0} (f : B → Row) (a b : Option B) → option_map f (option_or a b) ≡ option_or (option_map f a) (option_map f b)
seen_or f None b = refl
seen_or f (Some a) b = refl

or_or : {A : Type 0} (a b c : Option A) → option_or (option_or a b) c ≡ option_or a (option_or b c)
or_or None b c = refl
or_or (Some a) b c = refl

found_in_rows : (number : ℕ) → find (λ row. row.number == number) rows
    ≡ option_or (find (λ row. row.number == number) first_rows) (option_or (find (λ row. row.number == number) formula_rows) (find (λ row. row.number == number) own_rows))
found_in_rows number =
    let p : Row → Bool = λ row. row.number == number in
    find-append p first_rows (formula_rows ++ own_rows) ∙ ap (option_or (find p first_rows)) (find-append p formula_rows own_rows)

pub found_in_three : {B : Type 0} (number : ℕ) (view : B → KeyRow) (first second third : Option B) →
    option_map (λ b. seen (view b)) first ≡ find (λ row. row.number == number) first_rows →
    option_map (λ b. seen (view b)) second ≡ find (λ row. row.number == number) formula_rows →
    option_map (λ b. seen (view b)) third ≡ find (λ row. row.number == number) own_rows →
    option_map (λ b. seen (view b)) (option_or (option_or first second) third) ≡ find (λ row. row.number == number) rows
found_in_three {B} number view first second third e f g =
    let s : B → Row = λ b. seen (view b) in
    ap (option_map s) (or_or first second third) ∙ seen_or s first (option_or second third) ∙ ap (option_or (option_map s first)) (seen_or s second third)
    ∙ rw (e, f, g) (sym (found_in_rows number))
