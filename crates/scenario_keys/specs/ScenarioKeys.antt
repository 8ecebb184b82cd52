-- The keys of a scenario, in the order of their tests.
use Rattle.std.specs.Prelude.{ℕ, pos, neg_ℤ, codes, List, [], ◌∷◌, ◌++◌, true, false}
use Rattle.scenario_keys.specs.declared.rows.Range.TheVariants as range
use Rattle.scenario_keys.specs.declared.rows.Kind.{Kind}
use Rattle.scenario_keys.specs.declared.rows.Kind.TheVariants as kind
use Rattle.scenario_keys.specs.declared.rows.When.{When}
use Rattle.scenario_keys.specs.declared.rows.When.TheVariants as when

pub record Row : Type 0 where
  -- the number that names the key in a fault
  pub number : ℕ
  -- the table in which the key stands, empty for the document itself
  pub table : List ℕ
  pub name : List ℕ
  pub kind : Kind
  -- when the key is checked
  pub when : When

abbrev pub row_when : When → ℕ → List ℕ → List ℕ → Kind → Row
row_when when number table name kind = record { number = number; table = table; name = name; kind = kind; when = when }

abbrev pub row : ℕ → List ℕ → List ℕ → Kind → Row
row = row_when when.Always

abbrev pub row_in_version_one : ℕ → List ℕ → List ℕ → Kind → Row
row_in_version_one = row_when when.InVersionOne

abbrev pub row_in_version_two : ℕ → List ℕ → List ℕ → Kind → Row
row_in_version_two = row_when when.InVersionTwo

-- a key of own ship, in the table of her name
abbrev pub own_row : ℕ → List ℕ → Kind → Row
own_row number name kind = row_when when.ForOwnShip number (codes "own") name kind

-- an integer from the one to the other
abbrev pub from_to : ℕ → ℕ → Kind
from_to low high = kind.Number (range.FromTo (pos low) (pos high))

-- a distance in metres
abbrev pub metres : Kind
metres = from_to 1 100000

-- an integer at most this far from 0
abbrev pub about_zero : ℕ → Kind
about_zero most = kind.Number (range.FromTo (neg_ℤ (pos most)) (pos most))

-- an integer from the number of seconds in a tick
abbrev pub from_the_tick_to : ℕ → Kind
from_the_tick_to high = kind.Number (range.FromTheTickTo (pos high))

-- a multiple of the number of seconds in a tick, from one tick
abbrev pub ticks_from_one_to : ℕ → Kind
ticks_from_one_to high = kind.Number (range.TicksFromOneTo (pos high))

-- the same, from 0
abbrev pub ticks_to : ℕ → Kind
ticks_to high = kind.Number (range.TicksTo (pos high))

-- an integer from the one to the other; the last number is the default
abbrev pub optional : ℕ → ℕ → ℕ → Kind
optional low high otherwise = kind.Number (range.Optional (pos low) (pos high) (pos otherwise))

-- an optional list of at most this many integers from the one to the other
abbrev pub optional_list : ℕ → ℕ → ℕ → Kind
optional_list most low high = kind.Numbers (record { is_optional = true; fewest = 0; most = most; low = pos low; high = pos high })

-- a list of integers at most this far from 0, with a length from the one to the other
abbrev pub changes_list : ℕ → ℕ → ℕ → Kind
changes_list fewest most size = kind.Numbers (record { is_optional = false; fewest = fewest; most = most; low = neg_ℤ (pos size); high = pos size })

-- the keys of the document and its tables, except those of formulas
unfoldable pub first_rows : List Row
first_rows =
    row 0 (codes "") (codes "document") kind.Document ∷
    row 1 (codes "") (codes "version") (from_to 1 2) ∷
    row 2 (codes "window") (codes "start") (from_to 0 9999999999) ∷
    row 3 (codes "window") (codes "tick") (from_to 1 60) ∷
    row 4 (codes "window") (codes "ticks") (from_to 1 20000) ∷
    row 5 (codes "reference") (codes "lat") (about_zero 45000000) ∷
    row 6 (codes "reference") (codes "lon") (about_zero 108000000) ∷
    row 7 (codes "log") (codes "gap") (from_the_tick_to 3600) ∷
    row 8 (codes "log") (codes "slack") (from_to 0 3600) ∷
    row 9 (codes "log") (codes "max_speed") (from_to 1 1022) ∷
    row 10 (codes "log") (codes "max_bytes") (optional 1 1073741824 1073741824) ∷
    row 11 (codes "detect") (codes "watch") metres ∷
    row 12 (codes "detect") (codes "risk") metres ∷
    row 13 (codes "detect") (codes "clear") metres ∷
    row 14 (codes "detect") (codes "horizon") (ticks_from_one_to 7200) ∷
    row 15 (codes "detect") (codes "doubt") (from_to 0 1124) ∷
    row 16 (codes "detect") (codes "ahead") (from_to 0 900) ∷
    row 17 (codes "detect") (codes "reciprocal") (from_to 0 900) ∷
    row 18 (codes "act") (codes "steady_turn") (from_to 0 1800) ∷
    row 19 (codes "act") (codes "apparent_turn") (from_to 1 1800) ∷
    row 20 (codes "act") (codes "steady_speed") (from_to 0 1022) ∷
    row 21 (codes "act") (codes "apparent_speed") (from_to 1 1022) ∷
    row_in_version_one 22 (codes "rules") (codes "safe") metres ∷
    row_in_version_two 50 (codes "rules") (codes "safe_head_on") metres ∷
    row_in_version_two 51 (codes "rules") (codes "safe_overtaking") metres ∷
    row_in_version_two 52 (codes "rules") (codes "safe_crossing") metres ∷
    row_in_version_two 53 (codes "rules") (codes "safe_other") metres ∷
    row 23 (codes "rules") (codes "overtake") metres ∷
    row 24 (codes "rules") (codes "close") metres ∷
    row 25 (codes "rules") (codes "t8") (ticks_to 7200) ∷
    row 26 (codes "rules") (codes "ta") (ticks_to 7200) ∷
    row 27 (codes "rules") (codes "tl") (ticks_to 7200) ∷
    row 28 (codes "rules") (codes "tw") (ticks_to 7200) ∷
    row 29 (codes "rules") (codes "te") (ticks_to 7200) ∷
    row 55 (codes "rules") (codes "ranks") (optional 0 1 0) ∷
    row 30 (codes "") (codes "subjects") (optional_list 64 200000000 799999999) ∷
    row 31 (codes "") (codes "formula") (kind.Tables 5) ∷
    []

-- the formulas: the name and the text of each table of `formula`, and then the weight of all
unfoldable pub formula_rows : List Row
formula_rows =
    row 32 (codes "") (codes "formula.name") kind.FormulaName ∷
    row 33 (codes "") (codes "formula.text") kind.FormulaText ∷
    row 34 (codes "") (codes "formulas") kind.Formulas ∷
    []

-- the keys of own ship, and of the predicted changes of other vessels: the ship and the changes of each table of
-- `predict`
unfoldable pub own_rows : List Row
own_rows =
    own_row 35 (codes "mmsi") (from_to 200000000 799999999) ∷
    own_row 36 (codes "courses") (changes_list 1 32 1800) ∷
    own_row 37 (codes "speeds") (changes_list 1 16 1022) ∷
    own_row 38 (codes "legs") (from_to 1 8) ∷
    own_row 39 (codes "leg_ticks") (from_to 1 7200) ∷
    own_row 40 (codes "tail") (from_to 0 7200) ∷
    own_row 41 (codes "base") (from_to 0 100000) ∷
    own_row 42 (codes "lengths") (from_to 0 100) ∷
    own_row 43 (codes "range") metres ∷
    row_when when.ForOwnShip 44 (codes "") (codes "own") kind.Plans ∷
    row_when when.ForOwnShip 45 (codes "") (codes "predict") (kind.Tables 64) ∷
    row_when when.ForOwnShip 46 (codes "") (codes "predict.mmsi") kind.PredictedShip ∷
    row_when when.ForOwnShip 47 (codes "") (codes "predict.changes") kind.PredictedChanges ∷
    own_row 48 (codes "turn_rate") (optional 1 1800 1800) ∷
    own_row 49 (codes "speed_rate") (optional 1 1022 1022) ∷
    own_row 54 (codes "shape") kind.Shape ∷
    []

abbrev pub rows : List Row
rows = first_rows ++ (formula_rows ++ own_rows)
