-- The values of a migrated document are those of the document.
use Rattle.std.proofs.Common.{◌≡◌, ℕ, pos, List, [], ◌∷◌, map, Bool, true, false, ◌&&◌, ℤ, if◌then◌else◌, Option, Some, Result, refl, ap, ◌∙◌, All, arith}
use Rattle.std.specs.Prelude.{codes}
use Rattle.std.proofs.lemmas.Bool.{and_parts}
use Rattle.toml.specs.Data.{Data, Members}
use Rattle.rule_set.specs.NamedTrees.{NamedTree}
use Rattle.rule_set.specs.declared.ranking.Ranking.TheVariants.{Ignored}
use Rattle.scenario_keys.specs.KeyValues.{array_in, found_in, integer_at, integer_found, integer_or, list_at, list_in, natural_of, optional_at}
use Rattle.scenario_keys.specs.ScenarioKeys.{first_rows, from_to, own_rows, row, row_when, Row}
use Rattle.scenario_keys.specs.declared.rows.When.TheVariants as when
use Rattle.scenario_keys.specs.declared.cause.Cause.{Cause}
use Rattle.scenario_keys.specs.declared.rows.Kind.{Kind}
use Rattle.scenario_keys.specs.declared.rows.Kind.TheVariants as kind
use Rattle.scenario.specs.DocumentFaults.{IsFaultless}
use Rattle.scenario.specs.KeyFaults.{basis_of, counts, is_two, is_version_two, tick_of, tick_or_one}
use Rattle.scenario.specs.PlanFaults.{sizes_of}
use Rattle.scenario.specs.Purposes.{is_one, ranking_of, wants_ranks}
use Rattle.scenario.specs.RuleValues.{formula_tables}
use Rattle.scenario.specs.ScenarioValues.{act_of, detect_of, grid_of, log_numbers_of, own_of, own_where, reference_of, scenario_of, scenario_with, units_at, window_of}
use Rattle.scenario_values.specs.ValueRanges.{greatest_log}
use Rattle.scenario.specs.Migration.{for_migration, found_at, has_own, kept_by, known_members, new_value}
use Rattle.scenario.specs.Inner.PutTogether.{migrated}
use Rattle.scenario_values.specs.declared.own_part.OwnPart.{OwnPart}
use Rattle.scenario.specs.declared.purpose.Purpose.{Purpose}
use Rattle.scenario.proofs.KnownLists.{formula_kept, list_kept, predict_kept, predictions_kept}
use Rattle.scenario.proofs.MovedKeys.{all_rows, is_moved, row_held, row_moved, IsMoved, IsRow}
use Rattle.scenario.proofs.Shallow.{untouched}
use Rattle.scenario_keys.proofs.ForCallers.{all_head, all_tail}
use Rattle.std.proofs.lemmas.List.Elements.{All-cons}

-- what stands at a key that holds an integer, a list of them, or a shape

abbrev pub is_whole : Kind → Bool
is_whole (kind.Number of) = true
is_whole (kind.Numbers list) = true
is_whole kind.Shape = true
is_whole _ = false

whole_kept : (what : Kind) → is_whole what ≡ true → (name : List ℕ) (found : Data) → kept_by what name found ≡ found
whole_kept (kind.Number of) h name found = refl
whole_kept (kind.Numbers list) h name found = refl
whole_kept (kind.Tables most) h name found = cc
whole_kept kind.Shape h name found = refl
whole_kept kind.Plans h name found = cc
whole_kept kind.Document h name found = cc
whole_kept kind.FormulaName h name found = cc
whole_kept kind.FormulaText h name found = cc
whole_kept kind.Formulas h name found = cc
whole_kept kind.PredictedShip h name found = cc
whole_kept kind.PredictedChanges h name found = cc

abbrev pub IsSame : Members → Row → Type 0
IsSame document here =
    is_whole here.kind && is_moved here ≡ true → counts (basis_of (has_own document) document) here.when ≡ true →
    found_at here.table here.name (migrated document) ≡ found_at here.table here.name document

same_row : (document : Members) (here : Row) → IsRow document here → IsSame document here
same_row document here is h counted =
    let (whole, moved) = and_parts (is_whole here.kind) (is_moved here) h in
    row_moved document here is moved counted ∙ untouched here (found_at here.table here.name document) (whole_kept here.kind whole)

same_rows : (document : Members) (list : List Row) → All (IsRow document) list → All (IsSame document) list
same_rows document [] h = λ k d lt. absurd (omega arith)
same_rows document (here ∷ rest) h =
    All-cons (IsSame document) here rest (same_row document here (all_head (IsRow document) here rest h)) (same_rows document rest (all_tail (IsRow document) here rest h))

pub first_same : (document : Members) → IsFaultless (for_migration document) document → All (IsSame document) first_rows
first_same document h = same_rows document first_rows (all_rows document h).0

pub own_same : (document : Members) → IsFaultless (for_migration document) document → All (IsSame document) own_rows
own_same document h = same_rows document own_rows (all_rows document h).1

-- any row: for what stands at an index that the list has
abbrev pub any : Row
any = row 0 (codes "") (codes "") kind.Document

pub integer_same : (document : Members) (table name : List ℕ) → found_at table name (migrated document) ≡ found_at table name document →
    integer_at table name (migrated document) ≡ integer_at table name document
unfolding integer_at
integer_same document table name e = ap integer_found e

pub optional_same : (document : Members) (table name : List ℕ) (otherwise : ℕ) → found_at table name (migrated document) ≡ found_at table name document →
    optional_at table name otherwise (migrated document) ≡ optional_at table name otherwise document
unfolding optional_at
optional_same document table name otherwise e = ap (λ (found : Option Data). natural_of (integer_or (pos otherwise) found)) e

pub list_same : (document : Members) (table name : List ℕ) → found_at table name (migrated document) ≡ found_at table name document →
    list_at table name (migrated document) ≡ list_at table name document
unfolding list_at
list_same document table name e = ap (λ (found : Option Data). list_in (array_in found)) e

-- the version and the tick

pub version_moved : (document : Members) → IsFaultless (for_migration document) document → is_version_two (migrated document) ≡ true
unfolding is_version_two integer_at first_rows new_value
version_moved document h =
    let held = row_held document (row 1 (codes "") (codes "version") (from_to 1 2)) ((all_rows document h).0 1 any (omega arith)) refl refl in
    ap (λ (t : Result Members Cause). is_two (integer_found (found_in (codes "version") t))) held.is ∙ ap (λ (found : Option Data). is_two (integer_found found)) held.value

pub tick_moved : (document : Members) → IsFaultless (for_migration document) document → tick_of (migrated document) ≡ tick_of document
unfolding tick_of first_rows
tick_moved document h =
    ap tick_or_one (integer_same document (codes "window") (codes "tick") (first_same document h 3 any (omega arith) refl refl))

-- whether ranks count

pub ranks_moved : (purpose : Purpose) (document : Members) → IsFaultless (for_migration document) document → ranking_of purpose (migrated document) ≡ ranking_of purpose document
unfolding ranking_of wants_ranks first_rows
ranks_moved purpose document h =
    ap (λ (found : Option ℤ). if is_one found then purpose.ranks else Ignored)
    (integer_same document (codes "rules") (codes "ranks") (first_same document h 34 any (omega arith) refl refl))

-- the values of the document and its tables

window_moved : (document : Members) → IsFaultless (for_migration document) document → window_of (migrated document) ≡ window_of document
unfolding window_of first_rows
window_moved document h =
    let s = first_same document h in
    rw (
      integer_same document (codes "window") (codes "start") (s 2 any (omega arith) refl refl),
      integer_same document (codes "window") (codes "tick") (s 3 any (omega arith) refl refl),
      integer_same document (codes "window") (codes "ticks") (s 4 any (omega arith) refl refl),
    ) refl

reference_moved : (document : Members) → IsFaultless (for_migration document) document → reference_of (migrated document) ≡ reference_of document
unfolding reference_of first_rows
reference_moved document h =
    let s = first_same document h in
    rw (
      integer_same document (codes "reference") (codes "lat") (s 5 any (omega arith) refl refl),
      integer_same document (codes "reference") (codes "lon") (s 6 any (omega arith) refl refl),
    ) refl

log_moved : (document : Members) → IsFaultless (for_migration document) document → log_numbers_of (migrated document) ≡ log_numbers_of document
unfolding log_numbers_of first_rows
log_moved document h =
    let s = first_same document h in
    rw (
      integer_same document (codes "log") (codes "gap") (s 7 any (omega arith) refl refl),
      integer_same document (codes "log") (codes "slack") (s 8 any (omega arith) refl refl),
      integer_same document (codes "log") (codes "max_speed") (s 9 any (omega arith) refl refl),
      optional_same document (codes "log") (codes "max_bytes") greatest_log (s 10 any (omega arith) refl refl),
    ) refl

detect_moved : (document : Members) → IsFaultless (for_migration document) document → detect_of (migrated document) ≡ detect_of document
unfolding detect_of units_at first_rows
detect_moved document h =
    let s = first_same document h in
    rw (
      integer_same document (codes "detect") (codes "watch") (s 11 any (omega arith) refl refl),
      integer_same document (codes "detect") (codes "risk") (s 12 any (omega arith) refl refl),
      integer_same document (codes "detect") (codes "clear") (s 13 any (omega arith) refl refl),
      integer_same document (codes "detect") (codes "horizon") (s 14 any (omega arith) refl refl),
      integer_same document (codes "detect") (codes "doubt") (s 15 any (omega arith) refl refl),
      integer_same document (codes "detect") (codes "ahead") (s 16 any (omega arith) refl refl),
      integer_same document (codes "detect") (codes "reciprocal") (s 17 any (omega arith) refl refl),
      tick_moved document h,
    ) refl

act_moved : (document : Members) → IsFaultless (for_migration document) document → act_of (migrated document) ≡ act_of document
unfolding act_of first_rows
act_moved document h =
    let s = first_same document h in
    rw (
      integer_same document (codes "act") (codes "steady_turn") (s 18 any (omega arith) refl refl),
      integer_same document (codes "act") (codes "apparent_turn") (s 19 any (omega arith) refl refl),
      integer_same document (codes "act") (codes "steady_speed") (s 20 any (omega arith) refl refl),
      integer_same document (codes "act") (codes "apparent_speed") (s 21 any (omega arith) refl refl),
    ) refl

subjects_moved : (document : Members) → IsFaultless (for_migration document) document → list_at (codes "") (codes "subjects") (migrated document) ≡ list_at (codes "") (codes "subjects") document
unfolding first_rows
subjects_moved document h = list_same document (codes "") (codes "subjects") (first_same document h 35 any (omega arith) refl refl)

-- the lists of tables

tables_moved : (document : Members) (here : Row) (most : ℕ) → IsMoved document here → here.kind ≡ kind.Tables most →
    list_at here.table here.name (migrated document) ≡ map (known_members here.name) (list_at here.table here.name document)
unfolding list_at
tables_moved document here most e k =
    ap (λ (found : Option Data). list_in (array_in found)) e ∙ list_kept here most (found_at here.table here.name document) k

pub formulas_moved : (document : Members) → IsFaultless (for_migration document) document → formula_tables (migrated document) ≡ map formula_kept (formula_tables document)
unfolding formula_tables first_rows
formulas_moved document h =
    let here = row 31 (codes "") (codes "formula") (kind.Tables 5) in
    tables_moved document here 5 (row_moved document here ((all_rows document h).0 36 any (omega arith)) refl refl) refl

pub predicted_moved : (document : Members) → IsFaultless (for_migration document) document → has_own document ≡ true →
    list_at (codes "") (codes "predict") (migrated document) ≡ map predict_kept (list_at (codes "") (codes "predict") document)
unfolding own_rows
predicted_moved document h own =
    let here = row_when when.ForOwnShip 45 (codes "") (codes "predict") (kind.Tables 64) in
    tables_moved document here 64 (row_moved document here ((all_rows document h).1 10 any (omega arith)) refl own) refl

-- own ship

pub sizes_moved : (document : Members) → IsFaultless (for_migration document) document → has_own document ≡ true → sizes_of (migrated document) ≡ sizes_of document
unfolding sizes_of own_rows
sizes_moved document h own =
    let s = own_same document h in
    rw (
      list_same document (codes "own") (codes "courses") (s 1 any (omega arith) refl own),
      list_same document (codes "own") (codes "speeds") (s 2 any (omega arith) refl own),
      integer_same document (codes "own") (codes "legs") (s 3 any (omega arith) refl own),
      integer_same document (codes "own") (codes "leg_ticks") (s 4 any (omega arith) refl own),
      integer_same document (codes "own") (codes "tail") (s 5 any (omega arith) refl own),
    ) refl

pub ship_moved : (document : Members) → IsFaultless (for_migration document) document → has_own document ≡ true →
    integer_at (codes "own") (codes "mmsi") (migrated document) ≡ integer_at (codes "own") (codes "mmsi") document
unfolding own_rows
ship_moved document h own = integer_same document (codes "own") (codes "mmsi") (own_same document h 0 any (omega arith) refl own)

grid_moved : (document : Members) → IsFaultless (for_migration document) document → has_own document ≡ true → grid_of (migrated document) ≡ grid_of document
unfolding grid_of own_rows
grid_moved document h own =
    let s = own_same document h in
    rw (
      list_same document (codes "own") (codes "courses") (s 1 any (omega arith) refl own),
      list_same document (codes "own") (codes "speeds") (s 2 any (omega arith) refl own),
      integer_same document (codes "own") (codes "legs") (s 3 any (omega arith) refl own),
      integer_same document (codes "own") (codes "leg_ticks") (s 4 any (omega arith) refl own),
      integer_same document (codes "own") (codes "tail") (s 5 any (omega arith) refl own),
      optional_same document (codes "own") (codes "turn_rate") 1800 (s 13 any (omega arith) refl own),
      optional_same document (codes "own") (codes "speed_rate") 1022 (s 14 any (omega arith) refl own),
    ) refl

own_moved : (document : Members) → IsFaultless (for_migration document) document → has_own document ≡ true → own_of (migrated document) ≡ own_of document
unfolding own_of own_rows
own_moved document h own =
    let s = own_same document h in
    rw (
      ship_moved document h own,
      grid_moved document h own,
      integer_same document (codes "own") (codes "base") (s 6 any (omega arith) refl own),
      integer_same document (codes "own") (codes "lengths") (s 7 any (omega arith) refl own),
      integer_same document (codes "own") (codes "range") (s 8 any (omega arith) refl own),
      predicted_moved document h own,
      predictions_kept (list_at (codes "") (codes "predict") document),
      list_same document (codes "own") (codes "shape") (s 15 any (omega arith) refl own),
    ) refl

pub scenario_moved : (purpose : Purpose) (document : Members) (rules : List NamedTree) → IsFaultless (for_migration document) document →
    (purpose.need_own ≡ true → has_own document ≡ true) → scenario_of purpose (migrated document) rules ≡ scenario_of purpose document rules
unfolding scenario_with
scenario_moved purpose document rules h own =
    rw (
      ranks_moved purpose document h,
      own_where_moved purpose.need_own own,
      window_moved document h,
      reference_moved document h,
      log_moved document h,
      detect_moved document h,
      act_moved document h,
      subjects_moved document h,
    ) refl
  where
    own_where_moved : (need_own : Bool) → (need_own ≡ true → has_own document ≡ true) → own_where need_own (migrated document) ≡ own_where need_own document
    own_where_moved false own = refl
    own_where_moved true own = ap (λ (o : OwnPart). Some o) (own_moved document h (own refl))
