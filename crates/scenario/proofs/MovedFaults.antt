-- A migrated document has no fault, but that its rules may be too heavy.
use Rattle.std.proofs.Common.{◌≡◌, ℕ, List, [], ◌∷◌, ◌++◌, Bool, true, false, not, ◌&&◌, ◌==◌, if◌then◌else◌, Option, None, Result, Ok, refl, ap, sym, ◌∙◌, subst, All, arith}
use Rattle.std.specs.Prelude.{codes, take, drop}
use Rattle.std.specs.List.{list_all}
use Rattle.std.proofs.lemmas.Bool.{and_parts}
use Rattle.std.proofs.lemmas.List.Elements.{All-cons}
use Rattle.toml.specs.Data.{Data, Members, get_member}
use Rattle.predictions.specs.PredictFaults.{predict_fault}
use Rattle.scenario_keys.specs.IntegerFaults.{bounds_of, number_cause}
use Rattle.scenario_keys.specs.KeyValues.{found_in, list_at, natural_at, natural_of, table_at}
use Rattle.scenario_keys.specs.ListFaults.{list_fault, tables_fault}
use Rattle.scenario_keys.specs.ScenarioKeys.{first_rows, from_to, metres, own_rows, row, row_in_version_one, row_in_version_two, row_when, Row}
use Rattle.scenario_keys.specs.ToldFaults.{fault_by, fault_listed}
use Rattle.scenario_keys.specs.declared.cause.Cause.{Cause}
use Rattle.scenario_keys.specs.declared.rows.Kind.{Kind}
use Rattle.scenario_keys.specs.declared.rows.Kind.TheVariants as kind
use Rattle.scenario_keys.specs.declared.rows.When.{When}
use Rattle.scenario_keys.specs.declared.rows.When.TheVariants as when
use Rattle.scenario_keys.specs.declared.key.Key.{Key}
use Rattle.scenario_keys.proofs.ForCallers.{all_append, all_back, all_front, all_head, all_tail}
use Rattle.scenario.specs.DocumentFaults.{IsFaultless}
use Rattle.scenario.specs.KeyFaults.{basis_of, counts, fault_in, fault_of, is_version_two, tick_of}
use Rattle.scenario.specs.PlanFaults.{plans_cause, sizes_of}
use Rattle.scenario.specs.Shapes.{shape_fault}
use Rattle.scenario.specs.Purposes.{ranking_of}
use Rattle.scenario.specs.Migration.{for_migration, found_at, has_own, is_key, kept, kept_by, new_value}
use Rattle.scenario.specs.Inner.PutTogether.{migrated}
use Rattle.scenario.specs.declared.basis.Basis.{Basis}
use Rattle.scenario.specs.declared.plan_sizes.PlanSizes.{PlanSizes}
use Rattle.scenario.proofs.Held.{number_uncaused}
use Rattle.scenario.proofs.KnownLists.{fault_kept, predictions_fault_kept}
use Rattle.scenario.proofs.ListsHeld.{list_uncaused, shape_uncaused, tables_uncaused}
use Rattle.scenario.proofs.MovedKeys.{all_rows, held, is_moved, is_second, place_of, row_held, value_moved, Held, IsRow}
use Rattle.scenario.proofs.MovedValues.{any, predicted_moved, ship_moved, sizes_moved, tick_moved, version_moved}
use Rattle.scenario.proofs.Shallow.{key_faultless, key_plain, predict_faultless, untouched}

-- what stands at a key has no cause, by the key's kind

abbrev pub HasNoCause : ℕ → Kind → Option Data → Type 0
HasNoCause tick (kind.Number of) found = number_cause (bounds_of tick of) found ≡ None
HasNoCause tick (kind.Numbers list) found = list_fault list found ≡ None
HasNoCause tick (kind.Tables most) found = tables_fault most found ≡ None
HasNoCause tick kind.Shape found = shape_fault found ≡ None
HasNoCause tick _ found = Unit {0}

uncaused : (basis : Basis) (number : ℕ) (name : List ℕ) (what : Kind) (table : Result Members Cause) → fault_in basis number name what table ≡ None →
    HasNoCause basis.tick what (found_in name table)
uncaused basis number name (kind.Number of) table h = number_uncaused basis number name of table h
uncaused basis number name (kind.Numbers list) table h = list_uncaused basis number name list table h
uncaused basis number name (kind.Tables most) table h = tables_uncaused basis number name most table h
uncaused basis number name kind.Shape table h = shape_uncaused basis number name table h
uncaused basis number name kind.Plans table h = tt
uncaused basis number name kind.Document table h = tt
uncaused basis number name kind.FormulaName table h = tt
uncaused basis number name kind.FormulaText table h = tt
uncaused basis number name kind.Formulas table h = tt
uncaused basis number name kind.PredictedShip table h = tt
uncaused basis number name kind.PredictedChanges table h = tt

no_fault : (basis : Basis) (number : ℕ) (name : List ℕ) (what : Kind) (members : Members) → is_key what ≡ true → HasNoCause basis.tick what (get_member name members) →
    fault_in basis number name what (Ok members) ≡ None
no_fault basis number name (kind.Number of) members key h = ap (fault_by number) h
no_fault basis number name (kind.Numbers list) members key h = ap (fault_listed number) h
no_fault basis number name (kind.Tables most) members key h = ap (fault_listed number) h
no_fault basis number name kind.Shape members key h = ap (fault_listed number) h
no_fault basis number name kind.Plans members key h = cc
no_fault basis number name kind.Document members key h = cc
no_fault basis number name kind.FormulaName members key h = cc
no_fault basis number name kind.FormulaText members key h = cc
no_fault basis number name kind.Formulas members key h = cc
no_fault basis number name kind.PredictedShip members key h = cc
no_fault basis number name kind.PredictedChanges members key h = cc

kept_uncaused : (tick : ℕ) (here : Row) (what : Kind) (found : Option Data) → here.kind ≡ what → HasNoCause tick what found → HasNoCause tick what (kept here found)
kept_uncaused tick here (kind.Number of) found e h =
    subst (λ (x : Option Data). HasNoCause tick (kind.Number of) x) (sym (untouched here found (λ name d. ap (λ (k : Kind). kept_by k name d) e))) h
kept_uncaused tick here (kind.Numbers list) found e h =
    subst (λ (x : Option Data). HasNoCause tick (kind.Numbers list) x) (sym (untouched here found (λ name d. ap (λ (k : Kind). kept_by k name d) e))) h
kept_uncaused tick here (kind.Tables most) found e h = fault_kept here most found e h
kept_uncaused tick here kind.Shape found e h =
    subst (λ (x : Option Data). HasNoCause tick kind.Shape x) (sym (untouched here found (λ name d. ap (λ (k : Kind). kept_by k name d) e))) h
kept_uncaused tick here kind.Plans found e h = tt
kept_uncaused tick here kind.Document found e h = tt
kept_uncaused tick here kind.FormulaName found e h = tt
kept_uncaused tick here kind.FormulaText found e h = tt
kept_uncaused tick here kind.Formulas found e h = tt
kept_uncaused tick here kind.PredictedShip found e h = tt
kept_uncaused tick here kind.PredictedChanges found e h = tt

-- a key that the migrated document holds has no fault there, if what it holds has no cause

held_faultless : (basis : Basis) (document : Members) (here : Row) → is_key here.kind ≡ true → Held document here → HasNoCause basis.tick here.kind (new_value document here) →
    fault_in basis here.number here.name here.kind (table_at here.table (migrated document)) ≡ None
held_faultless basis document here key held h =
    ap (fault_in basis here.number here.name here.kind) held.is
    ∙ no_fault basis here.number here.name here.kind held.members key (subst (λ (x : Option Data). HasNoCause basis.tick here.kind x) (sym held.value) h)

abbrev pub NoFault : Bool → Members → Row → Type 0
NoFault need_own document here = fault_of (basis_of need_own (migrated document)) (migrated document) here ≡ None

if_counted : (b : Bool) (fault : Option (Key × Cause)) → (b ≡ true → fault ≡ None) → (if b then fault else None) ≡ None
if_counted true fault h = h refl
if_counted false fault h = refl

counted_before : (need_own : Bool) (document : Members) (here : When) → is_version_two document ≡ false → is_version_two (migrated document) ≡ true →
    (need_own ≡ true → has_own document ≡ true) → not (is_second here) ≡ true → counts (basis_of need_own (migrated document)) here ≡ true →
    counts (basis_of (has_own document) document) here ≡ true
counted_before need_own document when.Always one two own second h = refl
counted_before need_own document when.InVersionOne one two own second h = ap not one
counted_before need_own document when.InVersionTwo one two own second h = cc
counted_before need_own document when.ForOwnShip one two own second h = own h

moved_faultless : (need_own : Bool) (document : Members) → is_version_two document ≡ false → IsFaultless (for_migration document) document →
    (need_own ≡ true → has_own document ≡ true) → (here : Row) → IsRow document here → is_moved here ≡ true → NoFault need_own document here
unfolding fault_of
moved_faultless need_own document one h own here is moved =
    if_counted (counts (basis_of need_own (migrated document)) here.when)
    (fault_in (basis_of need_own (migrated document)) here.number here.name here.kind (table_at here.table (migrated document)))
    (λ counted. (
    let (key, rest) = and_parts (is_key here.kind) (not (here.number == 1) && not (is_second here.when)) moved in
    let (number, second) = and_parts (not (here.number == 1)) (not (is_second here.when)) rest in
    let basis = basis_of (has_own document) document in
    let before = counted_before need_own document here.when one (version_moved document h) own second counted in
    let found = found_at here.table here.name document in
    let cause = uncaused basis here.number here.name here.kind (table_at here.table document) (key_faultless basis (ranking_of (for_migration document) document) document here is.told (key_plain here.kind key) before) in
    let tick = subst (λ n. HasNoCause n here.kind found) (sym (tick_moved document h)) cause in
    let kept_so = kept_uncaused (tick_of (migrated document)) here here.kind found refl tick in
    held_faultless (basis_of need_own (migrated document)) document here key (row_held document here is key before)
    (subst (λ (x : Option Data). HasNoCause (tick_of (migrated document)) here.kind x) (sym (value_moved document here moved before)) kept_so)))

all_moved : (need_own : Bool) (document : Members) → is_version_two document ≡ false → IsFaultless (for_migration document) document →
    (need_own ≡ true → has_own document ≡ true) → (list : List Row) → All (IsRow document) list → list_all is_moved list ≡ true → All (NoFault need_own document) list
all_moved need_own document one h own [] rows moved = λ k d lt. absurd (omega arith)
all_moved need_own document one h own (here ∷ rest) rows moved =
    let (a, b) = and_parts (is_moved here) (list_all is_moved rest) moved in
    All-cons (NoFault need_own document) here rest
    (moved_faultless need_own document one h own here (all_head (IsRow document) here rest rows) a)
    (all_moved need_own document one h own rest (all_tail (IsRow document) here rest rows) b)

-- the version, and the safe distances

version_faultless : (need_own : Bool) (document : Members) → IsFaultless (for_migration document) document → NoFault need_own document (row 1 (codes "") (codes "version") (from_to 1 2))
unfolding fault_of first_rows new_value
version_faultless need_own document h =
    let here = row 1 (codes "") (codes "version") (from_to 1 2) in
    held_faultless (basis_of need_own (migrated document)) document here refl (row_held document here ((all_rows document h).0 1 any (omega arith)) refl refl) refl

safe_uncaused : (document : Members) → is_version_two document ≡ false → IsFaultless (for_migration document) document →
    HasNoCause 1 metres (found_at (codes "rules") (codes "safe") document)
unfolding first_rows
safe_uncaused document one h =
    let here = row_in_version_one 22 (codes "rules") (codes "safe") metres in
    let basis = basis_of (has_own document) document in
    uncaused basis 22 (codes "safe") metres (table_at (codes "rules") document)
    (key_faultless basis (ranking_of (for_migration document) document) document here ((all_rows document h).0 22 any (omega arith)).told refl (ap not one))

rules_place : (document : Members) → IsFaultless (for_migration document) document → (table : Members) × (table_at (codes "rules") document ≡ Ok table)
unfolding first_rows
rules_place document h =
    let here = row 23 (codes "rules") (codes "overtake") metres in
    let basis = basis_of (has_own document) document in
    place_of basis document here (key_faultless basis (ranking_of (for_migration document) document) document here ((all_rows document h).0 27 any (omega arith)).told refl refl)

-- each of the safe distances is the old one
pub safe_moved : (document : Members) → IsFaultless (for_migration document) document → (number : ℕ) (name : List ℕ) → IsRow document (row_in_version_two number (codes "rules") name metres) →
    found_at (codes "rules") name (migrated document) ≡ found_at (codes "rules") (codes "safe") document
unfolding new_value
safe_moved document h number name is =
    let (a, p) = is.known refl in
    let there = held document (row_in_version_two number (codes "rules") name metres) a p (rules_place document h) in
    ap (found_in name) there.is ∙ there.value

safe_faultless : (need_own : Bool) (document : Members) → is_version_two document ≡ false → IsFaultless (for_migration document) document →
    (number : ℕ) (name : List ℕ) → IsRow document (row_in_version_two number (codes "rules") name metres) → NoFault need_own document (row_in_version_two number (codes "rules") name metres)
unfolding fault_of new_value
safe_faultless need_own document one h number name is =
    let here = row_in_version_two number (codes "rules") name metres in
    if_counted (is_version_two (migrated document))
    (fault_in (basis_of need_own (migrated document)) number name metres (table_at (codes "rules") (migrated document)))
    (λ counted. (
    let (a, p) = is.known refl in
    held_faultless (basis_of need_own (migrated document)) document here refl (held document here a p (rules_place document h)) (safe_uncaused document one h)))

-- the keys before those of formulas

pub first_faultless : (need_own : Bool) (document : Members) → is_version_two document ≡ false → IsFaultless (for_migration document) document →
    (need_own ≡ true → has_own document ≡ true) → All (NoFault need_own document) first_rows
unfolding first_rows fault_of
first_faultless need_own document one h own =
    let rows = (all_rows document h).0 in
    let P = NoFault need_own document in
    let R = IsRow document in
    let back = all_back R (take 2 first_rows) (drop 2 first_rows) rows in
    let front = take 21 (drop 2 first_rows) in
    let four = take 4 (drop 23 first_rows) in
    let rest = drop 27 first_rows in
    All-cons P (row 0 (codes "") (codes "document") kind.Document) (drop 1 first_rows) refl
    (All-cons P (row 1 (codes "") (codes "version") (from_to 1 2)) (drop 2 first_rows) (version_faultless need_own document h)
    (all_append P front (four ++ rest)
    (all_moved need_own document one h own front (all_front R front (four ++ rest) back) refl)
    (all_append P four rest
    (All-cons P (row_in_version_two 50 (codes "rules") (codes "safe_head_on") metres) (drop 1 four) (safe_faultless need_own document one h 50 (codes "safe_head_on") (rows 23 any (omega arith)))
    (All-cons P (row_in_version_two 51 (codes "rules") (codes "safe_overtaking") metres) (drop 2 four) (safe_faultless need_own document one h 51 (codes "safe_overtaking") (rows 24 any (omega arith)))
    (All-cons P (row_in_version_two 52 (codes "rules") (codes "safe_crossing") metres) (drop 3 four) (safe_faultless need_own document one h 52 (codes "safe_crossing") (rows 25 any (omega arith)))
    (All-cons P (row_in_version_two 53 (codes "rules") (codes "safe_other") metres) [] (safe_faultless need_own document one h 53 (codes "safe_other") (rows 26 any (omega arith)))
    (λ k d lt. absurd (omega arith))))))
    (all_moved need_own document one h own rest (all_back R four rest (all_back R front (four ++ rest) back)) refl))))

-- the keys of own ship

plans_faultless : (need_own : Bool) (document : Members) → IsFaultless (for_migration document) document → (need_own ≡ true → has_own document ≡ true) →
    NoFault need_own document (row_when when.ForOwnShip 44 (codes "") (codes "own") kind.Plans)
unfolding fault_of own_rows
plans_faultless need_own document h own =
    let here = row_when when.ForOwnShip 44 (codes "") (codes "own") kind.Plans in
    if_counted need_own (fault_by 44 (plans_cause (tick_of (migrated document)) (sizes_of (migrated document))))
    (λ e. (
    let basis = basis_of (has_own document) document in
    let was : fault_by 44 (plans_cause (tick_of document) (sizes_of document)) ≡ None =
    key_faultless basis (ranking_of (for_migration document) document) document here ((all_rows document h).1 9 any (omega arith)).told refl (own e) in
    ap (λ n. fault_by 44 (plans_cause n (sizes_of (migrated document)))) (tick_moved document h)
    ∙ ap (λ (s : PlanSizes). fault_by 44 (plans_cause (tick_of document) s)) (sizes_moved document h (own e))
    ∙ was))

predicted_faultless : (need_own : Bool) (document : Members) → IsFaultless (for_migration document) document → (need_own ≡ true → has_own document ≡ true) →
    NoFault need_own document (row_when when.ForOwnShip 46 (codes "") (codes "predict.mmsi") kind.PredictedShip)
unfolding fault_of
predicted_faultless need_own document h own =
    let ship = natural_at (codes "own") (codes "mmsi") document in
    let tables = list_at (codes "") (codes "predict") document in
    if_counted need_own
    (predict_fault (tick_of (migrated document)) (natural_at (codes "own") (codes "mmsi") (migrated document)) (list_at (codes "") (codes "predict") (migrated document)))
    (λ e. (
    ap (λ n. predict_fault n (natural_at (codes "own") (codes "mmsi") (migrated document)) (list_at (codes "") (codes "predict") (migrated document))) (tick_moved document h)
    ∙ ap (λ z. predict_fault (tick_of document) (natural_of z) (list_at (codes "") (codes "predict") (migrated document))) (ship_moved document h (own e))
    ∙ ap (predict_fault (tick_of document) ship) (predicted_moved document h (own e))
    ∙ predictions_fault_kept (tick_of document) ship tables
    ∙ predict_faultless (for_migration document) document (own e) h))

pub own_faultless : (need_own : Bool) (document : Members) → is_version_two document ≡ false → IsFaultless (for_migration document) document →
    (need_own ≡ true → has_own document ≡ true) → All (NoFault need_own document) own_rows
unfolding own_rows fault_of
own_faultless need_own document one h own =
    let rows = (all_rows document h).1 in
    let P = NoFault need_own document in
    let R = IsRow document in
    let front = take 9 own_rows in
    let behind = drop 9 own_rows in
    let back = all_back R front behind rows in
    let last = drop 13 own_rows in
    all_append P front behind
    (all_moved need_own document one h own front (all_front R front behind rows) refl)
    (All-cons P (row_when when.ForOwnShip 44 (codes "") (codes "own") kind.Plans) (drop 1 behind) (plans_faultless need_own document h own)
    (All-cons P (row_when when.ForOwnShip 45 (codes "") (codes "predict") (kind.Tables 64)) (drop 2 behind)
    (moved_faultless need_own document one h own (row_when when.ForOwnShip 45 (codes "") (codes "predict") (kind.Tables 64)) (rows 10 any (omega arith)) refl)
    (All-cons P (row_when when.ForOwnShip 46 (codes "") (codes "predict.mmsi") kind.PredictedShip) (drop 3 behind) (predicted_faultless need_own document h own)
    (All-cons P (row_when when.ForOwnShip 47 (codes "") (codes "predict.changes") kind.PredictedChanges) last (if_counted need_own None (λ e. refl))
    (all_moved need_own document one h own last (all_back R (take 4 behind) last back) refl)))))
