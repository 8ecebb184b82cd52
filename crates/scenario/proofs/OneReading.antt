-- The bytes of a scenario have exactly one reading: its values, or its first fault.
use Rattle.std.proofs.Common.{◌≡◌, ◌⊎◌, inl, inr, ℕ, Bool, true, false, ◌&&◌, List, [], ◌∷◌, ◌++◌, Option, Some, None, All, refl}
use Rattle.std.specs.List.{list_all}
use Rattle.std.specs.Prelude.{codes}
use Rattle.std.specs.Str.{IsUtf8, is_utf8}
use Rattle.std.proofs.lemmas.List.Elements.{All-cons}
use Rattle.std.proofs.lemmas.Str.{IsUtf8-from_is_utf8, is_utf8-from_IsUtf8}
use Rattle.toml.specs.Data.{Members}
use Rattle.toml.specs.Parse.{parse_document}
use Rattle.rule_set.specs.declared.ranking.Ranking.{Ranking}
use Rattle.scenario_keys.specs.FirstFaults.{IsFound}
use Rattle.scenario_keys.specs.ScenarioKeys.{Row, first_rows, formula_rows, own_rows, row, rows}
use Rattle.scenario_keys.specs.declared.key.Key.{Key}
use Rattle.scenario_keys.specs.declared.cause.Cause.{Cause}
use Rattle.scenario_keys.specs.declared.cause.Cause.TheVariants as cause
use Rattle.scenario_keys.specs.declared.rows.Kind.{Kind}
use Rattle.scenario_keys.specs.declared.rows.Kind.TheVariants as kind
use Rattle.scenario_keys.proofs.ForCallers.{all_back, all_front, all_head, all_none, first_here, found_append, some_found}
use Rattle.scenario_rules.proofs.ForCallers.{some_formula_fault, some_rules, some_weight_fault}
use Rattle.scenario_rules.specs.FormulaTables.{IsFormulaFault}
use Rattle.scenario.specs.DocumentFaults.{IsFaultless, IsFirstFault, IsToldBy, IsToldFor}
use Rattle.scenario.specs.KeyFaults.{basis_of, fault_of, tick_of}
use Rattle.scenario.specs.Purposes.{purpose_by, ranking_of}
use Rattle.scenario.specs.RuleValues.{AreRulesOf, formula_tables, rule_numbers_of}
use Rattle.scenario.specs.ScenarioReading.{HasOneReading, IsRefused, Means, Reads}
use Rattle.scenario.specs.ScenarioValues.{scenario_of, scenario_with}
use Rattle.scenario.specs.declared.basis.Basis.{Basis}
use Rattle.scenario.specs.declared.purpose.Purpose.{Purpose}
use Rattle.scenario_values.specs.declared.values.Scenario.{Scenario}
use Rattle.scenario.proofs.Single.{meant_or_refused, one_meaning, one_refusal}

abbrev Told : Type 0
Told = Option (Key × Cause)

-- the rows of formulas: the name of each, its text, and the weight of all

abbrev name_row : Row
name_row = row 32 (codes "") (codes "formula.name") kind.FormulaName

abbrev text_row : Row
text_row = row 33 (codes "") (codes "formula.text") kind.FormulaText

abbrev weight_row : Row
weight_row = row 34 (codes "") (codes "formulas") kind.Formulas

-- ---- each key's test finds something

-- whether a key is tested by itself, and not with the formulas
abbrev is_plain : Kind → Bool
is_plain kind.FormulaName = false
is_plain kind.Formulas = false
is_plain _ = true

plain_by : (here : Kind) → is_plain here ≡ true → (basis : Basis) (ranks : Ranking) (document : Members) (row : Row) → IsToldBy here basis ranks document row (fault_of basis document row)
plain_by kind.FormulaName plain basis ranks document row = cc plain
plain_by kind.Formulas plain basis ranks document row = cc plain
plain_by (kind.Number of) plain basis ranks document row = refl
plain_by (kind.Numbers list) plain basis ranks document row = refl
plain_by (kind.Tables most) plain basis ranks document row = refl
plain_by kind.Plans plain basis ranks document row = refl
plain_by kind.Shape plain basis ranks document row = refl
plain_by kind.Document plain basis ranks document row = refl
plain_by kind.FormulaText plain basis ranks document row = refl
plain_by kind.PredictedShip plain basis ranks document row = refl
plain_by kind.PredictedChanges plain basis ranks document row = refl

module _ (purpose : Purpose) (document : Members) where
  abbrev test : Row → Told → Type 0
  test = IsToldFor purpose document

  abbrev Finds : Row → Type 0
  Finds row = (told : Told) × test row told

  plain_told : (row : Row) → is_plain row.kind ≡ true → Finds row
  plain_told row plain = (fault_of (basis_of purpose.need_own document) document row, plain_by row.kind plain (basis_of purpose.need_own document) (ranking_of purpose document) document row)

  plain_all : (list : List Row) → list_all (λ (row : Row). is_plain row.kind) list ≡ true → All Finds list
  plain_all [] plain = all_none Finds
  plain_all (row ∷ list) plain =
      let both = and_both (is_plain row.kind) (list_all (λ (row : Row). is_plain row.kind) list) plain in
      All-cons Finds row list (plain_told row both.0) (plain_all list both.1)
    where
      and_both : (a b : Bool) → (a && b) ≡ true → (a ≡ true) × (b ≡ true)
      and_both true true h = (refl, refl)
      and_both true false h = cc h
      and_both false b h = cc h

  first_told : (told : Told) × IsFound test first_rows told
  unfolding first_rows
  first_told = some_found test first_rows (plain_all first_rows first_plain)
    where
      first_plain : list_all (λ (row : Row). is_plain row.kind) first_rows ≡ true
      first_plain = refl

  own_told : (told : Told) × IsFound test own_rows told
  unfolding own_rows
  own_told = some_found test own_rows (plain_all own_rows own_plain)
    where
      own_plain : list_all (λ (row : Row). is_plain row.kind) own_rows ≡ true
      own_plain = refl

  -- If a formula has a fault, it is the first of them; and if none has, they have a weight.
  formulas_told : (told : Told) × IsFound test formula_rows told
  unfolding formula_rows
  formulas_told = by (some_formula_fault (ranking_of purpose document) (tick_of document) (formula_tables document))
    where
      by : (told : Told) × IsFormulaFault (ranking_of purpose document) (tick_of document) (formula_tables document) told → (told : Told) × IsFound test formula_rows told
      by (Some fault, is) = (Some fault, first_here test name_row (text_row ∷ weight_row ∷ []) fault is)
      by (None, is) = some_found test formula_rows
          (All-cons Finds name_row (text_row ∷ weight_row ∷ []) (None, is)
          (All-cons Finds text_row (weight_row ∷ []) (plain_told text_row refl)
          (All-cons Finds weight_row [] (some_weight_fault (ranking_of purpose document) (tick_of document) (rule_numbers_of document) (formula_tables document) is) (all_none Finds))))

  all_told : (told : Told) × IsFound test rows told
  all_told = found_append test first_rows (formula_rows ++ own_rows) first_told (found_append test formula_rows own_rows formulas_told own_told)

  -- ---- what a document results in

  formulas_faultless : IsFaultless purpose document → IsFormulaFault (ranking_of purpose document) (tick_of document) (formula_tables document) None
  unfolding IsFaultless formula_rows
  formulas_faultless all =
      all_head (λ here. test here None) name_row (text_row ∷ weight_row ∷ []) (all_front (λ here. test here None) formula_rows own_rows (all_back (λ here. test here None) first_rows (formula_rows ++ own_rows) all))

  values : IsFaultless purpose document → (scenario : Scenario) × AreRulesOf purpose document scenario.rules × (scenario ≡ scenario_of purpose document scenario.rules)
  unfolding scenario_with
  values all =
      let rules = some_rules (ranking_of purpose document) (tick_of document) (rule_numbers_of document) (formula_tables document) (formulas_faultless all) in
      (scenario_of purpose document rules.0, rules.1, refl)

  pub faultless_or_first : IsFaultless purpose document ⊎ ((found : Key × Cause) × IsFirstFault purpose document found)
  unfolding IsFaultless IsFirstFault
  faultless_or_first = by all_told
    where
      by : (told : Told) × IsFound test rows told → IsFaultless purpose document ⊎ ((found : Key × Cause) × IsFirstFault purpose document found)
      by (None, all) = inl all
      by (Some found, is) = inr (found, is)

-- ---- what bytes result in

only_meaning : (need_own : Bool) (bytes : List ℕ) (scenario : Scenario) → Means need_own bytes scenario → HasOneReading need_own bytes
only_meaning need_own bytes scenario means = inl (
  scenario,
  record {
    means = means;
    only = λ other is. one_meaning need_own bytes other scenario is means;
    accepted = λ key why refused. meant_or_refused need_own bytes scenario key why means refused;
  },
)

only_refusal : (need_own : Bool) (bytes : List ℕ) (key : Key) (why : Cause) → IsRefused need_own bytes key why → HasOneReading need_own bytes
only_refusal need_own bytes key why refused = inr (
  key,
  why,
  record {
    refused = refused;
    only = λ other because is. one_refusal need_own bytes other key because why is refused;
    meaningless = λ scenario means. meant_or_refused need_own bytes scenario key why means refused;
  },
)

of_document : (need_own : Bool) (bytes : List ℕ) (document : Members) → Reads bytes document → HasOneReading need_own bytes
of_document need_own bytes document reads = elim (faultless_or_first (purpose_by need_own) document) [
  | inl all ↦ (let found = values (purpose_by need_own) document all in
      only_meaning need_own bytes found.0 (record { document = document; reads = reads; faultless = all; rules = found.1; values = found.2 }))
  | inr first ↦ only_refusal need_own bytes first.0.0 first.0.1 (inr (record { document = document; reads = reads; first = first.1 }))
]

unread : (need_own : Bool) (bytes : List ℕ) → ((document : Members) → Reads bytes document → ⊥) → HasOneReading need_own bytes
unread need_own bytes none = only_refusal need_own bytes (record { row = 0; item = 0 }) cause.NotToml (inl (record { at = refl; because = refl; unread = none }))

pub has_one_reading : (need_own : Bool) (bytes : List ℕ) → HasOneReading need_own bytes
has_one_reading need_own bytes = by_text (is_utf8 bytes) refl
  where
    by_tree : IsUtf8 bytes → (tree : Option Members) → parse_document bytes ≡ tree → HasOneReading need_own bytes
    by_tree text (Some document) is = of_document need_own bytes document (record { text = text; tree = is })
    by_tree text None is = unread need_own bytes (λ document reads. (let some = reads.tree in cc (some, is)))

    by_text : (valid : Bool) → is_utf8 bytes ≡ valid → HasOneReading need_own bytes
    by_text true is = by_tree (IsUtf8-from_is_utf8 bytes is) (parse_document bytes) refl
    by_text false is = unread need_own bytes (λ document reads. (let valid = is_utf8-from_IsUtf8 bytes reads.text in cc (valid, is)))
