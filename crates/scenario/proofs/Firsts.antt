-- The first fault of the keys of a document: of the keys before the formulas, of the formulas, and of own ship's keys.
use Rattle.std.proofs.Common.{◌≡◌, List, [], ◌∷◌, ◌++◌, map, Bool, true, false, ◌⊎◌, inl, inr, Option, Some, None, Result, Ok, Err, IfErr, OnOk, refl, ap, sym, ◌∙◌, All, subst}
use Rattle.std.specs.Prelude.{codes}
use Rattle.std.specs.List.{list_all}
use Rattle.std.proofs.lemmas.Bool.{and_parts}
use Rattle.std.proofs.lemmas.List.Elements.{All-cons}
use Rattle.toml.specs.Data.{Members}
use Rattle.rule_set.specs.declared.ranking.Ranking.{Ranking}
use Rattle.scenario_keys.specs.FirstFaults.{IsFound}
use Rattle.scenario_keys.specs.FirstOf.{first_of}
use Rattle.scenario_keys.specs.ScenarioKeys.{Row, row, first_rows, formula_rows, own_rows, rows}
use Rattle.scenario_keys.specs.declared.rows.Kind.{Kind}
use Rattle.scenario_keys.specs.declared.rows.Kind.TheVariants as kind
use Rattle.scenario_keys.specs.declared.key.Key.{Key}
use Rattle.scenario_keys.specs.declared.cause.Cause.{Cause}
use Rattle.scenario_keys.proofs.ForCallers.{all_append, all_back, all_front, all_head, all_none, all_tail, first_ahead, first_behind, first_here, one_more}
use Rattle.scenario.specs.KeyFaults.{basis_of, fault_of, tick_of}
use Rattle.scenario.specs.RuleValues.{formula_tables, rule_numbers_of}
use Rattle.scenario_rules.specs.FormulaTables.{IsFormulaFault}
use Rattle.scenario_rules.specs.ScenarioRules.{IsWeightFault}
use Rattle.scenario_keys.specs.ToldFaults.{IfFault}
use Rattle.scenario_keys.specs.declared.fault.ScenarioFault.{ScenarioFault}
use Rattle.scenario_keys.specs.declared.fault.ScenarioFault.TheVariants as refusal
use Rattle.scenario.specs.DocumentFaults.{IsFaultless, IsFirstFault, IsTold, IsToldBy, IsToldFor}
use Rattle.scenario.specs.Inner.NoFaults.{HaveNoFault}
use Rattle.scenario.specs.declared.basis.Basis.{Basis}
use Rattle.scenario.specs.declared.purpose.Purpose.{Purpose}

-- the result if the first of all tests finds a fault

found_first : (test : Row → Option (Key × Cause)) (list : List Row) (result : Option (Key × Cause)) → result ≡ first_of (map test list) →
    IsFound (λ row told. told ≡ test row) list result
found_first test [] result e = subst (λ r. IsFound (λ row told. told ≡ test row) [] r) (sym e) (all_none (λ row. None ≡ test row))
found_first test (here ∷ after) result e =
    elim (test here) as (λ t. test here ≡ t → result ≡ first_of (t ∷ map test after) → IsFound (λ row told. told ≡ test row) (here ∷ after) result) [
      | None ↦ λ t f. later here after result (sym t) (found_first test after result f)
      | Some fault ↦ λ t f. subst (λ r. IsFound (λ row told. told ≡ test row) (here ∷ after) r) (sym f)
          (first_here (λ row told. told ≡ test row) here after fault (sym t))
    ] refl e
  where
    later : (here : Row) (after : List Row) (result : Option (Key × Cause)) → None ≡ test here → IsFound (λ row told. told ≡ test row) after result →
        IsFound (λ row told. told ≡ test row) (here ∷ after) result
    later here after None h is = All-cons (λ row. None ≡ test row) here after h is
    later here after (Some found) h is = one_more (λ row told. told ≡ test row) here after found h is

-- the tests of rows, each seen as the definition has it
seen_tests : {A : Type 0} → (test : Row → Option (Key × Cause)) (view : A → Row) (list : List A) → map (λ row. test (view row)) list ≡ map test (map view list)
seen_tests test view [] = refl
seen_tests test view (row ∷ list) = ap (λ l. test (view row) ∷ l) (seen_tests test view list)

pub first_told : {A : Type 0} (test : Row → Option (Key × Cause)) (view : A → Row) (list : List A) (rows : List Row) (result : Option (Key × Cause)) →
    map view list ≡ rows → result ≡ first_of (map (λ row. test (view row)) list) → IsFound (λ row told. told ≡ test row) rows result
first_told test view list rows result e f =
    found_first test rows result (f ∙ ap first_of (seen_tests test view list) ∙ ap (λ l. first_of (map test l)) e)

-- keys other than those of formulas are reported by their faults

abbrev pub is_plain : Kind → Bool
is_plain kind.FormulaName = false
is_plain kind.Formulas = false
is_plain _ = true

told_plain : (here : Kind) (basis : Basis) (ranks : Ranking) (document : Members) (row : Row) (told : Option (Key × Cause)) → is_plain here ≡ true →
    told ≡ fault_of basis document row → IsToldBy here basis ranks document row told
told_plain kind.FormulaName basis ranks document row told h e = absurd (cc)
told_plain kind.Formulas basis ranks document row told h e = absurd (cc)
told_plain (kind.Number of) basis ranks document row told h e = e
told_plain (kind.Numbers list) basis ranks document row told h e = e
told_plain (kind.Tables most) basis ranks document row told h e = e
told_plain kind.Shape basis ranks document row told h e = e
told_plain kind.Plans basis ranks document row told h e = e
told_plain kind.Document basis ranks document row told h e = e
told_plain kind.FormulaText basis ranks document row told h e = e
told_plain kind.PredictedShip basis ranks document row told h e = e
told_plain kind.PredictedChanges basis ranks document row told h e = e

pub plain_told : (here : Kind) (basis : Basis) (ranks : Ranking) (document : Members) (row : Row) (told : Option (Key × Cause)) → is_plain here ≡ true →
    IsToldBy here basis ranks document row told → told ≡ fault_of basis document row
plain_told kind.FormulaName basis ranks document row told h e = absurd (cc)
plain_told kind.Formulas basis ranks document row told h e = absurd (cc)
plain_told (kind.Number of) basis ranks document row told h e = e
plain_told (kind.Numbers list) basis ranks document row told h e = e
plain_told (kind.Tables most) basis ranks document row told h e = e
plain_told kind.Shape basis ranks document row told h e = e
plain_told kind.Plans basis ranks document row told h e = e
plain_told kind.Document basis ranks document row told h e = e
plain_told kind.FormulaText basis ranks document row told h e = e
plain_told kind.PredictedShip basis ranks document row told h e = e
plain_told kind.PredictedChanges basis ranks document row told h e = e

abbrev pub IsPlain : Row → Type 0
IsPlain row = is_plain row.kind ≡ true

all_plain : (list : List Row) → list_all (λ row. is_plain row.kind) list ≡ true → All IsPlain list
all_plain [] h = all_none IsPlain
all_plain (row ∷ list) h =
    let (a, b) = and_parts (is_plain row.kind) (list_all (λ row. is_plain row.kind) list) h in
    All-cons IsPlain row list a (all_plain list b)

pub first_plain : All IsPlain first_rows
unfolding first_rows
first_plain = all_plain first_rows refl

pub own_plain : All IsPlain own_rows
unfolding own_rows
own_plain = all_plain own_rows refl

pub none_told : (basis : Basis) (ranks : Ranking) (document : Members) (list : List Row) → All IsPlain list → All (λ row. None ≡ fault_of basis document row) list →
    All (λ row. IsTold basis ranks document row None) list
none_told basis ranks document [] plain all = all_none (λ row. IsTold basis ranks document row None)
none_told basis ranks document (row ∷ list) plain all =
    All-cons (λ row. IsTold basis ranks document row None) row list
    (told_plain row.kind basis ranks document row None (all_head IsPlain row list plain) (all_head (λ row. None ≡ fault_of basis document row) row list all))
    (none_told basis ranks document list (all_tail IsPlain row list plain) (all_tail (λ row. None ≡ fault_of basis document row) row list all))

pub found_told : (basis : Basis) (ranks : Ranking) (document : Members) (list : List Row) (result : Option (Key × Cause)) → All IsPlain list →
    IsFound (λ row told. told ≡ fault_of basis document row) list result → IsFound (IsTold basis ranks document) list result
found_told basis ranks document list None plain all = none_told basis ranks document list plain all
found_told basis ranks document list (Some found) plain is =
    let parts = subst (λ l. All IsPlain l) is.order plain in
    record {
      before = is.before;
      here = is.here;
      after = is.after;
      order = is.order;
      faultless = none_told basis ranks document is.before (all_front IsPlain is.before (is.here ∷ is.after) parts) is.faultless;
      faulty = told_plain is.here.kind basis ranks document is.here (Some found)
          (all_head IsPlain is.here is.after (all_back IsPlain is.before (is.here ∷ is.after) parts)) is.faulty;
    }

pub no_fault : (basis : Basis) (ranks : Ranking) (document : Members) (list : List Row) → All IsPlain list → All (λ row. IsTold basis ranks document row None) list →
    All (λ row. fault_of basis document row ≡ None) list
no_fault basis ranks document [] plain all = all_none (λ row. fault_of basis document row ≡ None)
no_fault basis ranks document (row ∷ list) plain all =
    All-cons (λ row. fault_of basis document row ≡ None) row list
    (sym (plain_told row.kind basis ranks document row None (all_head IsPlain row list plain) (all_head (λ row. IsTold basis ranks document row None) row list all)))
    (no_fault basis ranks document list (all_tail IsPlain row list plain) (all_tail (λ row. IsTold basis ranks document row None) row list all))

-- the three parts of the table together

pub faultless : (purpose : Purpose) (document : Members) → IsFound (IsToldFor purpose document) first_rows None →
    IsFound (IsToldFor purpose document) formula_rows None → IsFound (IsToldFor purpose document) own_rows None →
    IsFaultless purpose document
unfolding IsFaultless
faultless purpose document a b c =
    let P : Row → Type 0 = λ row. IsToldFor purpose document row None in
    all_append P first_rows (formula_rows ++ own_rows) a (all_append P formula_rows own_rows b c)

pub first_in_front : (purpose : Purpose) (document : Members) (found : Key × Cause) → IsFound (IsToldFor purpose document) first_rows (Some found) →
    IsFirstFault purpose document found
unfolding IsFirstFault
first_in_front purpose document found a = first_ahead (IsToldFor purpose document) first_rows (formula_rows ++ own_rows) found a

pub first_in_formulas : (purpose : Purpose) (document : Members) (found : Key × Cause) → IsFound (IsToldFor purpose document) first_rows None →
    IsFound (IsToldFor purpose document) formula_rows (Some found) → IsFirstFault purpose document found
unfolding IsFirstFault
first_in_formulas purpose document found a b =
    let test = IsToldFor purpose document in
    first_behind test first_rows (formula_rows ++ own_rows) found a (first_ahead test formula_rows own_rows found b)

pub first_in_own : (purpose : Purpose) (document : Members) (found : Key × Cause) → IsFound (IsToldFor purpose document) first_rows None →
    IsFound (IsToldFor purpose document) formula_rows None → IsFound (IsToldFor purpose document) own_rows (Some found) →
    IsFirstFault purpose document found
unfolding IsFirstFault
first_in_own purpose document found a b c =
    let test = IsToldFor purpose document in
    first_behind test first_rows (formula_rows ++ own_rows) found a (first_behind test formula_rows own_rows found b c)

-- the keys of formulas

pub formulas_none : (need_own : Bool) (ranks : Ranking) (document : Members) → IsFormulaFault ranks (tick_of document) (formula_tables document) None →
    IsWeightFault ranks (tick_of document) (rule_numbers_of document) (formula_tables document) None → IsFound (IsTold (basis_of need_own document) ranks document) formula_rows None
unfolding formula_rows fault_of
formulas_none need_own ranks document h k =
    let P : Row → Type 0 = λ row. IsTold (basis_of need_own document) ranks document row None in
    let names = row 32 (codes "") (codes "formula.name") kind.FormulaName in
    let texts = row 33 (codes "") (codes "formula.text") kind.FormulaText in
    let weights = row 34 (codes "") (codes "formulas") kind.Formulas in
    All-cons P names (texts ∷ weights ∷ []) h (All-cons P texts (weights ∷ []) refl (All-cons P weights [] k (all_none P)))

pub formulas_some : (need_own : Bool) (ranks : Ranking) (document : Members) (found : Key × Cause) → IsFormulaFault ranks (tick_of document) (formula_tables document) (Some found)
    ⊎ (IsFormulaFault ranks (tick_of document) (formula_tables document) None × IsWeightFault ranks (tick_of document) (rule_numbers_of document) (formula_tables document) (Some found)) →
    IsFound (IsTold (basis_of need_own document) ranks document) formula_rows (Some found)
unfolding formula_rows fault_of
formulas_some need_own ranks document found h =
    let test : Row → Option (Key × Cause) → Type 0 = IsTold (basis_of need_own document) ranks document in
    let names = row 32 (codes "") (codes "formula.name") kind.FormulaName in
    let texts = row 33 (codes "") (codes "formula.text") kind.FormulaText in
    let weights = row 34 (codes "") (codes "formulas") kind.Formulas in
    elim h [
      | inl a ↦ first_here test names (texts ∷ weights ∷ []) found a
      | inr b ↦ one_more test names (texts ∷ weights ∷ []) found b.0
          (one_more test texts (weights ∷ []) found refl (first_here test weights [] found b.1))
    ]

pub formulas_found : {A : Type 0} (ranks : Ranking) (document : Members) (result : Result A ScenarioFault) →
    IfErr result (IfFault (λ told. IsFormulaFault ranks (tick_of document) (formula_tables document) (Some told)
    ⊎ (IsFormulaFault ranks (tick_of document) (formula_tables document) None × IsWeightFault ranks (tick_of document) (rule_numbers_of document) (formula_tables document) (Some told)))) →
    IfErr result (IfFault (λ told. (need_own : Bool) → IsFound (IsTold (basis_of need_own document) ranks document) formula_rows (Some told)))
formulas_found ranks document (Ok value) h = tt
formulas_found ranks document (Err (refusal.Fault key why)) h = λ need_own. formulas_some need_own ranks document (key, why) h
formulas_found ranks document (Err refusal.Memory) h = tt

-- the keys from which values are read

pub read_from : (need_own : Bool) (ranks : Ranking) (document : Members) → IsFound (IsTold (basis_of need_own document) ranks document) first_rows None →
    IsFound (IsTold (basis_of need_own document) ranks document) own_rows None → HaveNoFault need_own document
read_from false ranks document a b = no_fault (basis_of false document) ranks document first_rows first_plain a
read_from true ranks document a b = no_fault (basis_of true document) ranks document own_rows own_plain b

pub formulas_none_of : {A : Type 0} (ranks : Ranking) (document : Members) (result : Result A ScenarioFault) →
    OnOk result (IsFormulaFault ranks (tick_of document) (formula_tables document) None) →
    OnOk result (IsWeightFault ranks (tick_of document) (rule_numbers_of document) (formula_tables document) None) →
    OnOk result ((need_own : Bool) → IsFound (IsTold (basis_of need_own document) ranks document) formula_rows None)
formulas_none_of ranks document (Ok value) h k = λ need_own. formulas_none need_own ranks document h k
formulas_none_of ranks document (Err fault) h k = tt
