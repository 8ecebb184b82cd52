-- The scenario that bytes mean for a mode, or that a run asks about, is one for this mode: its values are in their ranges.
use Rattle.std.proofs.Common.{◌≡◌, ℕ, ◌∙◌, Bool, true, false, IsTrue, List, ◌++◌, Option, None, All, refl, ap, subst, sym, arith}
use Rattle.std.specs.Prelude.{codes, IfSome, IsSome}
use Rattle.toml.specs.Data.{Members}
use Rattle.hull_domains.specs.Shapes.{IsShape}
use Rattle.lattice.specs.Grids.{IsGrid}
use Rattle.rule_set.specs.NamedTrees.{NamedTree}
use Rattle.rule_set.specs.declared.ranking.Ranking.{Ranking}
use Rattle.scenario_keys.specs.ScenarioKeys.{first_rows, formula_rows, own_rows, row, Row}
use Rattle.scenario_keys.specs.declared.rows.Kind.TheVariants as kind
use Rattle.scenario_keys.proofs.ForCallers.{all_back, all_front}
use Rattle.scenario_rules.specs.FormulaTables.{IsFormulaFault}
use Rattle.scenario_rules.specs.ScenarioRules.{IsWeightFault}
use Rattle.scenario.specs.DocumentFaults.{IsFaultless, IsToldFor}
use Rattle.scenario.specs.Inner.NoFaults.{HaveNoFault}
use Rattle.scenario.specs.KeyFaults.{basis_of, tick_of}
use Rattle.scenario.specs.Purposes.{purpose_by, ranking_of}
use Rattle.scenario.specs.RuleValues.{formula_tables, rule_numbers_of, AreRulesOf}
use Rattle.scenario.specs.ScenarioReading.{Means}
use Rattle.scenario.specs.ScenarioValues.{detect_of, log_numbers_of, own_where, scenario_with}
use Rattle.scenario.specs.declared.purpose.Purpose.{Purpose}
use Rattle.scenario.proofs.Firsts.{first_plain, no_fault, read_from}
use Rattle.scenario.proofs.Held.{without_own}
use Rattle.scenario_values.specs.LightRules.{AreLightRules}
use Rattle.scenario_values.specs.ValueRanges.{AreDetectNumbers, AreLogNumbers, IsInRange, IsOwnPart}
use Rattle.scenario_values.specs.declared.own_part.OwnPart.{OwnPart}
use Rattle.scenario_values.specs.declared.values.Scenario.{Scenario}
use Rattle.tasks.specs.Modes.{needs_own}
use Rattle.tasks.specs.declared.mode.Mode.{Mode}
use Rattle.laws.specs.Endings.{IsScenarioFor}
use Rattle.laws.proofs.ReadNumbers.{act_in_range, detect_in_range, few_formulas, few_subjects, log_in_range, rule_numbers_in_range, subjects_in_range, tick_same, window_in_range}
use Rattle.laws.proofs.ReadOwn.{own_in_range, own_lattice, own_shape}
use Rattle.laws.proofs.ReadRules.{rules_in_range}

-- ---- the keys of a document without a fault

module _ (purpose : Purpose) (document : Members) (faultless : IsFaultless purpose document) where
  abbrev IsPassed : Row → Type 0
  IsPassed here = IsToldFor purpose document here None

  all_passed : All IsPassed (first_rows ++ (formula_rows ++ own_rows))
  unfolding IsFaultless
  all_passed = faultless

  first_passed : All IsPassed first_rows
  first_passed = all_front IsPassed first_rows (formula_rows ++ own_rows) all_passed

  formulas_passed : All IsPassed formula_rows
  formulas_passed = all_front IsPassed formula_rows own_rows (all_back IsPassed first_rows (formula_rows ++ own_rows) all_passed)

  own_passed : All IsPassed own_rows
  own_passed = all_back IsPassed formula_rows own_rows (all_back IsPassed first_rows (formula_rows ++ own_rows) all_passed)

  keys_faultless : HaveNoFault false document
  keys_faultless =
      without_own purpose.need_own document (no_fault (basis_of purpose.need_own document) (ranking_of purpose document) document first_rows first_plain first_passed)

  needed_faultless : HaveNoFault purpose.need_own document
  needed_faultless = read_from purpose.need_own (ranking_of purpose document) document first_passed own_passed

  formulas_faultless : IsFormulaFault (ranking_of purpose document) (tick_of document) (formula_tables document) None
  unfolding formula_rows
  formulas_faultless = formulas_passed 0 (row 32 (codes "") (codes "formula.name") kind.FormulaName) (omega arith)

  weight_faultless : IsWeightFault (ranking_of purpose document) (tick_of document) (rule_numbers_of document) (formula_tables document) None
  unfolding formula_rows
  weight_faultless = formulas_passed 2 (row 34 (codes "") (codes "formulas") kind.Formulas) (omega arith)

  light_rules : (rules : List NamedTree) → AreRulesOf purpose document rules → AreLightRules rules
  light_rules rules are =
      rules_in_range (ranking_of purpose document) (tick_of document) (rule_numbers_of document) (formula_tables document) rules
      (rule_numbers_in_range document keys_faultless) (few_formulas document keys_faultless) are formulas_faultless weight_faultless

-- ---- the values of such a document

-- own ship in her ranges, with her lattice and her shape, if she is needed
record IsOwnRead (tick : ℕ) (own : Option OwnPart) : Type 0 where
  part : IfSome own (IsOwnPart tick)
  lattice : IfSome own (λ own. IsGrid own.lattice)
  shape : IfSome own (λ own. IfSome own.shape IsShape)

own_read : (need_own : Bool) (document : Members) → HaveNoFault need_own document → IsOwnRead (tick_of document) (own_where need_own document)
own_read false document none = record { part = tt; lattice = tt; shape = tt }
own_read true document none = record { part = own_in_range document none; lattice = own_lattice document none; shape = own_shape document }

own_there : (need_own : Bool) (document : Members) → IsTrue need_own → IsSome (own_where need_own document)
own_there false document needed = cc needed
own_there true document needed = refl

values_in_range : (document : Members) (rules : List NamedTree) (ranks : Ranking) (own : Option OwnPart) → HaveNoFault false document → AreLightRules rules
    → IfSome own (IsOwnPart (tick_of document)) → IsInRange (scenario_with rules ranks own document)
unfolding scenario_with
values_in_range document rules ranks own none light part =
    let same = tick_same document none in
    record {
      window = window_in_range document none;
      log = subst (λ (tick : ℕ). AreLogNumbers tick (log_numbers_of document)) same (log_in_range document none);
      detect = subst (λ (tick : ℕ). AreDetectNumbers tick (detect_of document)) same (detect_in_range document none);
      act = act_in_range document none;
      rules = light;
      subjects = subjects_in_range document none;
      few_subjects = few_subjects document none;
      own = subst (λ (tick : ℕ). IfSome own (IsOwnPart tick)) same part;
    }

own_of_values : (rules : List NamedTree) (ranks : Ranking) (own : Option OwnPart) (document : Members) → (scenario_with rules ranks own document).own ≡ own
unfolding scenario_with
own_of_values rules ranks own document = refl

-- ---- a scenario that is read

module _ (mode : Mode) (bytes : List ℕ) (scenario : Scenario) (means : Means (needs_own mode) bytes scenario) where
  abbrev purpose : Purpose
  purpose = purpose_by (needs_own mode)

  needs_same : (need_own : Bool) → (purpose_by need_own).need_own ≡ need_own
  needs_same true = refl
  needs_same false = refl

  own_is : scenario.own ≡ own_where (needs_own mode) means.document
  own_is =
      ap (λ (s : Scenario). s.own) means.values
      ∙ own_of_values scenario.rules (ranking_of purpose means.document) (own_where purpose.need_own means.document) means.document
      ∙ ap (λ (b : Bool). own_where b means.document) (needs_same (needs_own mode))

  own_is_read : IsOwnRead (tick_of means.document) (own_where purpose.need_own means.document)
  own_is_read = own_read purpose.need_own means.document (needed_faultless purpose means.document means.faultless)

  own_read_for : IsOwnRead (tick_of means.document) scenario.own
  own_read_for =
      subst (IsOwnRead (tick_of means.document))
      (sym (own_is ∙ sym (ap (λ (b : Bool). own_where b means.document) (needs_same (needs_own mode))))) own_is_read

  read_in_range : IsInRange scenario
  read_in_range =
      subst IsInRange (sym means.values)
      (values_in_range means.document scenario.rules (ranking_of purpose means.document) (own_where purpose.need_own means.document)
      (keys_faultless purpose means.document means.faultless) (light_rules purpose means.document means.faultless scenario.rules means.rules) own_is_read.part)

  pub read_scenario : IsScenarioFor mode scenario
  read_scenario = record {
    in_range = read_in_range;
    lattice = own_read_for.lattice;
    shape = own_read_for.shape;
    own = λ needed. subst (λ (o : Option OwnPart). IsSome o) (sym own_is) (own_there (needs_own mode) means.document needed);
  }
