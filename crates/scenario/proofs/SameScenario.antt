-- A migrated scenario means what the scenario meant, or its rules are too heavy.
use Rattle.std.proofs.Common.{◌≡◌, ◌⊎◌, inl, inr, ◌<◌, ◌≤◌, ℕ, List, ◌++◌, nat_le, Bool, true, false, Option, Some, None, Vec, Global, Result, Ok, Err, IfOk, refl, ap, sym, ◌∙◌, subst, All, arith}
use Rattle.std.specs.Prelude.{codes}
use Rattle.std.proofs.lemmas.Bool.Decides.{nat_tests}
use Rattle.toml.specs.Data.{Data, Members}
use Rattle.rule_set.specs.NamedTrees.{rules_by, NamedTree}
use Rattle.rule_set.specs.declared.numbers.RuleNumbers.{RuleNumbers}
use Rattle.rule_set.specs.declared.numbers.Safe.TheVariants as safe
use Rattle.scenario_rules.specs.FormulaTables.{IsFormulaFault}
use Rattle.scenario_rules.specs.ScenarioRules.{weight_cause, AreAdded, IsWeightFault}
use Rattle.scenario_values.specs.LightRules.{greatest_weight, total_weight}
use Rattle.scenario_keys.specs.KeyValues.{integer_at, integer_found, natural_at, natural_of}
use Rattle.scenario_keys.specs.ScenarioKeys.{first_rows, from_to, own_row, own_rows, Row}
use Rattle.scenario_keys.specs.FirstFaults.{IsFound}
use Rattle.scenario_keys.specs.ToldFaults.{fault_by}
use Rattle.scenario_keys.specs.declared.key.Key.{Key}
use Rattle.scenario_keys.specs.declared.cause.Cause.{Cause}
use Rattle.scenario_keys.specs.declared.cause.Cause.TheVariants as cause
use Rattle.scenario.specs.DocumentFaults.{IsFaultless, IsToldFor}
use Rattle.scenario.specs.KeyFaults.{basis_of, is_version_two, tick_of}
use Rattle.scenario.specs.Purposes.{purpose_by, ranking_of}
use Rattle.scenario.specs.RuleValues.{formula_tables, rule_numbers_of, safe_of, AreRulesOf}
use Rattle.scenario.specs.ScenarioValues.{scenario_of, scenario_with}
use Rattle.scenario.specs.ScenarioReading.{IsRefused, Means, Reads}
use Rattle.scenario.specs.Migration.{for_migration, found_at, has_own, IsMigrated, MeansTheSame}
use Rattle.scenario.specs.Inner.PutTogether.{migrated}
use Rattle.scenario.specs.declared.purpose.Purpose.{Purpose}
use Rattle.scenario_values.specs.declared.values.Scenario.{Scenario}
use Rattle.scenario.proofs.Firsts.{faultless, first_in_formulas, first_plain, formulas_none, formulas_some, none_told, own_plain, IsPlain}
use Rattle.scenario.proofs.KnownLists.{added_kept, formulas_kept}
use Rattle.scenario.proofs.ListsHeld.{nat_le-true}
use Rattle.scenario.proofs.MovedFaults.{first_faultless, own_faultless, safe_moved, NoFault}
use Rattle.toml.specs.Text.{IsDocumentText}
use Rattle.scenario.proofs.MigratedDocuments.{one_migrated, put_together}
use Rattle.scenario.proofs.MovedKeys.{all_rows, place_of, there}
use Rattle.scenario.proofs.MovedValues.{any, first_same, formulas_moved, integer_same, ranks_moved, scenario_moved, tick_moved, version_moved}
use Rattle.scenario.proofs.RanksRead.{ranks_read}
use Rattle.scenario.proofs.Shallow.{faultless_parts, formulas_faultless, key_faultless}
use Rattle.scenario.proofs.Single.{one_document}

-- a document whose keys of own ship have no fault has her
own_there : (purpose : Purpose) (document : Members) → IsFaultless purpose document → purpose.need_own ≡ true → has_own document ≡ true
unfolding has_own own_rows
own_there purpose document h own =
    let here = own_row 35 (codes "mmsi") (from_to 200000000 799999999) in
    let basis = basis_of purpose.need_own document in
    let told = (faultless_parts purpose document h).2 0 any (omega arith) in
    let (table, is) = place_of basis document here (key_faultless basis (ranking_of purpose document) document here told refl own) in
    there document (codes "own") table is

-- the numbers of the rules

abbrev pub metres_of : Members → ℕ
metres_of document = natural_at (codes "rules") (codes "safe") document

abbrev pub per_kind : RuleNumbers → ℕ → RuleNumbers
per_kind numbers metres = record {
  safe = safe.PerKind metres metres metres metres;
  overtake = numbers.overtake;
  close = numbers.close;
  t8 = numbers.t8;
  ta = numbers.ta;
  tl = numbers.tl;
  tw = numbers.tw;
  te = numbers.te;
}

one_before : (document : Members) → is_version_two document ≡ false → safe_of document ≡ safe.One (metres_of document)
unfolding safe_of
one_before document one = rw one refl

one_number : (document : Members) → is_version_two document ≡ false → (rule_numbers_of document).safe ≡ safe.One (metres_of document)
unfolding rule_numbers_of
one_number document one = one_before document one

distance_moved : (document : Members) (name : List ℕ) → found_at (codes "rules") name (migrated document) ≡ found_at (codes "rules") (codes "safe") document →
    natural_at (codes "rules") name (migrated document) ≡ metres_of document
unfolding integer_at
distance_moved document name e = ap (λ (found : Option Data). natural_of (integer_found found)) e

safe_after : (document : Members) → IsFaultless (for_migration document) document →
    safe_of (migrated document) ≡ safe.PerKind (metres_of document) (metres_of document) (metres_of document) (metres_of document)
unfolding safe_of first_rows
safe_after document h =
    let rows = (all_rows document h).0 in
    rw (
      version_moved document h,
      distance_moved document (codes "safe_head_on") (safe_moved document h 50 (codes "safe_head_on") (rows 23 any (omega arith))),
      distance_moved document (codes "safe_overtaking") (safe_moved document h 51 (codes "safe_overtaking") (rows 24 any (omega arith))),
      distance_moved document (codes "safe_crossing") (safe_moved document h 52 (codes "safe_crossing") (rows 25 any (omega arith))),
      distance_moved document (codes "safe_other") (safe_moved document h 53 (codes "safe_other") (rows 26 any (omega arith))),
    ) refl

numbers_moved : (document : Members) → IsFaultless (for_migration document) document → rule_numbers_of (migrated document) ≡ per_kind (rule_numbers_of document) (metres_of document)
unfolding rule_numbers_of first_rows
numbers_moved document h =
    let s = first_same document h in
    rw (
      safe_after document h,
      integer_same document (codes "rules") (codes "overtake") (s 27 any (omega arith) refl refl),
      integer_same document (codes "rules") (codes "close") (s 28 any (omega arith) refl refl),
      integer_same document (codes "rules") (codes "t8") (s 29 any (omega arith) refl refl),
      integer_same document (codes "rules") (codes "ta") (s 30 any (omega arith) refl refl),
      integer_same document (codes "rules") (codes "tl") (s 31 any (omega arith) refl refl),
      integer_same document (codes "rules") (codes "tw") (s 32 any (omega arith) refl refl),
      integer_same document (codes "rules") (codes "te") (s 33 any (omega arith) refl refl),
    ) refl

-- the rules

rules_moved : (purpose : Purpose) (document : Members) (added : List NamedTree) → IsFaultless (for_migration document) document →
    AreAdded (tick_of document) (formula_tables document) added →
    AreRulesOf purpose (migrated document) (rules_by (ranking_of purpose document) (tick_of document) (per_kind (rule_numbers_of document) (metres_of document)) ++ added)
rules_moved purpose document added h are =
    let after = migrated document in
    let ranks = ranks_moved purpose document h in
    let tick = tick_moved document h in
    let kept = added_kept (tick_of document) (formula_tables document) added are in
    record {
      added = added;
      order = ap (λ r. rules_by r (tick_of document) (per_kind (rule_numbers_of document) (metres_of document)) ++ added) (sym ranks)
          ∙ ap (λ n. rules_by (ranking_of purpose after) n (per_kind (rule_numbers_of document) (metres_of document)) ++ added) (sym tick)
          ∙ ap (λ (numbers : RuleNumbers). rules_by (ranking_of purpose after) (tick_of after) numbers ++ added) (sym (numbers_moved document h));
      are_added = subst (λ n. AreAdded n (formula_tables after) added) (sym tick)
          (subst (λ (tables : List Data). AreAdded (tick_of document) tables added) (sym (formulas_moved document h)) kept);
    }

formulas_right : (purpose : Purpose) (document : Members) → IsFaultless (for_migration document) document → IsFaultless purpose document →
    IsFormulaFault (ranking_of purpose (migrated document)) (tick_of (migrated document)) (formula_tables (migrated document)) None
formulas_right purpose document h right =
    let after = migrated document in
    let kept = formulas_kept (ranking_of purpose document) (tick_of document) (formula_tables document) (formulas_faultless purpose document right) in
    subst (λ r. IsFormulaFault r (tick_of after) (formula_tables after) None) (sym (ranks_moved purpose document h))
    (subst (λ n. IsFormulaFault (ranking_of purpose document) n (formula_tables after) None) (sym (tick_moved document h))
    (subst (λ (tables : List Data). IsFormulaFault (ranking_of purpose document) (tick_of document) tables None) (sym (formulas_moved document h)) kept))

-- its faults

told_none : (purpose : Purpose) (document : Members) (list : List Row) → All IsPlain list → All (NoFault purpose.need_own document) list →
    IsFound (IsToldFor purpose (migrated document)) list None
told_none purpose document list plain h =
    none_told (basis_of purpose.need_own (migrated document)) (ranking_of purpose (migrated document)) (migrated document) list plain (λ k d lt. sym (h k d lt))

cases_of : (b : Bool) (P : Type 0) → (b ≡ true → P) → (b ≡ false → P) → P
cases_of true P f g = f refl
cases_of false P f g = g refl

too_heavy : (m n : ℕ) → nat_le m n ≡ false → n < m
too_heavy m n h = grind (arith, nat_tests)

abbrev pub heavy : Key × Cause
heavy = (record { row = 34; item = 0 }, cause.Product)

light_cause : (weight : ℕ) → nat_le weight greatest_weight ≡ true → fault_by 34 (weight_cause weight) ≡ None
light_cause weight h = rw h refl

heavy_cause : (weight : ℕ) → nat_le weight greatest_weight ≡ false → fault_by 34 (weight_cause weight) ≡ Some heavy
heavy_cause weight h = rw h refl

-- the other scenario

abbrev pub with_rules : List NamedTree → Scenario → Scenario
with_rules rules scenario = record {
  window = scenario.window;
  reference = scenario.reference;
  log = scenario.log;
  detect = scenario.detect;
  act = scenario.act;
  rules = rules;
  ranks = scenario.ranks;
  subjects = scenario.subjects;
  own = scenario.own;
}

rules_put : (rules old : List NamedTree) (purpose : Purpose) (document : Members) → with_rules rules (scenario_of purpose document old) ≡ scenario_of purpose document rules
unfolding scenario_with
rules_put rules old purpose document = refl

by_document : (document : Members) (text : List ℕ) (need_own : Bool) (scenario : Scenario) → is_version_two document ≡ false → IsFaultless (for_migration document) document →
    Reads text (migrated document) → IsFaultless (purpose_by need_own) document → AreRulesOf (purpose_by need_own) document scenario.rules →
    scenario ≡ scenario_of (purpose_by need_own) document scenario.rules → MeansTheSame need_own scenario text
by_document document text need_own scenario one h reads right rules values =
    let after = migrated document in
    let purpose = purpose_by need_own in
    let ranks = ranking_of purpose document in
    let own = own_there purpose document right in
    let these = rules_by ranks (tick_of document) (per_kind (rule_numbers_of document) (metres_of document)) ++ rules.added in
    let other = with_rules these scenario in
    let are : AreRulesOf purpose after these = rules_moved purpose document rules.added h rules.are_added in
    let first = told_none purpose document first_rows first_plain (first_faultless purpose.need_own document one h own) in
    let last = told_none purpose document own_rows own_plain (own_faultless purpose.need_own document one h own) in
    let formulas = formulas_right purpose document h right in
    let IsWeighed : Option (Key × Cause) → Type 0 = λ told. IsWeightFault (ranking_of purpose after) (tick_of after) (rule_numbers_of after) (formula_tables after) told in
    let weighed : IsWeighed (fault_by 34 (weight_cause (total_weight these))) = (these, are, refl) in
    let weight : (told : Option (Key × Cause)) → fault_by 34 (weight_cause (total_weight these)) ≡ told → IsWeighed told =
    λ told e. subst (λ (t : Option (Key × Cause)). IsWeighed t) e weighed in
    record {
      other = other;
      same = record {
        ranks = ranks;
        tick = tick_of document;
        numbers = rule_numbers_of document;
        metres = metres_of document;
        added = rules.added;
        counted = ap (λ (s : Scenario). s.ranks) values ∙ ranks_read purpose document scenario.rules;
        one = one_number document one;
        rules = rules.order;
        per_kind = refl;
        rest = refl;
      };
      meaning = cases_of (nat_le (total_weight these) greatest_weight)
          ((total_weight these ≤ greatest_weight) × Means need_own text other ⊎ (greatest_weight < total_weight these) × IsRefused need_own text (record { row = 34; item = 0 }) cause.Product)
          (λ e. inl (
            nat_le-true (total_weight these) greatest_weight e,
            record {
              document = after;
              reads = reads;
              faultless = faultless purpose after first
                  (formulas_none purpose.need_own (ranking_of purpose after) after formulas (weight None (light_cause (total_weight these) e))) last;
              rules = are;
              values = ap (with_rules these) values ∙ rules_put these scenario.rules purpose document ∙ sym (scenario_moved purpose document these h own);
            },
          ))
          (λ e. inr (
            too_heavy (total_weight these) greatest_weight e,
            inr (record {
              document = after;
              reads = reads;
              first = first_in_formulas purpose after heavy first
                  (formulas_some purpose.need_own (ranking_of purpose after) after heavy (inr (formulas, weight (Some heavy) (heavy_cause (total_weight these) e))));
            }),
          ));
    }

pub by_bytes : (bytes text : List ℕ) → IsMigrated bytes text → (need_own : Bool) (scenario : Scenario) → Means need_own bytes scenario → MeansTheSame need_own scenario text
by_bytes bytes text is need_own scenario means =
    let same = one_document bytes means.document is.document means.reads is.reads in
    by_document is.document text need_own scenario is.version_one is.faultless
    (subst (λ (d : Members). Reads text d) (one_migrated is.document is.after (migrated is.document) is.becomes (put_together is.document)) is.read_again)
    (subst (λ (d : Members). IsFaultless (purpose_by need_own) d) same means.faultless)
    (subst (λ (d : Members). AreRulesOf (purpose_by need_own) d scenario.rules) same means.rules)
    (means.values ∙ ap (λ (d : Members). scenario_of (purpose_by need_own) d scenario.rules) same)

pub same : {E : Type 0} (bytes : List ℕ) (result : Result (Vec ℕ Global) E) → IfOk result (λ text. IsMigrated bytes text.items) →
    IfOk result (λ text. (need_own : Bool) (scenario : Scenario) → Means need_own bytes scenario → MeansTheSame need_own scenario text.items)
same bytes (Ok text) is = by_bytes bytes text.items is
same bytes (Err fault) is = tt

pub migrated_of : {E : Type 0} (bytes : List ℕ) (document : Members) (result : Result (Vec ℕ Global) E) → Reads bytes document → is_version_two document ≡ false →
    IsFaultless (for_migration document) document → IfOk result (λ text. IsDocumentText false (migrated document) text.items) → IfOk result (λ text. Reads text.items (migrated document)) →
    IfOk result (λ text. IsMigrated bytes text.items)
migrated_of bytes document (Ok text) reads one faultless printed again = record {
  document = document;
  reads = reads;
  version_one = one;
  faultless = faultless;
  after = migrated document;
  becomes = put_together document;
  printed = printed;
  read_again = again;
}
migrated_of bytes document (Err fault) reads one faultless printed again = tt
