-- A document has one meaning: its values, or its first fault.
use Rattle.std.proofs.Common.{◌≡◌, ◌⊎◌, inl, inr, ℕ, Bool, List, Option, Result, Ok, Err, IfOk, IfErr, refl, ap, sym, ◌∙◌, subst}
use Rattle.toml.specs.Data.{Members}
use Rattle.rule_set.specs.declared.ranking.Ranking.{Ranking}
use Rattle.scenario_keys.specs.ScenarioKeys.{Row, rows}
use Rattle.scenario_keys.specs.ToldFaults.{IfFault}
use Rattle.scenario_keys.proofs.ForCallers.{never_both, one_first}
use Rattle.scenario_rules.proofs.ForCallers.{one_formula_fault, one_rules, one_weight_fault}
use Rattle.scenario.specs.KeyFaults.{basis_of, tick_of}
use Rattle.scenario.specs.Purposes.{purpose_by, ranking_of}
use Rattle.scenario.specs.RuleValues.{formula_tables, rule_numbers_of, AreRulesOf}
use Rattle.scenario.specs.DocumentFaults.{IsFaultless, IsFirstFault, IsTold, IsToldBy, IsToldFor}
use Rattle.scenario.specs.ScenarioValues.{scenario_of}
use Rattle.scenario.specs.ScenarioReading.{IsRefused, Means, Reads}
use Rattle.scenario_keys.specs.declared.rows.Kind.{Kind}
use Rattle.scenario_keys.specs.declared.rows.Kind.TheVariants as kind
use Rattle.scenario_keys.specs.declared.cause.Cause.{Cause}
use Rattle.scenario_keys.specs.declared.fault.ScenarioFault.{ScenarioFault}
use Rattle.scenario_keys.specs.declared.fault.ScenarioFault.TheVariants as refusal
use Rattle.scenario_keys.specs.declared.key.Key.{Key}
use Rattle.scenario.specs.declared.basis.Basis.{Basis}
use Rattle.scenario.specs.declared.purpose.Purpose.{Purpose}
use Rattle.scenario_values.specs.declared.values.Scenario.{Scenario}

-- the test of a key finds one thing

one_by : (here : Kind) (basis : Basis) (ranks : Ranking) (document : Members) (row : Row) (a b : Option (Key × Cause)) → IsToldBy here basis ranks document row a → IsToldBy here basis ranks document row b → a ≡ b
one_by kind.FormulaName basis ranks document row a b h k = one_formula_fault ranks (tick_of document) (formula_tables document) a b h k
one_by kind.Formulas basis ranks document row a b h k = one_weight_fault ranks (tick_of document) (rule_numbers_of document) (formula_tables document) a b h k
one_by (kind.Number of) basis ranks document row a b h k = h ∙ sym k
one_by (kind.Numbers list) basis ranks document row a b h k = h ∙ sym k
one_by (kind.Tables most) basis ranks document row a b h k = h ∙ sym k
one_by kind.Shape basis ranks document row a b h k = h ∙ sym k
one_by kind.Plans basis ranks document row a b h k = h ∙ sym k
one_by kind.Document basis ranks document row a b h k = h ∙ sym k
one_by kind.FormulaText basis ranks document row a b h k = h ∙ sym k
one_by kind.PredictedShip basis ranks document row a b h k = h ∙ sym k
one_by kind.PredictedChanges basis ranks document row a b h k = h ∙ sym k

one_told : (basis : Basis) (ranks : Ranking) (document : Members) (row : Row) (a b : Option (Key × Cause)) → IsTold basis ranks document row a → IsTold basis ranks document row b → a ≡ b
one_told basis ranks document row a b h k = one_by row.kind basis ranks document row a b h k

pub faultless_or_not : (purpose : Purpose) (document : Members) (found : Key × Cause) → IsFaultless purpose document → IsFirstFault purpose document found → ⊥
unfolding IsFaultless IsFirstFault
faultless_or_not purpose document found h k =
    never_both (IsToldFor purpose document) (one_told (basis_of purpose.need_own document) (ranking_of purpose document) document) rows found h k

pub one_fault : (purpose : Purpose) (document : Members) (a b : Key × Cause) → IsFirstFault purpose document a → IsFirstFault purpose document b → a ≡ b
unfolding IsFirstFault
one_fault purpose document a b h k =
    one_first (IsToldFor purpose document) (one_told (basis_of purpose.need_own document) (ranking_of purpose document) document) rows a b h k

-- so do the bytes of a scenario

pub one_document : (bytes : List ℕ) (a b : Members) → Reads bytes a → Reads bytes b → a ≡ b
one_document bytes a b h k = let e = sym h.tree ∙ k.tree in cc

pub one_meaning : (need_own : Bool) (bytes : List ℕ) (a b : Scenario) → Means need_own bytes a → Means need_own bytes b → a ≡ b
one_meaning need_own bytes a b h k =
    let same = one_document bytes h.document k.document h.reads k.reads in
    let rules = one_rules (ranking_of (purpose_by need_own) k.document) (tick_of k.document) (rule_numbers_of k.document) (formula_tables k.document) a.rules b.rules
    (subst (λ (d : Members). AreRulesOf (purpose_by need_own) d a.rules) same h.rules) k.rules in
    h.values ∙ ap (λ (d : Members). scenario_of (purpose_by need_own) d a.rules) same ∙ ap (scenario_of (purpose_by need_own) k.document) rules ∙ sym k.values

pub meant_or_refused : (need_own : Bool) (bytes : List ℕ) (scenario : Scenario) (key : Key) (cause : Cause) → Means need_own bytes scenario → IsRefused need_own bytes key cause → ⊥
meant_or_refused need_own bytes scenario key cause means refused =
    elim refused [
      | inl h ↦ h.unread means.document means.reads
      | inr h ↦ (
          let same = one_document bytes means.document h.document means.reads h.reads in
          faultless_or_not (purpose_by need_own) h.document (key, cause) (subst (λ (d : Members). IsFaultless (purpose_by need_own) d) same means.faultless) h.first)
    ]

pub one_refusal : (need_own : Bool) (bytes : List ℕ) (key other : Key) (cause why : Cause) → IsRefused need_own bytes key cause → IsRefused need_own bytes other why → (key ≡ other) × (cause ≡ why)
one_refusal need_own bytes key other cause why refused again =
    elim refused [
      | inl h ↦ elim again [
        | inl k ↦ (h.at ∙ sym k.at, h.because ∙ sym k.because)
        | inr k ↦ absurd (h.unread k.document k.reads)
      ]
      | inr h ↦ elim again [
        | inl k ↦ absurd (k.unread h.document h.reads)
        | inr k ↦ (
            let same = one_document bytes h.document k.document h.reads k.reads in
            let pair = one_fault (purpose_by need_own) k.document (key, cause) (other, why) (subst (λ (d : Members). IsFirstFault (purpose_by need_own) d (key, cause)) same h.first) k.first in
            (ap (λ (p : Key × Cause). p.0) pair, ap (λ (p : Key × Cause). p.1) pair))
      ]
    ]

-- an answer that is right is the only one that is

pub meant : (need_own : Bool) (bytes : List ℕ) (result : Result Scenario ScenarioFault) → IfOk result (Means need_own bytes) →
    IfErr result (IfFault (λ told. IsRefused need_own bytes told.0 told.1)) →
    (scenario : Scenario) → Means need_own bytes scenario → (result ≡ Ok scenario) ⊎ (result ≡ Err refusal.Memory)
meant need_own bytes (Ok found) values refused scenario means = inl (ap (λ (s : Scenario). Ok s) (one_meaning need_own bytes found scenario values means))
meant need_own bytes (Err (refusal.Fault key cause)) values refused scenario means = absurd (meant_or_refused need_own bytes scenario key cause means refused)
meant need_own bytes (Err refusal.Memory) values refused scenario means = inr refl

pub told : (need_own : Bool) (bytes : List ℕ) (result : Result Scenario ScenarioFault) → IfOk result (Means need_own bytes) →
    IfErr result (IfFault (λ told. IsRefused need_own bytes told.0 told.1)) →
    (key : Key) (cause : Cause) → IsRefused need_own bytes key cause → (result ≡ Err (refusal.Fault key cause)) ⊎ (result ≡ Err refusal.Memory)
told need_own bytes (Ok found) values refused key cause is = absurd (meant_or_refused need_own bytes found key cause values is)
told need_own bytes (Err (refusal.Fault other why)) values refused key cause is =
    let same = one_refusal need_own bytes other key why cause refused is in
    let e : other ≡ key = same.0 in
    let f : why ≡ cause = same.1 in
    inl (cc)
told need_own bytes (Err refusal.Memory) values refused key cause is = inr refl

pub refused : (need_own : Bool) (bytes : List ℕ) (result : Result Scenario ScenarioFault) → IfErr result (IfFault (λ told. IsRefused need_own bytes told.0 told.1)) →
    (key : Key) (cause : Cause) → result ≡ Err (refusal.Fault key cause) → IsRefused need_own bytes key cause
refused need_own bytes (Ok found) h key cause e = cc
refused need_own bytes (Err (refusal.Fault other why)) h key cause e =
    let f : other ≡ key = cc in
    let g : why ≡ cause = cc in
    subst (λ (k : Key). IsRefused need_own bytes k cause) f (subst (λ (w : Cause). IsRefused need_own bytes other w) g h)
refused need_own bytes (Err refusal.Memory) h key cause e = cc
