-- The reading of a scenario's bytes: its values, or its first fault.
use Rattle.std.specs.Prelude.{◌≡◌, ◌⊎◌, ℕ, Bool, List, Some, IsUtf8}
use Rattle.toml.specs.Data.{Members}
use Rattle.toml.specs.Parse.{parse_document}
use Rattle.scenario.specs.DocumentFaults.{IsFaultless, IsFirstFault}
use Rattle.scenario.specs.Purposes.{purpose_by}
use Rattle.scenario.specs.RuleValues.{AreRulesOf}
use Rattle.scenario.specs.ScenarioValues.{scenario_of}
use Rattle.scenario_keys.specs.declared.key.Key.{Key}
use Rattle.scenario_keys.specs.declared.cause.Cause.{Cause}
use Rattle.scenario_keys.specs.declared.cause.Cause.TheVariants as cause
use Rattle.scenario_values.specs.declared.values.Scenario.{Scenario}

-- The bytes are a text that TOML reads as this document.
pub record Reads (bytes : List ℕ) (document : Members) : Type 0 where
  pub text : IsUtf8 bytes
  pub tree : parse_document bytes ≡ Some document

-- The bytes mean a scenario, with own ship if she is needed, and otherwise with ranks if they ask for them: no key that
-- counts has a fault, and the values are those at the keys.
pub record Means (need_own : Bool) (bytes : List ℕ) (scenario : Scenario) : Type 0 where
  pub document : Members
  pub reads : Reads bytes document
  pub faultless : IsFaultless (purpose_by need_own) document
  pub rules : AreRulesOf (purpose_by need_own) document scenario.rules
  pub values : scenario ≡ scenario_of (purpose_by need_own) document scenario.rules

-- The bytes are not a TOML document, which is the fault of the first row, `document`.
pub record IsNoToml (bytes : List ℕ) (key : Key) (why : Cause) : Type 0 where
  pub at : key ≡ record { row = 0; item = 0 }
  pub because : why ≡ cause.NotToml
  pub unread : (document : Members) → ¬ Reads bytes document

-- The first fault of the document of the bytes.
pub record IsFaultOfKey (need_own : Bool) (bytes : List ℕ) (key : Key) (why : Cause) : Type 0 where
  pub document : Members
  pub reads : Reads bytes document
  pub first : IsFirstFault (purpose_by need_own) document (key, why)

-- The bytes are refused at a key, for a cause: the first fault in the order of the keys.
abbrev pub IsRefused : Bool → List ℕ → Key → Cause → Type 0
IsRefused need_own bytes key why = IsNoToml bytes key why ⊎ IsFaultOfKey need_own bytes key why

-- ---- the one reading

-- The bytes mean only this scenario, and are not refused.
pub record IsOnlyMeaning (need_own : Bool) (bytes : List ℕ) (scenario : Scenario) : Type 0 where
  pub means : Means need_own bytes scenario
  pub only : (other : Scenario) → Means need_own bytes other → other ≡ scenario
  pub accepted : (key : Key) (why : Cause) → ¬ IsRefused need_own bytes key why

-- They are refused only at this key and only for this cause, and mean no scenario.
pub record IsOnlyRefusal (need_own : Bool) (bytes : List ℕ) (key : Key) (why : Cause) : Type 0 where
  pub refused : IsRefused need_own bytes key why
  pub only : (other : Key) (because : Cause) → IsRefused need_own bytes other because → (other ≡ key) × (because ≡ why)
  pub meaningless : (scenario : Scenario) → ¬ Means need_own bytes scenario

-- The bytes have exactly one reading: one scenario, or one first fault.
abbrev pub HasOneReading : Bool → List ℕ → Type 0
HasOneReading need_own bytes =
    ((scenario : Scenario) × IsOnlyMeaning need_own bytes scenario) ⊎ ((key : Key) × (why : Cause) × IsOnlyRefusal need_own bytes key why)
