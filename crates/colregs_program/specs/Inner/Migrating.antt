-- What a migration comes to.
use Rattle.std.specs.Prelude.{ℕ, ◌≡◌, ◌≤◌, ◌<◌, ◌⊎◌, List, length, Option, Result, Ok, Err, Vec}
use Rattle.std.specs.declared.alloc.Global.{Global}
use Rattle.outside.specs.Causes.{one_more}
use Rattle.outside.specs.Shelves.{Files, IsMissing}
use Rattle.scenario.specs.Migration.{IsMigrated, IsNotMigrated}
use Rattle.colregs_program.specs.Answers.{CanMigrate, HoldsUnder, LiesUnder, greatest_scenario}
use Rattle.colregs_program.specs.Inner.SetUps.{answer_of}
use Rattle.scenario_keys.specs.declared.key.Key.{Key}
use Rattle.scenario_keys.specs.declared.cause.Cause.{Cause}
use Rattle.colregs_program.specs.declared.set_up.SetUpFault.{SetUpFault}
use Rattle.colregs_program.specs.declared.set_up.SetUpFault.TheVariants as fault
use Rattle.colregs_program.specs.declared.status.Status.{Status}
use Rattle.colregs_program.specs.declared.status.Status.TheVariants as status
use Rattle.colregs_program.specs.declared.status.Which.TheVariants as which

-- The bytes under the name are a scenario of version 1, and P holds of some text that is the same scenario in version 2.
abbrev pub HoldsMigrated : Option Files → List ℕ → (List ℕ → Type 0) → Type 0
HoldsMigrated files name P = HoldsUnder files name (λ text. (length text ≤ greatest_scenario) × (migrated : List ℕ) × IsMigrated text migrated × P migrated)

-- too long for a scenario, refused for a cause, or with nothing against it
abbrev pub IsLong : List ℕ → Type 0
IsLong text = greatest_scenario < length text

abbrev pub IsRefusal : Key → Cause → List ℕ → Type 0
IsRefusal key cause text = (length text ≤ greatest_scenario) × IsNotMigrated text key cause

abbrev pub MayBe : List ℕ → Type 0
MayBe text = (length text ≤ greatest_scenario) × CanMigrate text

-- The answer that the bytes under the name call for, where they are to be migrated: nothing lies there, or too much; or the cause for which they are
-- not migrated, or they can be.
abbrev pub IsMigrationDue : List ℕ → Option Files → Status → Type 0
IsMigrationDue name files answer =
    ((answer ≡ status.ShelfFault) × IsMissing files name)
    ⊎ (((answer ≡ status.Limit which.Scenario greatest_scenario) × LiesUnder files name IsLong)
    ⊎ (((key : Key) × (cause : Cause) × (answer ≡ status.Scenario key cause) × LiesUnder files name (IsRefusal key cause))
    ⊎ ((answer ≡ status.Done) × LiesUnder files name MayBe)))

-- what the fault says of the bytes under the name, and of the shelf's count of faults
abbrev pub MigrationCause : List ℕ → Option Files → ℕ → ℕ → SetUpFault → Type 0
MigrationCause name files before now fault.NotHad = (now ≡ one_more before) ⊎ IsMissing files name
MigrationCause name files before now fault.LongScenario = HoldsUnder files name IsLong
MigrationCause name files before now fault.LongRows = ⊥
MigrationCause name files before now (fault.Refused key cause) = HoldsUnder files name (IsRefusal key cause)
MigrationCause name files before now fault.Memory = Unit {0}

-- A migration that came to this gives the answer, or found no memory.
abbrev pub ComesTo : Result (Vec ℕ Global) SetUpFault → Status → Type 0
ComesTo (Ok text) due = due ≡ status.Done
ComesTo (Err why) due = (answer_of why ≡ due) ⊎ (why ≡ fault.Memory)
