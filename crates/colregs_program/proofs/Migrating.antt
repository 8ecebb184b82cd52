-- Why a migration is refused is what the bytes under the name call for.
use Rattle.std.proofs.Common.{ℕ, List, ◌≡◌, ◌<◌, ◌⊎◌, inl, inr, length, Option, None, Some, Result, Ok, Err, Vec, refl, ap, sym, subst, arith}
use Rattle.std.specs.declared.alloc.Global.{Global}
use Rattle.outside.specs.Shelves.{Fetches, Files}
use Rattle.outside.specs.declared.shelf.Fetched.TheVariants as fetched
use Rattle.scenario.specs.Migration.{IsNotMigrated}
use Rattle.scenario_keys.specs.declared.key.Key.{Key}
use Rattle.scenario_keys.specs.declared.cause.Cause.{Cause}
use Rattle.scenario_keys.specs.declared.fault.ScenarioFault.{ScenarioFault}
use Rattle.scenario_keys.specs.declared.fault.ScenarioFault.TheVariants as refusal
use Rattle.colregs_program.specs.Answers.{CanMigrate, greatest_scenario}
use Rattle.colregs_program.specs.Inner.Migrating.{IsLong, IsMigrationDue, IsRefusal, MayBe, MigrationCause}
use Rattle.colregs_program.specs.Inner.SetUps.{answer_of, set_up_fault}
use Rattle.colregs_program.specs.declared.set_up.SetUpFault.TheVariants as fault
use Rattle.colregs_program.specs.declared.status.Status.{Status}
use Rattle.colregs_program.specs.declared.status.Status.TheVariants as status
use Rattle.colregs_program.proofs.SettingUp.{of_found}

-- A migration that failed answers what is due, or found no memory.
abbrev pub IsAnswered : ScenarioFault → Status → Type 0
IsAnswered why due = (answer_of (set_up_fault why) ≡ due) ⊎ (set_up_fault why ≡ fault.Memory)

abbrev pub gave : Vec ℕ Global → Result (Vec ℕ Global) ScenarioFault
gave text = Ok text

abbrev pub failed : ScenarioFault → Result (Vec ℕ Global) ScenarioFault
failed why = Err why

module _ (name : List ℕ) (v : Vec ℕ Global) (why : ScenarioFault)
    (refused : (key : Key) (cause : Cause) → failed why ≡ Err (refusal.Fault key cause) → IsNotMigrated v.items key cause)
    (told : (key : Key) (cause : Cause) → IsNotMigrated v.items key cause → (failed why ≡ Err (refusal.Fault key cause)) ⊎ (failed why ≡ Err refusal.Memory)) where
  can_not : (w : ScenarioFault) → why ≡ w → CanMigrate v.items → IsAnswered w status.Done
  can_not refusal.Memory is can = inr refl
  can_not (refusal.Fault key cause) is can = absurd (can key cause (refused key cause (ap Err is)))

  told_so : (key : Key) (cause : Cause) → (failed why ≡ Err (refusal.Fault key cause)) ⊎ (failed why ≡ Err refusal.Memory) → IsAnswered why (status.Scenario key cause)
  told_so key cause (inl same) = let is : why ≡ refusal.Fault key cause = cc same in rw is (inl refl)
  told_so key cause (inr same) = let is : why ≡ refusal.Memory = cc same in rw is (inr refl)

  held_due : (held : Files) → Fetches (Some held) name greatest_scenario (fetched.Bytes v) → (due : Status) → IsMigrationDue name (Some held) due → IsAnswered why due
  held_due held fetch due (inl (is, missing)) = cc (missing, fetch.0)
  held_due held fetch due (inr (inl (is, lies))) =
      let long : greatest_scenario < length v.items = of_found held name v.items IsLong fetch.0 lies in
      absurd (omega (arith, long, fetch.1))
  held_due held fetch due (inr (inr (inl (key, cause, is, lies)))) =
      subst (IsAnswered why) (sym is) (told_so key cause (told key cause (of_found held name v.items (IsRefusal key cause) fetch.0 lies).1))
  held_due held fetch due (inr (inr (inr (is, lies)))) =
      subst (IsAnswered why) (sym is) (can_not why refl (of_found held name v.items MayBe fetch.0 lies).1)

  -- if nothing on the shelf is known, nothing is due
  untold : (due : Status) → IsMigrationDue name None due → IsAnswered why due
  untold due (inl (is, missing)) = absurd missing
  untold due (inr (inl (is, lies))) = cc lies.2
  untold due (inr (inr (inl (key, cause, is, lies)))) = cc lies.2
  untold due (inr (inr (inr (is, lies)))) = cc lies.2

  pub refused_due : (files : Option Files) → Fetches files name greatest_scenario (fetched.Bytes v) → (due : Status) → IsMigrationDue name files due → IsAnswered why due
  refused_due None fetch due is = untold due is
  refused_due (Some held) fetch due is = held_due held fetch due is

-- ---- what a migration came to

module _ (name : List ℕ) (v text : Vec ℕ Global)
    (told : (key : Key) (cause : Cause) → IsNotMigrated v.items key cause → (gave text ≡ Err (refusal.Fault key cause)) ⊎ (gave text ≡ Err refusal.Memory)) where
  held_done : (held : Files) → Fetches (Some held) name greatest_scenario (fetched.Bytes v) → (due : Status) → IsMigrationDue name (Some held) due → due ≡ status.Done
  held_done held fetch due (inl (is, missing)) = cc (missing, fetch.0)
  held_done held fetch due (inr (inl (is, lies))) =
      let long : greatest_scenario < length v.items = of_found held name v.items IsLong fetch.0 lies in
      absurd (omega (arith, long, fetch.1))
  held_done held fetch due (inr (inr (inl (key, cause, is, lies)))) = none (told key cause (of_found held name v.items (IsRefusal key cause) fetch.0 lies).1)
    where
      none : {A : Type 0} → (gave text ≡ Err (refusal.Fault key cause)) ⊎ (gave text ≡ Err refusal.Memory) → A
      none (inl is) = cc is
      none (inr is) = cc is
  held_done held fetch due (inr (inr (inr (is, lies)))) = is

  untold_done : (due : Status) → IsMigrationDue name None due → due ≡ status.Done
  untold_done due (inl (is, missing)) = absurd missing
  untold_done due (inr (inl (is, lies))) = cc lies.2
  untold_done due (inr (inr (inl (key, cause, is, lies)))) = cc lies.2
  untold_done due (inr (inr (inr (is, lies)))) = is

  pub migrated_due : (files : Option Files) → Fetches files name greatest_scenario (fetched.Bytes v) → (due : Status) → IsMigrationDue name files due → due ≡ status.Done
  migrated_due None fetch due is = untold_done due is
  migrated_due (Some held) fetch due is = held_done held fetch due is

-- ---- why a migration failed

pub cause_of : (name : List ℕ) (files : Option Files) (v : Vec ℕ Global) (before now : ℕ) (why : ScenarioFault)
    → Fetches files name greatest_scenario (fetched.Bytes v) → ((key : Key) (cause : Cause) → failed why ≡ Err (refusal.Fault key cause) → IsNotMigrated v.items key cause)
    → MigrationCause name files before now (set_up_fault why)
cause_of name files v before now refusal.Memory fetch refused = tt
cause_of name None v before now (refusal.Fault key cause) fetch refused = tt
cause_of name (Some held) v before now (refusal.Fault key cause) fetch refused = (v.items, fetch.0, (fetch.1, refused key cause refl))
