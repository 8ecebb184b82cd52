-- The answer that words, shelf and log call for, step by step.
use Rattle.std.proofs.Common.{ℕ, ◌≡◌, ◌≤◌, ◌<◌, inl, inr, Bool, true, false, List, length, Option, Some, Result, Ok, Err, refl, ap, sym, subst}
use Rattle.outside.specs.Shelves.{Files, IsMissing}
use Rattle.scenario_values.specs.declared.values.Scenario.{Scenario}
use Rattle.colregs_program.specs.Answers.{AreRows, AreRowsWhere, AskForMigration, CanMigrate, HasLongRows, HasScenario, IsDue, IsRefusedBy, LiesUnder, MeetsAnswer, MissesFile, ReportRequested, Requested, greatest_scenario}
use Rattle.tasks.specs.Modes.{needs_rows}
use Rattle.tasks.specs.Tasks.{task_mode, task_rows}
use Rattle.colregs_program.specs.Inner.Migrating.{IsMigrationDue}
use Rattle.colregs_program.specs.LogAnswers.{IsAnswered}
use Rattle.command_line.specs.GivenArguments.{AskForNothing}
use Rattle.command_line.specs.Requests.{AskFor}
use Rattle.command_line.specs.declared.request.ReportRequest.{ReportRequest}
use Rattle.command_line.specs.declared.request.Request.{Request}
use Rattle.command_line.specs.declared.request.Request.TheVariants as asks
use Rattle.command_line.proofs.Asked.{asked_or_nothing, one_asked}
use Rattle.colregs_program.specs.AskedScenarios.{log_of, scenario_name, task_of}
use Rattle.colregs_program.specs.Inner.SetUps.{AreRowsDue, AreRowsDueWhere, IsSetUpDue, SetFor, answer_of}
use Rattle.colregs_program.specs.declared.set_up.SetUpFault.{SetUpFault}
use Rattle.colregs_program.specs.declared.set_up.SetUpFault.TheVariants as fault
use Rattle.colregs_program.specs.declared.status.Status.{Status}
use Rattle.colregs_program.specs.declared.status.Status.TheVariants as status
use Rattle.colregs_program.specs.declared.status.Which.TheVariants as which

pub usage_due : (words : List (List ℕ)) (files : Option Files) (log : Option (List ℕ)) (due : Status)
    → AskForNothing words → IsDue words files log due → due ≡ status.Usage
usage_due words files log status.Usage refused is = refl
usage_due words files log status.ShelfFault refused is = absurd (asked_or_nothing words is.0 is.1 refused)
usage_due words files log (status.Limit which.Scenario most) refused is = absurd (asked_or_nothing words is.1.0 is.1.1 refused)
usage_due words files log (status.Limit which.Rows most) refused is = absurd (asked_or_nothing words (asks.Report is.1.0) is.1.1 refused)
usage_due words files log (status.Limit which.Log most) refused is = absurd (asked_or_nothing words (asks.Report is.0) is.4.asked refused)
usage_due words files log (status.Limit which.Vessels most) refused is = absurd (asked_or_nothing words (asks.Report is.0) is.4.asked refused)
usage_due words files log (status.Limit which.Pairs most) refused is = absurd (asked_or_nothing words (asks.Report is.0) is.4.asked refused)
usage_due words files log (status.Scenario key why) refused is = absurd (asked_or_nothing words is.0 is.1 refused)
usage_due words files log (status.Limit which.Targets most) refused is = absurd (asked_or_nothing words (asks.Report is.0) is.4.asked refused)
usage_due words files log (status.OwnUnready why) refused is = absurd (asked_or_nothing words (asks.Report is.0) is.4.asked refused)
usage_due words files log (status.BadEntry index) refused is = absurd (asked_or_nothing words (asks.Report is.0) is.4.asked refused)
usage_due words files log status.NoManoeuvre refused is = absurd (asked_or_nothing words (asks.Report is.0) is.4.asked refused)
usage_due words files log status.Done refused (inl is) = absurd (asked_or_nothing words (asks.Report is.0) is.4.asked refused)
usage_due words files log status.Done refused (inr is) = absurd (asked_or_nothing words (asks.Migration is.0) is.1 refused)
usage_due words files log status.ReadFault refused is = absurd is
usage_due words files log status.WriteFault refused is = absurd is
usage_due words files log status.Memory refused is = absurd is

-- the answer that is due where setting up comes to this
abbrev pub Follows : Option (List ℕ) → ReportRequest → Status → Result SetFor SetUpFault → Type 0
Follows given request due (Ok (scenario, rows)) = (bytes : List ℕ) × (log_of request scenario given ≡ Some bytes) × IsAnswered (task_of request rows) scenario bytes due
Follows given request due (Err why) = answer_of why ≡ due

-- what setting up is to come to, where an answer is due
pub record SetUpDue (files : Option Files) (log : Option (List ℕ)) (request : ReportRequest) (due : Status) : Type 0 where
  pub came : Result SetFor SetUpFault
  pub is : IsSetUpDue request files came
  pub follows : Follows log request due came

-- P holds of what the words ask for
of_request : (words : List (List ℕ)) (request : Request) (P : Request → Type 0) → AskFor words request → Requested words P → P request
of_request words request P accepted asked = subst P (one_asked words asked.0 request asked.1 accepted) asked.2

-- a report that the words ask for is the one
pub one_report : (words : List (List ℕ)) (a b : ReportRequest) → AskFor words (asks.Report a) → AskFor words (asks.Report b) → a ≡ b
one_report words a b first second = let same = one_asked words (asks.Report a) (asks.Report b) first second in cc same

of_report : (words : List (List ℕ)) (request : ReportRequest) (P : ReportRequest → Type 0) → AskFor words (asks.Report request) → ReportRequested words P → P request
of_report words request P accepted asked = subst P (one_report words asked.0 request asked.1 accepted) asked.2

-- words that ask for a report ask for no migration
pub either_alone : (words : List (List ℕ)) (request : ReportRequest) (name : List ℕ) (Any : Type 0) → AskFor words (asks.Report request) → AskForMigration words name → Any
either_alone words request name Any reports migrates = let same = one_asked words (asks.Report request) (asks.Migration name) reports migrates in cc same

-- rows that there are are those that are called for
rows_due : (needs : Bool) (held : Files) (name rows : List ℕ) → AreRowsWhere needs (Some held) name rows → AreRowsDueWhere needs (Some held) name (Ok rows)
rows_due true held name rows are = (held, are.0, refl, are.1, are.2)
rows_due false held name rows are = ap Ok are

-- if the shelf has a known scenario, its rows are known too
rows_told : (request : ReportRequest) (files : Option Files) (scenario : Scenario) (rows : List ℕ) → HasScenario files request scenario → AreRows files request rows → AreRowsDue request files (Ok rows)
rows_told request files scenario rows lies are =
    subst (λ (f : Option Files). AreRowsDue request f (Ok rows)) (sym lies.2)
    (rows_due (needs_rows (task_mode request.task)) lies.0 (task_rows request.task) rows (subst (λ (f : Option Files). AreRows f request rows) lies.2 are))

of_meeting : (words : List (List ℕ)) (files : Option Files) (log : Option (List ℕ)) (request : ReportRequest) (due : Status)
    → AskFor words (asks.Report request) → MeetsAnswer words files log due → SetUpDue files log request due
of_meeting words files log request due accepted meets =
    let same : meets.0 ≡ request = one_report words meets.0 request meets.4.asked accepted in
    subst (λ (r : ReportRequest). SetUpDue files log r due) same (record {
      came = Ok (meets.2, meets.1);
      is = (meets.4.lies, rows_told meets.0 files meets.2 meets.1 meets.4.lies meets.4.are_rows);
      follows = (meets.3, meets.4.gives, meets.5);
    })

-- a file that is missing
missing_due : (request : ReportRequest) (files : Option Files) → MissesFile files (asks.Report request) → IsSetUpDue request files (Err fault.NotHad)
missing_due request files (inl missing) = inl missing
missing_due request files (inr (needs, has, missing)) = inr (has, subst (λ (b : Bool). AreRowsDueWhere b files (task_rows request.task) (Err fault.NotHad)) (sym needs) missing)

long_due : (request : ReportRequest) (files : Option Files) → HasLongRows files request → IsSetUpDue request files (Err fault.LongRows)
long_due request files (needs, has, long) = inr (has, subst (λ (b : Bool). AreRowsDueWhere b files (task_rows request.task) (Err fault.LongRows)) (sym needs) long)

pub set_up_due : (words : List (List ℕ)) (files : Option Files) (log : Option (List ℕ)) (request : ReportRequest) (due : Status)
    → AskFor words (asks.Report request) → IsDue words files log due → SetUpDue files log request due
set_up_due words files log request status.Usage accepted is = absurd (asked_or_nothing words (asks.Report request) accepted is)
set_up_due words files log request status.ShelfFault accepted is = record {
  came = Err fault.NotHad;
  is = missing_due request files (of_request words (asks.Report request) (MissesFile files) accepted is);
  follows = refl;
}
set_up_due words files log request (status.Limit which.Scenario most) accepted is = record {
  came = Err fault.LongScenario;
  is = inl (of_request words (asks.Report request) (λ r. LiesUnder files (scenario_name r) (λ text. greatest_scenario < length text)) accepted is.1);
  follows = ap (status.Limit which.Scenario) (sym is.0);
}
set_up_due words files log request (status.Limit which.Rows most) accepted is = record {
  came = Err fault.LongRows;
  is = long_due request files (of_report words request (HasLongRows files) accepted is.1);
  follows = ap (status.Limit which.Rows) (sym is.0);
}
set_up_due words files log request (status.Scenario key why) accepted is = record {
  came = Err (fault.Refused key why);
  is = inl (of_request words (asks.Report request) (λ r. LiesUnder files (scenario_name r) (λ text. (length text ≤ greatest_scenario) × IsRefusedBy r text key why)) accepted is);
  follows = refl;
}
set_up_due words files log request (status.Limit which.Log most) accepted is = of_meeting words files log request (status.Limit which.Log most) accepted is
set_up_due words files log request (status.Limit which.Vessels most) accepted is = of_meeting words files log request (status.Limit which.Vessels most) accepted is
set_up_due words files log request (status.Limit which.Pairs most) accepted is = of_meeting words files log request (status.Limit which.Pairs most) accepted is
set_up_due words files log request (status.Limit which.Targets most) accepted is = of_meeting words files log request (status.Limit which.Targets most) accepted is
set_up_due words files log request (status.OwnUnready why) accepted is = of_meeting words files log request (status.OwnUnready why) accepted is
set_up_due words files log request (status.BadEntry index) accepted is = of_meeting words files log request (status.BadEntry index) accepted is
set_up_due words files log request status.NoManoeuvre accepted is = of_meeting words files log request status.NoManoeuvre accepted is
set_up_due words files log request status.Done accepted (inl is) = of_meeting words files log request status.Done accepted is
set_up_due words files log request status.Done accepted (inr is) = either_alone words request is.0 _ accepted is.1
set_up_due words files log request status.ReadFault accepted is = absurd is
set_up_due words files log request status.WriteFault accepted is = absurd is
set_up_due words files log request status.Memory accepted is = absurd is

-- A migration meets nothing in a log.
no_meeting : (words : List (List ℕ)) (files : Option Files) (log : Option (List ℕ)) (name : List ℕ) (answer : Status) (Any : Type 0)
    → AskForMigration words name → MeetsAnswer words files log answer → Any
no_meeting words files log name answer Any accepted meets = either_alone words meets.0 name Any meets.4.asked accepted

-- a migration that the words ask for is the one
of_migration : (words : List (List ℕ)) (files : Option Files) (name : List ℕ) (P : List ℕ → Type 0) → AskForMigration words name
    → (other : List ℕ) → AskForMigration words other → P other → P name
of_migration words files name P accepted other asked holds =
    let same = one_asked words (asks.Migration other) (asks.Migration name) asked accepted in
    let one : other ≡ name = cc same in
    subst P one holds

-- what is due to a migration
pub migration_due : (words : List (List ℕ)) (files : Option Files) (log : Option (List ℕ)) (name : List ℕ) (due : Status)
    → AskForMigration words name → IsDue words files log due → IsMigrationDue name files due
migration_due words files log name status.Usage accepted is = absurd (asked_or_nothing words (asks.Migration name) accepted is)
migration_due words files log name status.ShelfFault accepted is = inl (refl, by (of_request words (asks.Migration name) (MissesFile files) accepted is))
  where
    by : MissesFile files (asks.Migration name) → IsMissing files name
    by (inl missing) = missing
    by (inr none) = absurd none
migration_due words files log name (status.Limit which.Rows most) accepted is = either_alone words is.1.0 name _ is.1.1 accepted
migration_due words files log name (status.Limit which.Scenario most) accepted is =
    inr (inl (
      ap (status.Limit which.Scenario) is.0,
      of_request words (asks.Migration name) (λ r. LiesUnder files (scenario_name r) (λ text. greatest_scenario < length text)) accepted is.1,
    ))
migration_due words files log name (status.Scenario key why) accepted is =
    inr (inr (inl (
      key,
      why,
      refl,
      of_request words (asks.Migration name) (λ r. LiesUnder files (scenario_name r) (λ text. (length text ≤ greatest_scenario) × IsRefusedBy r text key why)) accepted is,
    )))
migration_due words files log name (status.Limit which.Log most) accepted is = no_meeting words files log name _ _ accepted is
migration_due words files log name (status.Limit which.Vessels most) accepted is = no_meeting words files log name _ _ accepted is
migration_due words files log name (status.Limit which.Pairs most) accepted is = no_meeting words files log name _ _ accepted is
migration_due words files log name (status.Limit which.Targets most) accepted is = no_meeting words files log name _ _ accepted is
migration_due words files log name (status.OwnUnready why) accepted is = no_meeting words files log name _ _ accepted is
migration_due words files log name (status.BadEntry index) accepted is = no_meeting words files log name _ _ accepted is
migration_due words files log name status.NoManoeuvre accepted is = no_meeting words files log name _ _ accepted is
migration_due words files log name status.Done accepted (inl is) = no_meeting words files log name _ _ accepted is
migration_due words files log name status.Done accepted (inr is) =
    inr (inr (inr (refl, of_migration words files name (λ n. LiesUnder files n (λ text. (length text ≤ greatest_scenario) × CanMigrate text)) accepted is.0 is.1 is.2)))
migration_due words files log name status.ReadFault accepted is = absurd is
migration_due words files log name status.WriteFault accepted is = absurd is
migration_due words files log name status.Memory accepted is = absurd is
