-- What the bytes under a name call for is what setting up gives.
use Rattle.std.proofs.Common.{ℕ, ◌≡◌, ◌≤◌, ◌<◌, ◌⊎◌, inl, inr, List, length, Option, None, Some, Result, Ok, Err, Vec, false, true, refl, ap, sym, subst, arith, Bool, IsTrue, ap₂, ◌∙◌}
use Rattle.std.specs.declared.alloc.Global.{Global}
use Rattle.outside.specs.Shelves.{Files, Fetches, IsMissing, content_of}
use Rattle.outside.specs.declared.shelf.Fetched.TheVariants as fetched
use Rattle.std.specs.Prelude.{IfSome, IsErrAnd, IsSome, unwrap_or}
use Rattle.scenario.specs.ScenarioReading.{IsRefused, Means}
use Rattle.scenario.specs.ScenarioValues.{scenario_with}
use Rattle.scenario_values.specs.ValueRanges.{IsInRange}
use Rattle.scenario_keys.specs.declared.key.Key.{Key}
use Rattle.scenario_keys.specs.declared.cause.Cause.{Cause}
use Rattle.scenario_values.specs.declared.values.Scenario.{Scenario}
use Rattle.scenario_keys.specs.declared.fault.ScenarioFault.{ScenarioFault}
use Rattle.scenario_keys.specs.declared.fault.ScenarioFault.TheVariants as refusal
use Rattle.colregs_program.specs.Answers.{greatest_scenario, LiesUnder}
use Rattle.colregs_program.specs.AskedScenarios.{with_options}
use Rattle.tasks.specs.Modes.{needs_own}
use Rattle.tasks.specs.Tasks.{task_mode}
use Rattle.colregs_program.specs.Inner.SetUps.{AreOptions, AreRowsDue, IsScenarioDue, IsSetUpDue, SetFor, set_up_fault}
use Rattle.outside.specs.Causes.{one_more}
use Rattle.command_line.specs.Requests.{AskFor}
use Rattle.command_line.specs.declared.request.WindowOptions.{WindowOptions}
use Rattle.command_line.specs.declared.request.ReportRequest.{ReportRequest}
use Rattle.command_line.specs.declared.request.Request.TheVariants as asks
use Rattle.command_line.proofs.ForCallers.{start_in_range, ticks_in_range}
use Rattle.colregs_program.specs.declared.set_up.SetUpFault.{SetUpFault}
use Rattle.colregs_program.specs.declared.set_up.SetUpFault.TheVariants as fault

-- what lies under a name holds of the bytes that were found there
pub of_found : (held : Files) (name bytes : List ℕ) (P : List ℕ → Type 0) → content_of name held ≡ Some bytes → LiesUnder (Some held) name P → P bytes
of_found held name bytes P found lies =
    let same : lies.0 ≡ held = cc lies.2 in
    let there : content_of name held ≡ Some lies.1 = subst (λ (files : Files). content_of name files ≡ Some lies.1) same lies.3 in
    let one : lies.1 ≡ bytes = cc (there, found) in
    subst P one lies.4

pub lies_or_missing : (files : Option Files) (name : List ℕ) (P : List ℕ → Type 0) → LiesUnder files name P → IsMissing files name → ⊥
lies_or_missing None name P (held, text, is, content, p) missing = missing
lies_or_missing (Some files) name P (held, text, is, content, p) missing =
    let same : files ≡ held = cc is in
    let none = subst (λ (f : Files). content_of name f ≡ None) same missing in
    cc (content, none)

-- ---- the values that are given

or_within : (P : ℕ → Type 0) (o : Option ℕ) (n : ℕ) → IfSome o P → P n → P (unwrap_or o n)
or_within P None n given own = own
or_within P (Some m) n given own = given

-- instead of values in their ranges they are in the same
pub in_range : (options : WindowOptions) (scenario : Scenario) → AreOptions options → IsInRange scenario → IsInRange (with_options options scenario)
in_range options scenario are range =
    let ticks : (1 ≤ unwrap_or options.ticks scenario.window.ticks) × (unwrap_or options.ticks scenario.window.ticks ≤ 20000) =
    or_within (λ (n : ℕ). (1 ≤ n) × (n ≤ 20000)) options.ticks scenario.window.ticks are.ticks (range.window.ticks_from, range.window.ticks_to) in
    record {
      window = record {
        start = or_within (λ (n : ℕ). n ≤ 9999999999) options.start scenario.window.start are.start range.window.start;
        tick_from = range.window.tick_from;
        tick_to = range.window.tick_to;
        ticks_from = ticks.0;
        ticks_to = ticks.1;
      };
      log = range.log;
      detect = range.detect;
      act = range.act;
      rules = range.rules;
      subjects = range.subjects;
      few_subjects = range.few_subjects;
      own = range.own;
    }

less : (o : Option ℕ) (least most : ℕ) → IfSome o (λ n. (least ≤ n) × (n ≤ most)) → IfSome o (λ n. n ≤ most)
less None least most lies = tt
less (Some n) least most lies = lies.1

-- what words ask for is in range
pub options_in_range : (words : List (List ℕ)) (request : ReportRequest) → AskFor words (asks.Report request) → AreOptions request.window
options_in_range words request asked = record {
  start = less request.window.start 0 9999999999 (start_in_range words request asked);
  ticks = ticks_in_range words request asked;
}

-- ---- what is due

-- what a scenario that was read comes to
abbrev pub made : WindowOptions → Result Scenario ScenarioFault → Result Scenario SetUpFault
made options (Ok scenario) = Ok (with_options options scenario)
made options (Err refused) = Err (set_up_fault refused)

made_or : (options : WindowOptions) (got due : Result Scenario ScenarioFault) → (got ≡ due) ⊎ (got ≡ Err refusal.Memory)
    → (made options got ≡ made options due) ⊎ (made options got ≡ Err fault.Memory)
made_or options got due (inl same) = inl (ap (made options) same)
made_or options got due (inr memory) = inr (ap (made options) memory)

pub due-from_read : (request : ReportRequest) (files : Option Files) (v : Vec ℕ Global) (got : Result Scenario ScenarioFault)
    → Fetches files request.name greatest_scenario (fetched.Bytes v)
    → ((scenario : Scenario) → Means (needs_own (task_mode request.task)) v.items scenario → (got ≡ Ok scenario) ⊎ (got ≡ Err refusal.Memory))
    → ((key : Key) (why : Cause) → IsRefused (needs_own (task_mode request.task)) v.items key why → (got ≡ Err (refusal.Fault key why)) ⊎ (got ≡ Err refusal.Memory))
    → (due : Result Scenario SetUpFault) → IsScenarioDue request files due → (made request.window got ≡ due) ⊎ (made request.window got ≡ Err fault.Memory)
due-from_read request None v got fetch meant told (Ok scenario) due = cc due.2
due-from_read request None v got fetch meant told (Err fault.NotHad) due = absurd due
due-from_read request None v got fetch meant told (Err fault.LongScenario) due = cc due.2
due-from_read request None v got fetch meant told (Err fault.LongRows) due = absurd due
due-from_read request None v got fetch meant told (Err (fault.Refused key why)) due = cc due.2
due-from_read request None v got fetch meant told (Err fault.Memory) due = absurd due
due-from_read request (Some held) v got fetch meant told (Ok scenario) due =
    let is = of_found held request.name v.items _ fetch.0 due in
    subst (λ (s : Scenario). (made request.window got ≡ Ok s) ⊎ (made request.window got ≡ Err fault.Memory)) (sym is.values)
    (made_or request.window got (Ok is.told) (meant is.told is.means))
due-from_read request (Some held) v got fetch meant told (Err fault.NotHad) due = cc (due, fetch.0)
due-from_read request (Some held) v got fetch meant told (Err fault.LongRows) due = absurd due
due-from_read request (Some held) v got fetch meant told (Err fault.LongScenario) due =
    let long : greatest_scenario < length v.items = of_found held request.name v.items (λ text. greatest_scenario < length text) fetch.0 due in
    absurd (omega (arith, long, fetch.1))
due-from_read request (Some held) v got fetch meant told (Err (fault.Refused key why)) due =
    let is = of_found held request.name v.items (λ text. (length text ≤ greatest_scenario) × IsRefused (needs_own (task_mode request.task)) text key why) fetch.0 due in
    made_or request.window got (Err (refusal.Fault key why)) (told key why is.1)
due-from_read request (Some held) v got fetch meant told (Err fault.Memory) due = absurd due

-- where own ship is needed, the scenario has her
pub own_needed : (need : Bool) (text : List ℕ) (scenario : Scenario) → IsTrue need → Means need text scenario → IsSome scenario.own
unfolding scenario_with
own_needed true text scenario needed means = let own = ap (λ (s : Scenario). s.own) means.values in rw own refl
own_needed false text scenario needed means = absurd (cc needed)

-- and where she is not, it has none
pub own_unneeded : (need : Bool) (text : List ℕ) (scenario : Scenario) → need ≡ false → Means need text scenario → scenario.own ≡ None
unfolding scenario_with
own_unneeded true text scenario unneeded means = absurd (cc unneeded)
own_unneeded false text scenario unneeded means = ap (λ (s : Scenario). s.own) means.values

-- ---- the scenario and the rows

-- what setting up said it would give, where no fetch failed
abbrev pub GivesDue : ReportRequest → Option Files → ℕ → ℕ → Result SetFor SetUpFault → Type 0
GivesDue request files before now came =
    (due : Result SetFor SetUpFault) → IsSetUpDue request files due → (now ≡ one_more before) ⊎ ((came ≡ due) ⊎ (came ≡ Err fault.Memory))

abbrev pub GivesScenario : ReportRequest → Option Files → ℕ → ℕ → Result Scenario SetUpFault → Type 0
GivesScenario request files before now came =
    (due : Result Scenario SetUpFault) → IsScenarioDue request files due → (now ≡ one_more before) ⊎ ((came ≡ due) ⊎ (came ≡ Err fault.Memory))

abbrev pub GivesRows : ReportRequest → Option Files → ℕ → ℕ → Result (List ℕ) SetUpFault → Type 0
GivesRows request files before now came =
    (due : Result (List ℕ) SetUpFault) → AreRowsDue request files due → (now ≡ one_more before) ⊎ ((came ≡ due) ⊎ (came ≡ Err fault.Memory))

abbrev no_scenario : SetUpFault → Result Scenario SetUpFault
no_scenario why = Err why

abbrev a_scenario : Scenario → Result Scenario SetUpFault
a_scenario scenario = Ok scenario

abbrev pub not_set_up : SetUpFault → Result SetFor SetUpFault
not_set_up why = Err why

abbrev set_for : Scenario → List ℕ → Result SetFor SetUpFault
set_for scenario rows = Ok (scenario, rows)

abbrev pub had_rows : List ℕ → Result (List ℕ) SetUpFault
had_rows rows = Ok rows

abbrev pub no_rows : SetUpFault → Result (List ℕ) SetUpFault
no_rows why = Err why

module _ (request : ReportRequest) (files : Option Files) (before now : ℕ) where
  pub scenario_fails : (why : SetUpFault) → GivesScenario request files before now (Err why) → GivesDue request files before now (Err why)
  scenario_fails why gives (Ok made) is = by (gives (Ok made.0) is.0)
    where
      by : (now ≡ one_more before) ⊎ ((no_scenario why ≡ Ok made.0) ⊎ (no_scenario why ≡ Err fault.Memory)) → (now ≡ one_more before) ⊎ ((not_set_up why ≡ Ok made) ⊎ (not_set_up why ≡ Err fault.Memory))
      by (inl risen) = inl risen
      by (inr (inl same)) = cc same
      by (inr (inr memory)) = (let m : why ≡ fault.Memory = cc memory in inr (inr (ap not_set_up m)))
  scenario_fails why gives (Err other) (inl fails) = by (gives (Err other) fails)
    where
      by : (now ≡ one_more before) ⊎ ((no_scenario why ≡ no_scenario other) ⊎ (no_scenario why ≡ Err fault.Memory)) → (now ≡ one_more before) ⊎ ((not_set_up why ≡ not_set_up other) ⊎ (not_set_up why ≡ Err fault.Memory))
      by (inl risen) = inl risen
      by (inr (inl same)) = (let s : why ≡ other = cc same in inr (inl (ap not_set_up s)))
      by (inr (inr memory)) = (let m : why ≡ fault.Memory = cc memory in inr (inr (ap not_set_up m)))
  scenario_fails why gives (Err other) (inr (has, fails)) = by (gives (Ok has.0) has.1)
    where
      by : (now ≡ one_more before) ⊎ ((no_scenario why ≡ Ok has.0) ⊎ (no_scenario why ≡ Err fault.Memory)) → (now ≡ one_more before) ⊎ ((not_set_up why ≡ not_set_up other) ⊎ (not_set_up why ≡ Err fault.Memory))
      by (inl risen) = inl risen
      by (inr (inl same)) = cc same
      by (inr (inr memory)) = (let m : why ≡ fault.Memory = cc memory in inr (inr (ap not_set_up m)))

-- Behind a scenario that was had.
module _ (request : ReportRequest) (files : Option Files) (first before now : ℕ) (scenario : Scenario) (calm : before ≡ first)
    (gives : GivesScenario request files first before (Ok scenario)) (steps : (now ≡ before) ⊎ (now ≡ one_more before)) where
  risen_too : before ≡ one_more first → now ≡ one_more first
  risen_too risen = elim steps [
    | inl same ↦ same ∙ risen
    | inr more ↦ more ∙ ap one_more calm
  ]

  -- what was had is what is called for
  had_is : (due : Result Scenario SetUpFault) → IsScenarioDue request files due → (now ≡ one_more first) ⊎ (a_scenario scenario ≡ due)
  had_is due is = by (gives due is)
    where
      by : (before ≡ one_more first) ⊎ ((a_scenario scenario ≡ due) ⊎ (a_scenario scenario ≡ Err fault.Memory)) → (now ≡ one_more first) ⊎ (a_scenario scenario ≡ due)
      by (inl risen) = inl (risen_too risen)
      by (inr (inl same)) = inr same
      by (inr (inr memory)) = cc memory

  rows_risen : now ≡ one_more before → now ≡ one_more first
  rows_risen risen = risen ∙ ap one_more calm

  pub rows_fail : (why : SetUpFault) → GivesRows request files before now (Err why) → GivesDue request files first now (Err why)
  rows_fail why rows (Ok made) is = by (rows (Ok made.1) is.1)
    where
      by : (now ≡ one_more before) ⊎ ((no_rows why ≡ Ok made.1) ⊎ (no_rows why ≡ Err fault.Memory)) → (now ≡ one_more first) ⊎ ((not_set_up why ≡ Ok made) ⊎ (not_set_up why ≡ Err fault.Memory))
      by (inl risen) = inl (rows_risen risen)
      by (inr (inl same)) = cc same
      by (inr (inr memory)) = (let m : why ≡ fault.Memory = cc memory in inr (inr (ap not_set_up m)))
  rows_fail why rows (Err other) (inl fails) = by (had_is (Err other) fails)
    where
      by : (now ≡ one_more first) ⊎ (a_scenario scenario ≡ no_scenario other) → (now ≡ one_more first) ⊎ ((not_set_up why ≡ not_set_up other) ⊎ (not_set_up why ≡ Err fault.Memory))
      by (inl risen) = inl risen
      by (inr same) = cc same
  rows_fail why rows (Err other) (inr (has, fails)) = by (rows (Err other) fails)
    where
      by : (now ≡ one_more before) ⊎ ((no_rows why ≡ no_rows other) ⊎ (no_rows why ≡ Err fault.Memory)) → (now ≡ one_more first) ⊎ ((not_set_up why ≡ not_set_up other) ⊎ (not_set_up why ≡ Err fault.Memory))
      by (inl risen) = inl (rows_risen risen)
      by (inr (inl same)) = (let s : why ≡ other = cc same in inr (inl (ap not_set_up s)))
      by (inr (inr memory)) = (let m : why ≡ fault.Memory = cc memory in inr (inr (ap not_set_up m)))

  pub both_had : (text : List ℕ) → GivesRows request files before now (Ok text) → GivesDue request files first now (Ok (scenario, text))
  both_had text rows (Ok (other, others)) is = by (had_is (Ok other) is.0) (rows (Ok others) is.1)
    where
      by : (now ≡ one_more first) ⊎ (a_scenario scenario ≡ a_scenario other) → (now ≡ one_more before) ⊎ ((had_rows text ≡ had_rows others) ⊎ (had_rows text ≡ Err fault.Memory))
          → (now ≡ one_more first) ⊎ ((set_for scenario text ≡ set_for other others) ⊎ (set_for scenario text ≡ Err fault.Memory))
      by (inl risen) more = inl risen
      by (inr same) (inl risen) = inl (rows_risen risen)
      by (inr same) (inr (inl alike)) = (let s : scenario ≡ other = cc same in let t : text ≡ others = cc alike in inr (inl (ap₂ set_for s t)))
      by (inr same) (inr (inr memory)) = cc memory
  both_had text rows (Err why) (inl fails) = by (had_is (Err why) fails)
    where
      by : (now ≡ one_more first) ⊎ (a_scenario scenario ≡ no_scenario why) → (now ≡ one_more first) ⊎ ((set_for scenario text ≡ not_set_up why) ⊎ (set_for scenario text ≡ Err fault.Memory))
      by (inl risen) = inl risen
      by (inr same) = cc same
  both_had text rows (Err why) (inr (has, fails)) = by (rows (Err why) fails)
    where
      by : (now ≡ one_more before) ⊎ ((had_rows text ≡ no_rows why) ⊎ (had_rows text ≡ Err fault.Memory)) → (now ≡ one_more first) ⊎ ((set_for scenario text ≡ not_set_up why) ⊎ (set_for scenario text ≡ Err fault.Memory))
      by (inl risen) = inl (rows_risen risen)
      by (inr (inl same)) = cc same
      by (inr (inr memory)) = cc memory

-- an error that is handed on
pub handed_on : {A : Type 0} (r : Result A SetUpFault) (why : SetUpFault) → IsErrAnd r (λ e. e ≡ why) → r ≡ Err why
handed_on (Ok x) why is = absurd is
handed_on (Err e) why is = ap Err is
