-- One answer is due at most; and that none is due is refuted if `clap` takes the arguments or refuses them, and the contents of shelf and log are known.
use Rattle.std.proofs.lemmas.Bool.{cases_lt}
use Rattle.std.proofs.Common.{ℕ, ◌≡◌, ◌≤◌, ◌<◌, ◌⊎◌, ◌∙◌, inl, inr, Bool, true, false, IsTrue, List, [], length, Option, None, Some, Ok, Err, refl, sym, subst, arith}
use Rattle.outside.specs.Shelves.{Files, content_of}
use Rattle.command_line.specs.GivenArguments.{AskForNothing}
use Rattle.command_line.specs.Requests.{AskFor}
use Rattle.command_line.specs.declared.request.ReportRequest.{ReportRequest}
use Rattle.command_line.specs.declared.request.Request.{Request}
use Rattle.command_line.specs.declared.request.Request.TheVariants as asks
use Rattle.scenario.specs.ScenarioReading.{Means}
use Rattle.scenario_values.specs.declared.values.Scenario.{Scenario}
use Rattle.scenario.proofs.ForCallers.{has_one_reading, one_reason}
use Rattle.scenario_keys.specs.declared.key.Key.{Key}
use Rattle.scenario_keys.specs.declared.cause.Cause.{Cause}
use Rattle.sessions.specs.Endings.{Came}
use Rattle.tasks.specs.Modes.{needs_own, needs_rows, reads_log}
use Rattle.tasks.specs.Tasks.{task_mode, task_rows, task_seed}
use Rattle.sessions.specs.Refusals.{IsMet}
use Rattle.sessions.specs.declared.session_fault.SessionFault.TheVariants as why
use Rattle.laws.specs.Requests.{SomeDue}
use Rattle.laws.proofs.SomeAnswer.{memory_not_met, some_met}
use Rattle.colregs_program.specs.Answers.{AreRows, AreRowsWhere, AskForMigration, CanMigrate, HasScenario, IsDue, IsRefusedBy, IsScenario, LiesUnder, MeetsAnswer, greatest_scenario}
use Rattle.colregs_program.specs.AskedScenarios.{log_of, scenario_name, task_of, with_options}
use Rattle.colregs_program.specs.LogAnswers.{answer_of}
use Rattle.colregs_program.specs.Inner.Migrating.{IsLong, IsMigrationDue, IsRefusal, MayBe}
use Rattle.refutation_check.specs.declared.checked_text.TheConstants.{GREATEST_TEXT}
use Rattle.colregs_program.specs.declared.status.Status.{Status}
use Rattle.colregs_program.specs.declared.status.Status.TheVariants as status
use Rattle.colregs_program.specs.declared.status.Which.TheVariants as which
use Rattle.drill_log.specs.DrillLog.{drill_log_of}
use Rattle.colregs_program.proofs.AskedLogs.{log_made, log_read}
use Rattle.colregs_program.proofs.Due.{migration_due, usage_due}
use Rattle.colregs_program.proofs.Refusals.{OneComes}
use Rattle.colregs_program.proofs.SettingUp.{lies_or_missing}
use Rattle.colregs_program.proofs.OneSetUp.{both_lie, one_reported}

-- ---- a migration comes to one thing

module _ (name : List ℕ) (files : Option Files) where
  one_said : (a b : Status) → IsMigrationDue name files a → IsMigrationDue name files b → a ≡ b
  one_said a b (inl x) (inl y) = x.0 ∙ sym y.0
  one_said a b (inl x) (inr (inl y)) = absurd (lies_or_missing files name IsLong y.1 x.1)
  one_said a b (inl x) (inr (inr (inl (key, cause, is, lies)))) = absurd (lies_or_missing files name (IsRefusal key cause) lies x.1)
  one_said a b (inl x) (inr (inr (inr y))) = absurd (lies_or_missing files name MayBe y.1 x.1)
  one_said a b (inr (inl x)) (inl y) = absurd (lies_or_missing files name IsLong x.1 y.1)
  one_said a b (inr (inl x)) (inr (inl y)) = x.0 ∙ sym y.0
  one_said a b (inr (inl x)) (inr (inr (inl (key, cause, is, lies)))) =
      let (text, long, short) = both_lie files name IsLong (IsRefusal key cause) x.1 lies in let few = short.0 in absurd (omega (arith, long, few))
  one_said a b (inr (inl x)) (inr (inr (inr y))) =
      let (text, long, short) = both_lie files name IsLong MayBe x.1 y.1 in let few = short.0 in absurd (omega (arith, long, few))
  one_said a b (inr (inr (inl (key, cause, is, lies)))) (inl y) = absurd (lies_or_missing files name (IsRefusal key cause) lies y.1)
  one_said a b (inr (inr (inl (key, cause, is, lies)))) (inr (inl y)) =
      let (text, short, long) = both_lie files name (IsRefusal key cause) IsLong lies y.1 in let few = short.0 in absurd (omega (arith, long, few))
  one_said a b (inr (inr (inl (key, cause, is, lies)))) (inr (inr (inl (other, because, is', lies')))) =
      let (text, here, there) = both_lie files name (IsRefusal key cause) (IsRefusal other because) lies lies' in
      let same = one_reason text key other cause because here.1 there.1 in
      let keys = same.0 in
      let causes = same.1 in
      cc (is, is', keys, causes)
  one_said a b (inr (inr (inl (key, cause, is, lies)))) (inr (inr (inr y))) =
      let (text, here, can) = both_lie files name (IsRefusal key cause) MayBe lies y.1 in absurd (can.1 key cause here.1)
  one_said a b (inr (inr (inr x))) (inl y) = absurd (lies_or_missing files name MayBe x.1 y.1)
  one_said a b (inr (inr (inr x))) (inr (inl y)) =
      let (text, short, long) = both_lie files name MayBe IsLong x.1 y.1 in let few = short.0 in absurd (omega (arith, long, few))
  one_said a b (inr (inr (inr x))) (inr (inr (inl (key, cause, is, lies)))) =
      let (text, can, here) = both_lie files name MayBe (IsRefusal key cause) x.1 lies in absurd (can.1 key cause here.1)
  one_said a b (inr (inr (inr x))) (inr (inr (inr y))) = x.0 ∙ sym y.0

-- ---- there is one answer at most

-- the words ask for nothing, or for a request
asked_by : (words : List (List ℕ)) (files : Option Files) (log : Option (List ℕ)) (answer : Status) → IsDue words files log answer → AskForNothing words ⊎ ((request : Request) × AskFor words request)
asked_by words files log status.Usage is = inl is
asked_by words files log status.ShelfFault is = inr (is.0, is.1)
asked_by words files log (status.Limit which.Scenario most) is = inr (is.1.0, is.1.1)
asked_by words files log (status.Limit which.Rows most) is = inr (asks.Report is.1.0, is.1.1)
asked_by words files log (status.Limit which.Log most) is = inr (asks.Report is.0, is.4.asked)
asked_by words files log (status.Limit which.Vessels most) is = inr (asks.Report is.0, is.4.asked)
asked_by words files log (status.Limit which.Pairs most) is = inr (asks.Report is.0, is.4.asked)
asked_by words files log (status.Limit which.Targets most) is = inr (asks.Report is.0, is.4.asked)
asked_by words files log (status.Scenario key cause) is = inr (is.0, is.1)
asked_by words files log (status.OwnUnready lack) is = inr (asks.Report is.0, is.4.asked)
asked_by words files log (status.BadEntry index) is = inr (asks.Report is.0, is.4.asked)
asked_by words files log status.NoManoeuvre is = inr (asks.Report is.0, is.4.asked)
asked_by words files log status.Done (inl is) = inr (asks.Report is.0, is.4.asked)
asked_by words files log status.Done (inr is) = inr (asks.Migration is.0, is.1)
asked_by words files log status.ReadFault is = absurd is
asked_by words files log status.WriteFault is = absurd is
asked_by words files log status.Memory is = absurd is

pub one_due : OneComes → (words : List (List ℕ)) (files : Option Files) (log : Option (List ℕ)) (a b : Status) → IsDue words files log a → IsDue words files log b → a ≡ b
one_due once words files log a b x y = elim (asked_by words files log a x) [
  | inl nothing ↦ usage_due words files log a nothing x ∙ sym (usage_due words files log b nothing y)
  | inr asked ↦ by asked.0 asked.1
]
  where
    by : (request : Request) → AskFor words request → a ≡ b
    by (asks.Report report) asked = one_reported once words files log report asked a b x y
    by (asks.Migration name) asked = one_said name files a b (migration_due words files log name a asked x) (migration_due words files log name b asked y)

-- ---- there is some answer

module _ (words : List (List ℕ)) (held : Files) (bytes : List ℕ) where
  abbrev Due : Status → Type 0
  Due answer = IsDue words (Some held) (Some bytes) answer

  abbrev Meets : Status → Type 0
  Meets answer = MeetsAnswer words (Some held) (Some bytes) answer

  -- ---- of each request

  module _ (request : Request) (asked : AskFor words request) (text : List ℕ) (lies : content_of (scenario_name request) held ≡ Some text)
      (none : (due : Status) → ¬ Due due) where
    lies_under : (P : List ℕ → Type 0) → P text → LiesUnder (Some held) (scenario_name request) P
    lies_under P holds = (held, text, refl, lies, holds)

    not_too_long : greatest_scenario < length text → ⊥
    not_too_long long = none (status.Limit which.Scenario greatest_scenario) (refl, (request, asked, lies_under IsLong long))

    not_refused : length text ≤ greatest_scenario → (key : Key) (cause : Cause) → IsRefusedBy request text key cause → ⊥
    not_refused short key cause is =
        none (status.Scenario key cause) (request, asked, lies_under (λ (t : List ℕ). (length t ≤ greatest_scenario) × IsRefusedBy request t key cause) (short, is))

  -- ---- of a report

  module _ (request : ReportRequest) (asked : AskFor words (asks.Report request)) where
    -- what a log comes to is an answer that is due
    met_due : (rows : List ℕ) (scenario : Scenario) (log : List ℕ) (came : Came) → IsMet (task_of request rows) scenario log came → Meets (answer_of scenario came) → Due (answer_of scenario came)
    met_due rows scenario log (Ok true) is meets = meets
    met_due rows scenario log (Ok false) is meets = inl meets
    met_due rows scenario log (Err why.Vessels) is meets = meets
    met_due rows scenario log (Err why.Pairs) is meets = meets
    met_due rows scenario log (Err why.LogBytes) is meets = meets
    met_due rows scenario log (Err (why.Own lack)) is meets = meets
    met_due rows scenario log (Err why.Targets) is meets = meets
    met_due rows scenario log (Err (why.Entry index)) is meets = meets
    met_due rows scenario log (Err why.Memory) is meets = absurd (memory_not_met (task_of request rows) scenario log is)

    log_told : (scenario : Scenario) → (log : List ℕ) × (log_of request scenario (Some bytes) ≡ Some log)
    log_told scenario = by (reads_log (task_mode request.task)) refl
      where
        by : (reads : Bool) → reads_log (task_mode request.task) ≡ reads → (log : List ℕ) × (log_of request scenario (Some bytes) ≡ Some log)
        by true is = (bytes, log_read request scenario (Some bytes) is)
        by false is = (drill_log_of scenario (task_seed request.task), log_made request scenario (Some bytes) is)

    module _ (text : List ℕ) (lies : content_of request.name held ≡ Some text) (none : (due : Status) → ¬ Due due) (short : length text ≤ greatest_scenario) where
      has_scenario : (told : Scenario) → Means (needs_own (task_mode request.task)) text told → HasScenario (Some held) request (with_options request.window told)
      has_scenario told means =
          lies_under (asks.Report request) asked text lies none (λ (t : List ℕ). IsScenario request t (with_options request.window told))
          (record { short = short; told = told; means = means; values = refl })

      reported_with : (told : Scenario) → Means (needs_own (task_mode request.task)) text told → (rows : List ℕ) → AreRows (Some held) request rows → ⊥
      reported_with told means rows are =
          let scenario = with_options request.window told in
          let log = log_told scenario in
          some_met (task_of request rows) scenario log.0 (λ came met. none (answer_of scenario came) (met_due rows scenario log.0 came met (
            request,
            rows,
            scenario,
            log.0,
            record {
              asked = asked;
              lies = has_scenario told means;
              are_rows = are;
              gives = log.1;
            },
            record { came = came; met = met; is = refl },
          )))

      -- the rows are missing, or too long, or there
      rows_looked_for : (told : Scenario) → Means (needs_own (task_mode request.task)) text told → IsTrue (needs_rows (task_mode request.task)) → ⊥
      rows_looked_for told means needs = by (content_of (task_rows request.task) held) refl
        where
          by : (found : Option (List ℕ)) → content_of (task_rows request.task) held ≡ found → ⊥
          by None is = none status.ShelfFault (asks.Report request, asked, inr (needs, (with_options request.window told, has_scenario told means), is))
          by (Some rows) is = elim (cases_lt GREATEST_TEXT (length rows)) [
            | inl long ↦ none (status.Limit which.Rows GREATEST_TEXT)
                (refl, (request, asked, (needs, (with_options request.window told, has_scenario told means), (held, rows, refl, is, long))))
            | inr within ↦ reported_with told means rows
                (subst (λ (b : Bool). AreRowsWhere b (Some held) (task_rows request.task) rows) (sym needs) (rows, is, (refl, omega arith)))
          ]

      reported : (told : Scenario) → Means (needs_own (task_mode request.task)) text told → ⊥
      reported told means = by (needs_rows (task_mode request.task)) refl
        where
          by : (needs : Bool) → needs_rows (task_mode request.task) ≡ needs → ⊥
          by true is = rows_looked_for told means is
          by false is = reported_with told means [] (subst (λ (b : Bool). AreRowsWhere b (Some held) (task_rows request.task) []) (sym is) refl)

      some_report : ⊥
      some_report = elim (has_one_reading (needs_own (task_mode request.task)) text) [
        | inl meaning ↦ reported meaning.0 meaning.1.means
        | inr refusal ↦ not_refused (asks.Report request) asked text lies none short refusal.0 refusal.1 refusal.2.refused
      ]

  -- ---- of a migration

  some_migration : (name : List ℕ) → AskForMigration words name → (text : List ℕ) → content_of name held ≡ Some text → ((due : Status) → ¬ Due due) → length text ≤ greatest_scenario → ⊥
  some_migration name asked text lies none short =
      let can : CanMigrate text = λ key cause not. not_refused (asks.Migration name) asked text lies none short key cause not in
      none status.Done (inr (name, asked, lies_under (asks.Migration name) asked text lies none (λ (t : List ℕ). (length t ≤ greatest_scenario) × CanMigrate t) (short, can)))

  short_due : (request : Request) → AskFor words request → (text : List ℕ) → content_of (scenario_name request) held ≡ Some text → ((due : Status) → ¬ Due due) → length text ≤ greatest_scenario → ⊥
  short_due (asks.Report report) asked text lies none short = some_report report asked text lies none short
  short_due (asks.Migration name) asked text lies none short = some_migration name asked text lies none short

  of_request : (request : Request) → AskFor words request → ¬ ((due : Status) → ¬ Due due)
  of_request request asked none = by (content_of (scenario_name request) held) refl
    where
      by : (found : Option (List ℕ)) → content_of (scenario_name request) held ≡ found → ⊥
      by None is = none status.ShelfFault (request, asked, inl is)
      by (Some text) is = elim (cases_lt greatest_scenario (length text)) [
        | inl long ↦ not_too_long request asked text is none long
        | inr short ↦ short_due request asked text is none short
      ]

  of_arguments : AskForNothing words ⊎ ((request : Request) × AskFor words request) → ¬ ((due : Status) → ¬ Due due)
  of_arguments (inl nothing) none = none status.Usage nothing
  of_arguments (inr (request, asked)) none = of_request request asked none

pub some_due : ((words : List (List ℕ)) → AskForNothing words ⊎ ((request : Request) × AskFor words request)) → SomeDue
some_due asked words held bytes = of_arguments words held bytes (asked words)
