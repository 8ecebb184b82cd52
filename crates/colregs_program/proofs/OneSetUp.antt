-- Setting up comes to one thing, and so does a run that reports.
use Rattle.std.proofs.Common.{ℕ, ◌≡◌, ◌≤◌, ◌<◌, ◌∙◌, inl, inr, Bool, true, false, List, length, Option, Some, Result, Ok, Err, refl, ap, sym, subst, arith}
use Rattle.outside.specs.Shelves.{Files, content_of}
use Rattle.command_line.specs.Requests.{AskFor}
use Rattle.command_line.specs.declared.request.ReportRequest.{ReportRequest}
use Rattle.command_line.specs.declared.request.Request.TheVariants as asks
use Rattle.scenario.specs.ScenarioReading.{IsRefused}
use Rattle.scenario_values.specs.declared.values.Scenario.{Scenario}
use Rattle.scenario.proofs.ForCallers.{meant_or_refused, one_meaning, one_refusal}
use Rattle.scenario_keys.specs.declared.key.Key.{Key}
use Rattle.scenario_keys.specs.declared.cause.Cause.{Cause}
use Rattle.tasks.specs.Modes.{needs_own, needs_rows}
use Rattle.tasks.specs.Tasks.{task_mode, task_rows}
use Rattle.colregs_program.specs.Answers.{HasScenario, IsDue, IsScenario, LiesUnder, greatest_scenario}
use Rattle.colregs_program.specs.AskedScenarios.{task_of, with_options}
use Rattle.colregs_program.specs.LogAnswers.{IsAnswered}
use Rattle.colregs_program.specs.Inner.Migrating.{IsLong}
use Rattle.colregs_program.specs.Inner.SetUps as set_up
use Rattle.colregs_program.specs.Inner.SetUps.{SetFor}
use Rattle.refutation_check.specs.declared.checked_text.TheConstants.{GREATEST_TEXT}
use Rattle.colregs_program.specs.declared.set_up.SetUpFault.{SetUpFault}
use Rattle.colregs_program.specs.declared.set_up.SetUpFault.TheVariants as fault
use Rattle.colregs_program.specs.declared.status.Status.{Status}
use Rattle.colregs_program.proofs.Due.{Follows, set_up_due}
use Rattle.colregs_program.proofs.Refusals.{OneComes, one_answered}
use Rattle.colregs_program.proofs.SettingUp.{lies_or_missing}

-- ---- what lies under a name is one thing

pub both_lie : (files : Option Files) (name : List ℕ) (P Q : List ℕ → Type 0) → LiesUnder files name P → LiesUnder files name Q → (text : List ℕ) × P text × Q text
both_lie files name P Q (held, text, is, content, p) (other, there, is', content', q) =
    let same : other ≡ held = cc (is, is') in
    let one : there ≡ text = (let here = subst (λ (f : Files). content_of name f ≡ Some there) same content' in cc (content, here)) in
    (text, p, subst Q one q)

-- ---- setting up comes to one thing

module _ (request : ReportRequest) (files : Option Files) where
  abbrev Gives : Scenario → List ℕ → Type 0
  Gives scenario text = IsScenario request text scenario

  abbrev IsFaulty : Key → Cause → List ℕ → Type 0
  IsFaulty key cause text = (length text ≤ greatest_scenario) × IsRefused (needs_own (task_mode request.task)) text key cause

  given_or_over : (scenario : Scenario) → LiesUnder files request.name (Gives scenario) → LiesUnder files request.name IsLong → ⊥
  given_or_over scenario x y =
      let (text, is, long) = both_lie files request.name (Gives scenario) IsLong x y in
      let short = is.short in
      omega (arith, short, long)

  given_or_faulty : (scenario : Scenario) (key : Key) (cause : Cause) → LiesUnder files request.name (Gives scenario) → LiesUnder files request.name (IsFaulty key cause) → ⊥
  given_or_faulty scenario key cause x y =
      let (text, is, fails) = both_lie files request.name (Gives scenario) (IsFaulty key cause) x y in
      meant_or_refused (needs_own (task_mode request.task)) text is.told key cause is.means fails.1

  over_or_faulty : (key : Key) (cause : Cause) → LiesUnder files request.name IsLong → LiesUnder files request.name (IsFaulty key cause) → ⊥
  over_or_faulty key cause x y =
      let (text, long, fails) = both_lie files request.name IsLong (IsFaulty key cause) x y in
      let short = fails.0 in
      omega (arith, short, long)

  one_scenario : (a b : Result Scenario SetUpFault) → set_up.IsScenarioDue request files a → set_up.IsScenarioDue request files b → a ≡ b
  one_scenario (Ok scenario) (Ok other) x y =
      let (text, is, is') = both_lie files request.name (Gives scenario) (Gives other) x y in
      let told = one_meaning (needs_own (task_mode request.task)) text is.told is'.told is.means is'.means in
      ap (λ (s : Scenario). Ok s) (is.values ∙ ap (with_options request.window) told ∙ sym is'.values)
  one_scenario (Ok scenario) (Err fault.NotHad) x y = absurd (lies_or_missing files request.name (Gives scenario) x y)
  one_scenario (Ok scenario) (Err fault.LongScenario) x y = absurd (given_or_over scenario x y)
  one_scenario (Ok scenario) (Err (fault.Refused key cause)) x y = absurd (given_or_faulty scenario key cause x y)
  one_scenario (Ok scenario) (Err fault.Memory) x y = absurd y
  one_scenario (Ok scenario) (Err fault.LongRows) x y = absurd y
  one_scenario (Err fault.NotHad) (Ok other) x y = absurd (lies_or_missing files request.name (Gives other) y x)
  one_scenario (Err fault.NotHad) (Err fault.NotHad) x y = refl
  one_scenario (Err fault.NotHad) (Err fault.LongScenario) x y = absurd (lies_or_missing files request.name IsLong y x)
  one_scenario (Err fault.NotHad) (Err (fault.Refused key cause)) x y = absurd (lies_or_missing files request.name (IsFaulty key cause) y x)
  one_scenario (Err fault.NotHad) (Err fault.Memory) x y = absurd y
  one_scenario (Err fault.NotHad) (Err fault.LongRows) x y = absurd y
  one_scenario (Err fault.LongScenario) (Ok other) x y = absurd (given_or_over other y x)
  one_scenario (Err fault.LongScenario) (Err fault.NotHad) x y = absurd (lies_or_missing files request.name IsLong x y)
  one_scenario (Err fault.LongScenario) (Err fault.LongScenario) x y = refl
  one_scenario (Err fault.LongScenario) (Err (fault.Refused key cause)) x y = absurd (over_or_faulty key cause x y)
  one_scenario (Err fault.LongScenario) (Err fault.Memory) x y = absurd y
  one_scenario (Err fault.LongScenario) (Err fault.LongRows) x y = absurd y
  one_scenario (Err (fault.Refused key cause)) (Ok other) x y = absurd (given_or_faulty other key cause y x)
  one_scenario (Err (fault.Refused key cause)) (Err fault.NotHad) x y = absurd (lies_or_missing files request.name (IsFaulty key cause) x y)
  one_scenario (Err (fault.Refused key cause)) (Err fault.LongScenario) x y = absurd (over_or_faulty key cause y x)
  one_scenario (Err (fault.Refused key cause)) (Err (fault.Refused other because)) x y =
      let (text, here, there) = both_lie files request.name (IsFaulty key cause) (IsFaulty other because) x y in
      let same = one_refusal (needs_own (task_mode request.task)) text key other cause because here.1 there.1 in
      let keys = same.0 in
      let causes = same.1 in
      cc (keys, causes)
  one_scenario (Err (fault.Refused key cause)) (Err fault.Memory) x y = absurd y
  one_scenario (Err (fault.Refused key cause)) (Err fault.LongRows) x y = absurd y
  one_scenario (Err fault.LongRows) b x y = absurd x
  one_scenario (Err fault.Memory) b x y = absurd x

  -- ---- and so do the rows

  rows_or_long : (name rows : List ℕ) → LiesUnder files name (λ text. (text ≡ rows) × (length rows ≤ GREATEST_TEXT)) → LiesUnder files name (λ text. GREATEST_TEXT < length text) → ⊥
  rows_or_long name rows x y =
      let (text, is, long) = both_lie files name (λ text. (text ≡ rows) × (length rows ≤ GREATEST_TEXT)) (λ text. GREATEST_TEXT < length text) x y in
      let over : GREATEST_TEXT < length rows = subst (λ (t : List ℕ). GREATEST_TEXT < length t) is.0 long in
      let short = is.1 in
      omega (arith, over, short)

  one_rows_where : (needs : Bool) (name : List ℕ) (a b : Result (List ℕ) SetUpFault) → set_up.AreRowsDueWhere needs files name a → set_up.AreRowsDueWhere needs files name b → a ≡ b
  one_rows_where false name a b x y = x ∙ sym y
  one_rows_where true name (Ok rows) (Ok other) x y =
      let (text, is, is') = both_lie files name (λ text. (text ≡ rows) × (length rows ≤ GREATEST_TEXT)) (λ text. (text ≡ other) × (length other ≤ GREATEST_TEXT)) x y in
      ap Ok (sym is.0 ∙ is'.0)
  one_rows_where true name (Ok rows) (Err fault.NotHad) x y = absurd (lies_or_missing files name (λ text. (text ≡ rows) × (length rows ≤ GREATEST_TEXT)) x y)
  one_rows_where true name (Ok rows) (Err fault.LongRows) x y = absurd (rows_or_long name rows x y)
  one_rows_where true name (Ok rows) (Err fault.LongScenario) x y = absurd y
  one_rows_where true name (Ok rows) (Err (fault.Refused key cause)) x y = absurd y
  one_rows_where true name (Ok rows) (Err fault.Memory) x y = absurd y
  one_rows_where true name (Err fault.NotHad) (Ok other) x y = absurd (lies_or_missing files name (λ text. (text ≡ other) × (length other ≤ GREATEST_TEXT)) y x)
  one_rows_where true name (Err fault.NotHad) (Err fault.NotHad) x y = refl
  one_rows_where true name (Err fault.NotHad) (Err fault.LongRows) x y = absurd (lies_or_missing files name (λ text. GREATEST_TEXT < length text) y x)
  one_rows_where true name (Err fault.NotHad) (Err fault.LongScenario) x y = absurd y
  one_rows_where true name (Err fault.NotHad) (Err (fault.Refused key cause)) x y = absurd y
  one_rows_where true name (Err fault.NotHad) (Err fault.Memory) x y = absurd y
  one_rows_where true name (Err fault.LongRows) (Ok other) x y = absurd (rows_or_long name other y x)
  one_rows_where true name (Err fault.LongRows) (Err fault.NotHad) x y = absurd (lies_or_missing files name (λ text. GREATEST_TEXT < length text) x y)
  one_rows_where true name (Err fault.LongRows) (Err fault.LongRows) x y = refl
  one_rows_where true name (Err fault.LongRows) (Err fault.LongScenario) x y = absurd y
  one_rows_where true name (Err fault.LongRows) (Err (fault.Refused key cause)) x y = absurd y
  one_rows_where true name (Err fault.LongRows) (Err fault.Memory) x y = absurd y
  one_rows_where true name (Err fault.LongScenario) b x y = absurd x
  one_rows_where true name (Err (fault.Refused key cause)) b x y = absurd x
  one_rows_where true name (Err fault.Memory) b x y = absurd x

  one_rows : (a b : Result (List ℕ) SetUpFault) → set_up.AreRowsDue request files a → set_up.AreRowsDue request files b → a ≡ b
  one_rows = one_rows_where (needs_rows (task_mode request.task)) (task_rows request.task)

  -- ---- both together

  no_scenario : (scenario : Scenario) (why : SetUpFault) (Any : Type 0) → HasScenario files request scenario → set_up.IsScenarioDue request files (Err why) → Any
  no_scenario scenario why Any has fails = let same = one_scenario (Ok scenario) (Err why) has fails in cc same

  no_rows : (rows : List ℕ) (why : SetUpFault) (Any : Type 0) → set_up.AreRowsDue request files (Ok rows) → set_up.AreRowsDue request files (Err why) → Any
  no_rows rows why Any are fails = let same = one_rows (Ok rows) (Err why) are fails in cc same

  one_set_up : (a b : Result SetFor SetUpFault) → set_up.IsSetUpDue request files a → set_up.IsSetUpDue request files b → a ≡ b
  one_set_up (Ok (scenario, rows)) (Ok (other, others)) x y =
      let same = one_scenario (Ok scenario) (Ok other) x.0 y.0 in
      let alike = one_rows (Ok rows) (Ok others) x.1 y.1 in
      cc (same, alike)
  one_set_up (Ok (scenario, rows)) (Err why) x (inl fails) = no_scenario scenario why _ x.0 fails
  one_set_up (Ok (scenario, rows)) (Err why) x (inr (has, fails)) = no_rows rows why _ x.1 fails
  one_set_up (Err why) (Ok (scenario, rows)) (inl fails) y = no_scenario scenario why _ y.0 fails
  one_set_up (Err why) (Ok (scenario, rows)) (inr (has, fails)) y = no_rows rows why _ y.1 fails
  one_set_up (Err why) (Err other) (inl fails) (inl fails') = let same = one_scenario (Err why) (Err other) fails fails' in cc same
  one_set_up (Err why) (Err other) (inl fails) (inr (has, fails')) = no_scenario has.0 why _ has.1 fails
  one_set_up (Err why) (Err other) (inr (has, fails)) (inl fails') = no_scenario has.0 other _ has.1 fails'
  one_set_up (Err why) (Err other) (inr (has, fails)) (inr (has', fails')) = let same = one_rows (Err why) (Err other) fails fails' in cc same

-- and so does what follows
one_following : OneComes → (log : Option (List ℕ)) (request : ReportRequest) (came : Result SetFor SetUpFault) (a b : Status) → Follows log request a came → Follows log request b came → a ≡ b
one_following once log request (Ok (scenario, rows)) a b (bytes, gives, is) (other, gives', is') =
    let same : other ≡ bytes = cc (gives, gives') in
    one_answered once (task_of request rows) scenario bytes a b is (subst (λ (l : List ℕ). IsAnswered (task_of request rows) scenario l b) same is')
one_following once log request (Err because) a b is is' = sym is ∙ is'

-- so at most one answer is due to a request that asks for a report
pub one_reported : OneComes → (words : List (List ℕ)) (files : Option Files) (log : Option (List ℕ)) (request : ReportRequest) → AskFor words (asks.Report request)
    → (a b : Status) → IsDue words files log a → IsDue words files log b → a ≡ b
one_reported once words files log request asked a b x y =
    let here = set_up_due words files log request a asked x in
    let there = set_up_due words files log request b asked y in
    let same = one_set_up request files there.came here.came there.is here.is in
    one_following once log request here.came a b here.follows (subst (Follows log request b) same there.follows)
