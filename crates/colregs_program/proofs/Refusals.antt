-- What a run that fails, or ends, answers is what is due.
use Rattle.std.proofs.Common.{ℕ, ◌≡◌, ◌⊎◌, inl, inr, List, Option, None, Some, IfSome, Result, Ok, Err, refl, Bool, true, false, IsTrue, ap, sym, subst, ◌∙◌, [], ◌-◌, take, drop, append-nil, arith}
use Rattle.std.proofs.lemmas.List.{take-append-drop}
use Rattle.std.specs.Io.KnownBytes.{Keeps}
use Rattle.outside.specs.Causes.{Rose, one_more}
use Rattle.outside.specs.Shelves.{Files}
use Rattle.outside.specs.WholeReading.{StopsAt}
use Rattle.outside.specs.declared.whole.ReadFault.TheVariants as read
use Rattle.scenario_values.specs.declared.values.Scenario.{Scenario}
use Rattle.sessions.specs.Endings.{Came}
use Rattle.tasks.specs.Modes.{needs_rows, reads_log}
use Rattle.tasks.specs.Tasks.{task_mode}
use Rattle.tasks.proofs.ForCallers.{makes_drill}
use Rattle.sessions.specs.Refusals.{IsMet}
use Rattle.sessions.specs.Tasks.{Task}
use Rattle.sessions.proofs.ForCallers.{before_refused}
use Rattle.sessions.specs.declared.session_fault.SessionFault.TheVariants as why
use Rattle.plan_situations.specs.declared.readiness.Unready.{Unready}
use Rattle.colregs_program.specs.Answers.{AreRows, EndsWith, HoldsUnder, IsDue, IsOfDrill, IsScenario, MayPrecedeRows, MetIn, Runs, StopsWith, TellsLimit, WritesNothing, WritesPart}
use Rattle.colregs_program.specs.LogAnswers.{GainsFront, GainsReport, GainsSettled, IsAnswered, IsFinished, IsStoppedBy, LeavesSettled, Reports, answer_of, finished}
use Rattle.command_line.specs.GivenArguments.{AskForNothing}
use Rattle.command_line.specs.Requests.{AskFor}
use Rattle.tasks.specs.declared.mode.Mode.{Mode}
use Rattle.command_line.specs.declared.request.ReportRequest.{ReportRequest}
use Rattle.command_line.specs.declared.request.Request.{Request}
use Rattle.command_line.specs.declared.request.Request.TheVariants as asks
use Rattle.command_line.proofs.Asked.{one_asked}
use Rattle.colregs_program.specs.AskedScenarios.{asks_log, asks_rows, log_of, task_of}
use Rattle.colregs_program.specs.FaultLines.{is_made}
use Rattle.colregs_program.specs.Inner.SetUps as set_up
use Rattle.colregs_program.specs.Inner.SetUps.{SetFor}
use Rattle.colregs_program.specs.declared.set_up.SetUp.{SetUp}
use Rattle.colregs_program.specs.Inner.Streaming.{LogCount, OutCount, ReportCause, is_of_drill, stream_status}
use Rattle.colregs_program.specs.Inner.WordsFaults as words_fault
use Rattle.command_line.specs.declared.arguments.WordsFault.{WordsFault}
use Rattle.command_line.specs.declared.arguments.WordsFault.TheVariants as unasked
use Rattle.colregs_program.specs.declared.streaming.StreamFault.{StreamFault}
use Rattle.colregs_program.specs.declared.streaming.StreamFault.TheVariants as stream
use Rattle.colregs_program.specs.declared.set_up.SetUpFault.{SetUpFault}
use Rattle.colregs_program.specs.declared.set_up.SetUpFault.TheVariants as fault
use Rattle.colregs_program.specs.declared.status.Status.{Status}
use Rattle.colregs_program.specs.declared.status.Status.TheVariants as status
use Rattle.colregs_program.specs.declared.status.Which.TheVariants as which
use Rattle.colregs_program.proofs.Due.{Follows, set_up_due, usage_due}
use Rattle.colregs_program.proofs.SettingUp.{GivesDue}

-- An answer is reported as it is, or as memory that ran out.
abbrev pub IsTold : Status → Status → Type 0 → Type 0
IsTold told answer Made = (told ≡ answer) ⊎ ((told ≡ status.Memory) × Made)

told_is : (told answer due : Status) (Made : Type 0) → IsTold told answer Made → answer ≡ due → (told ≡ due) ⊎ (told ≡ status.Memory)
told_is told answer due Made (inl same) is = inl (same ∙ is)
told_is told answer due Made (inr memory) is = inr memory.0

memory_told : (told : Status) (Made : Type 0) → IsTold told status.Memory Made → told ≡ status.Memory
memory_told told Made (inl same) = same
memory_told told Made (inr memory) = memory.0

rose : (before now : ℕ) → now ≡ one_more before → Rose before now
rose before now is = omega (arith, is)

-- setting up ended with the answer that is due, or memory ran out
came_due : (words : List (List ℕ)) (files : Option Files) (log : Option (List ℕ)) (request : ReportRequest) (due : Status) (before now : ℕ) (came : Result SetFor SetUpFault)
    → AskFor words (asks.Report request) → IsDue words files log due → GivesDue request files before now came → ¬ Rose before now
    → Follows log request due came ⊎ (came ≡ Err fault.Memory)
came_due words files log request due before now came accepted is gives calm =
    let d = set_up_due words files log request due accepted is in
    elim (gives d.came d.is) [
      | inl risen ↦ absurd (calm (rose before now risen))
      | inr either ↦ elim either [
        | inl same ↦ inl (subst (Follows log request due) (sym same) d.follows)
        | inr memory ↦ inr memory
      ]
    ]

pub not_set_up : (words : List (List ℕ)) (files : Option Files) (log : Option (List ℕ)) (request : ReportRequest) (due told : Status) (before now : ℕ) (why : SetUpFault) (Made : Type 0)
    → AskFor words (asks.Report request) → IsDue words files log due → GivesDue request files before now (Err why) → ¬ Rose before now
    → IsTold told (set_up.answer_of why) Made → (told ≡ due) ⊎ (told ≡ status.Memory)
not_set_up words files log request due told before now why Made accepted is gives calm is_told =
    elim (came_due words files log request due before now (Err why) accepted is gives calm) [
      | inl follows ↦ told_is told (set_up.answer_of why) due Made is_told follows
      | inr memory ↦
          let memory_alone : why ≡ fault.Memory = cc memory in
          inr (memory_told told Made (subst (λ (w : SetUpFault). IsTold told (set_up.answer_of w) Made) memory_alone is_told))
    ]

-- a migration that failed answers what is due, where no fetch failed, and one that did not is done
pub migration_told : (before now : ℕ) (why : SetUpFault) (told due : Status) (Made : Type 0)
    → (now ≡ one_more before) ⊎ ((set_up.answer_of why ≡ due) ⊎ (why ≡ fault.Memory)) → ¬ Rose before now
    → IsTold told (set_up.answer_of why) Made → (told ≡ due) ⊎ (told ≡ status.Memory)
migration_told before now why told due Made (inl risen) calm is_told = absurd (calm (rose before now risen))
migration_told before now why told due Made (inr (inl is)) calm is_told = told_is told (set_up.answer_of why) due Made is_told is
migration_told before now why told due Made (inr (inr memory)) calm is_told =
    inr (memory_told told Made (subst (λ (w : SetUpFault). IsTold told (set_up.answer_of w) Made) memory is_told))

pub migration_done : (before now : ℕ) (due : Status) → (now ≡ one_more before) ⊎ (due ≡ status.Done) → ¬ Rose before now → (status.Done ≡ due) ⊎ (status.Done ≡ status.Memory)
migration_done before now due (inl risen) calm = absurd (calm (rose before now risen))
migration_done before now due (inr is) calm = inl (sym is)

-- where setting up gave a scenario, the log decides
pub log_decides : (words : List (List ℕ)) (files : Option Files) (log : Option (List ℕ)) (request : ReportRequest) (due : Status) (before now : ℕ) (made : SetFor)
    → AskFor words (asks.Report request) → IsDue words files log due → GivesDue request files before now (Ok made) → ¬ Rose before now
    → Follows log request due (Ok made)
log_decides words files log request due before now made accepted is gives calm =
    elim (came_due words files log request due before now (Ok made) accepted is gives calm) [
      | inl follows ↦ follows
      | inr memory ↦ cc memory
    ]

-- ---- what the log calls for

-- what a log comes to is one thing
abbrev pub OneComes : Type 0
OneComes = (task : Task) (scenario : Scenario) (log : List ℕ) (came other : Came) → IsMet task scenario log came → IsMet task scenario log other → came ≡ other

pub one_answered : OneComes → (task : Task) (scenario : Scenario) (log : List ℕ) (a b : Status) → IsAnswered task scenario log a → IsAnswered task scenario log b → a ≡ b
one_answered once task scenario log a b x y = x.is ∙ ap (answer_of scenario) (once task scenario log x.came y.came x.met y.met) ∙ sym y.is

-- What the log calls for is what was met in it.
pub met_is : OneComes → (log : Option (List ℕ)) (request : ReportRequest) (rows : List ℕ) (scenario : Scenario) (due answer : Status) → MetIn request rows scenario log answer
    → Follows log request due (Ok (scenario, rows)) → answer ≡ due
met_is once log request rows scenario due answer is (bytes, gives, follows) =
    let here = subst (λ (l : Option (List ℕ)). IfSome l (λ told. IsAnswered (task_of request rows) scenario told answer)) gives is in
    one_answered once (task_of request rows) scenario bytes answer due here follows

if_some : (P Q : List ℕ → Type 0) (o : Option (List ℕ)) → ((bytes : List ℕ) → P bytes → Q bytes) → IfSome o P → IfSome o Q
if_some P Q None so p = tt
if_some P Q (Some bytes) so p = so bytes p

-- the count of the sink's faults rises for a failed write alone
pub calm_told : (because : StreamFault) (limit before now : ℕ) (told : Status) (Made : Type 0) → IsTold told (stream_status because limit) Made → (told ≡ status.WriteFault → ⊥)
    → (Made → IsTrue (is_made (stream_status because limit))) → OutCount before now because → now ≡ before
calm_told stream.NotRead limit before now told Made is_told calm made count = count
calm_told stream.NotWritten limit before now told Made (inl same) calm made count = absurd (calm same)
calm_told stream.NotWritten limit before now told Made (inr none) calm made count = (let is = made none.1 in cc is)
calm_told (stream.Unreported because) limit before now told Made is_told calm made count = count

-- that of the log's for a failed read alone
pub log_calm_told : (because : StreamFault) (limit before now : ℕ) (told : Status) (Made : Type 0) → IsTold told (stream_status because limit) Made → (told ≡ status.ReadFault → ⊥)
    → (Made → IsTrue (is_made (stream_status because limit))) → LogCount before now because → now ≡ before
log_calm_told stream.NotRead limit before now told Made (inl same) calm made count = absurd (calm same)
log_calm_told stream.NotRead limit before now told Made (inr none) calm made count = (let is = made none.1 in cc is)
log_calm_told stream.NotWritten limit before now told Made is_told calm made count = count
log_calm_told (stream.Unreported because) limit before now told Made is_told calm made count = count

-- that of the shelf's where it had nothing to give alone
pub shelf_calm_told : (why : SetUpFault) (before now : ℕ) (told : Status) (Made : Type 0) → IsTold told (set_up.answer_of why) Made → (told ≡ status.ShelfFault → ⊥)
    → (Made → IsTrue (is_made (set_up.answer_of why))) → ((why ≡ fault.NotHad → ⊥) → now ≡ before) → now ≡ before
shelf_calm_told fault.NotHad before now told Made (inl same) calm made count = absurd (calm same)
shelf_calm_told fault.NotHad before now told Made (inr none) calm made count = (let is = made none.1 in cc is)
shelf_calm_told fault.LongScenario before now told Made is_told calm made count = count (λ is. cc is)
shelf_calm_told fault.LongRows before now told Made is_told calm made count = count (λ is. cc is)
shelf_calm_told (fault.Refused key cause) before now told Made is_told calm made count = count (λ is. cc is)
shelf_calm_told fault.Memory before now told Made is_told calm made count = count (λ is. cc is)

-- ---- the numbers of limits

pub limit_told : (told answer : Status) (Made : Type 0) → IsTold told answer Made → TellsLimit answer → TellsLimit told
limit_told told answer Made (inl same) limit = subst TellsLimit (sym same) limit
limit_told told answer Made (inr none) limit = subst TellsLimit (sym none.0) tt

pub words_limit : (why : WordsFault) → TellsLimit (words_fault.answer_of why)
words_limit unasked.Usage = tt
words_limit unasked.Memory = tt

pub set_up_limit : (why : SetUpFault) → TellsLimit (set_up.answer_of why)
set_up_limit fault.NotHad = tt
set_up_limit fault.LongScenario = refl
set_up_limit fault.LongRows = refl
set_up_limit (fault.Refused key cause) = tt
set_up_limit fault.Memory = tt

pub stream_limit : (because : StreamFault) (most : ℕ) → TellsLimit (stream_status because most)
stream_limit stream.NotRead most = tt
stream_limit stream.NotWritten most = tt
stream_limit (stream.Unreported why.Vessels) most = refl
stream_limit (stream.Unreported why.Pairs) most = refl
stream_limit (stream.Unreported why.LogBytes) most = tt
stream_limit (stream.Unreported (why.Own lack)) most = tt
stream_limit (stream.Unreported why.Targets) most = refl
stream_limit (stream.Unreported (why.Entry index)) most = tt
stream_limit (stream.Unreported why.Memory) most = tt

module _ (request : ReportRequest) (rows : List ℕ) (scenario : Scenario) (left left' contents contents' : Option (List ℕ)) where
  pub stops_met : (answer : Status) → StopsWith request scenario left contents contents' answer → MetIn request rows scenario left answer
  stops_met answer stops =
      if_some (λ bytes. IsStoppedBy (task_mode request.task) scenario bytes contents contents' answer) (λ bytes. IsAnswered (task_of request rows) scenario bytes answer) (log_of request scenario left)
      (λ bytes stop. record { came = Err stop.why; met = inl (stop.stopped.place, stop.stopped.refused); is = stop.is }) stops

  pub ends_met : (answer : Status) → EndsWith request rows scenario left left' contents contents' answer → MetIn request rows scenario left answer
  ends_met answer ends =
      if_some (λ bytes. IsAnswered (task_of request rows) scenario bytes answer × GainsSettled (task_mode request.task) scenario bytes contents contents') (λ bytes. IsAnswered (task_of request rows) scenario bytes answer)
      (log_of request scenario left) (λ bytes both. both.0) ends.ends

  either_met : (answer : Status) → StopsWith request scenario left contents contents' answer ⊎ EndsWith request rows scenario left left' contents contents' answer → MetIn request rows scenario left answer
  either_met answer (inl stops) = stops_met answer stops
  either_met answer (inr ends) = ends_met answer ends

  pub no_report : OneComes → (because : StreamFault) (most : ℕ) (due told : Status) (before now puts put : ℕ) (Made : Type 0) → most ≡ scenario.log.max_bytes
      → Follows left request due (Ok (scenario, rows)) → ReportCause request rows scenario left left' contents contents' because → LogCount before now because → OutCount puts put because
      → ¬ Rose before now → ¬ Rose puts put → IsTold told (stream_status because most) Made → (told ≡ due) ⊎ (told ≡ status.Memory)
  no_report once stream.NotRead most due told before now puts put Made limit follows cause reads writes calm quiet is_told = absurd (calm (rose before now reads))
  no_report once stream.NotWritten most due told before now puts put Made limit follows cause reads writes calm quiet is_told = absurd (quiet (rose puts put writes))
  no_report once (stream.Unreported why.Vessels) most due told before now puts put Made limit follows cause reads writes calm quiet is_told =
      told_is told (answer_of scenario (Err why.Vessels)) due Made is_told (met_is once left request rows scenario due _ (either_met (answer_of scenario (Err why.Vessels)) cause) follows)
  no_report once (stream.Unreported why.Pairs) most due told before now puts put Made limit follows cause reads writes calm quiet is_told =
      told_is told (answer_of scenario (Err why.Pairs)) due Made is_told (met_is once left request rows scenario due _ (either_met (answer_of scenario (Err why.Pairs)) cause) follows)
  no_report once (stream.Unreported why.LogBytes) most due told before now puts put Made limit follows cause reads writes calm quiet is_told =
      let met = met_is once left request rows scenario due _ (stops_met (answer_of scenario (Err why.LogBytes)) cause.1) follows in
      told_is told (status.Limit which.Log most) due Made is_told (ap (status.Limit which.Log) limit ∙ met)
  no_report once (stream.Unreported (why.Own lack)) most due told before now puts put Made limit follows cause reads writes calm quiet is_told =
      told_is told (status.OwnUnready lack) due Made is_told (met_is once left request rows scenario due _ (ends_met (answer_of scenario (Err (why.Own lack))) cause.0) follows)
  no_report once (stream.Unreported why.Targets) most due told before now puts put Made limit follows cause reads writes calm quiet is_told =
      told_is told (answer_of scenario (Err why.Targets)) due Made is_told (met_is once left request rows scenario due _ (ends_met (answer_of scenario (Err why.Targets)) cause.0) follows)
  no_report once (stream.Unreported (why.Entry index)) most due told before now puts put Made limit follows cause reads writes calm quiet is_told =
      told_is told (answer_of scenario (Err (why.Entry index))) due Made is_told (met_is once left request rows scenario due _ (ends_met (answer_of scenario (Err (why.Entry index))) cause.0) follows)
  no_report once (stream.Unreported why.Memory) most due told before now puts put Made limit follows cause reads writes calm quiet is_told = inr (memory_told told Made is_told)

  -- ---- a report

  pub reported_met : (none : Bool) → IfSome (log_of request scenario left) (λ bytes. Reports (task_of request rows) scenario bytes none contents contents') → MetIn request rows scenario left (finished none)
  reported_met none reports =
      if_some (λ bytes. Reports (task_of request rows) scenario bytes none contents contents') (λ bytes. IsAnswered (task_of request rows) scenario bytes (finished none)) (log_of request scenario left)
      (λ bytes reported. record { came = Ok none; met = reported.met; is = refl }) reports

  pub reported_so : (none : Bool) (answer : Status) → answer ≡ finished none → IfSome (log_of request scenario left) (λ bytes. Reports (task_of request rows) scenario bytes none contents contents')
      → IfSome (log_of request scenario left) (λ bytes. IsAnswered (task_of request rows) scenario bytes answer × GainsReport (task_of request rows) scenario bytes contents contents')
  reported_so none answer is reports =
      if_some (λ bytes. Reports (task_of request rows) scenario bytes none contents contents') (λ bytes. IsAnswered (task_of request rows) scenario bytes answer × GainsReport (task_of request rows) scenario bytes contents contents')
      (log_of request scenario left) (λ bytes reported. (record { came = Ok none; met = reported.met; is = is }, reported.gains)) reports

  -- ---- what is known of a log

  abbrev Either : Status → Type 0
  Either answer = StopsWith request scenario left contents contents' answer ⊎ EndsWith request rows scenario left left' contents contents' answer

  pub vessels_told : (because : StreamFault) (most limit : ℕ) (told : Status) (Made : Type 0) → IsTold told (stream_status because limit) Made → told ≡ status.Limit which.Vessels most
      → ReportCause request rows scenario left left' contents contents' because → Either (status.Limit which.Vessels most)
  vessels_told because most limit told Made (inr none) is cause = cc (none.0, is)
  vessels_told stream.NotRead most limit told Made (inl same) is cause = cc (same, is)
  vessels_told stream.NotWritten most limit told Made (inl same) is cause = cc (same, is)
  vessels_told (stream.Unreported why.Vessels) most limit told Made (inl same) is cause = subst Either (sym same ∙ is) cause
  vessels_told (stream.Unreported why.Pairs) most limit told Made (inl same) is cause = cc (same, is)
  vessels_told (stream.Unreported why.LogBytes) most limit told Made (inl same) is cause = cc (same, is)
  vessels_told (stream.Unreported (why.Own lack)) most limit told Made (inl same) is cause = cc (same, is)
  vessels_told (stream.Unreported why.Targets) most limit told Made (inl same) is cause = cc (same, is)
  vessels_told (stream.Unreported (why.Entry index)) most limit told Made (inl same) is cause = cc (same, is)
  vessels_told (stream.Unreported why.Memory) most limit told Made (inl same) is cause = cc (same, is)

  pub pairs_told : (because : StreamFault) (most limit : ℕ) (told : Status) (Made : Type 0) → IsTold told (stream_status because limit) Made → told ≡ status.Limit which.Pairs most
      → ReportCause request rows scenario left left' contents contents' because → Either (status.Limit which.Pairs most)
  pairs_told because most limit told Made (inr none) is cause = cc (none.0, is)
  pairs_told stream.NotRead most limit told Made (inl same) is cause = cc (same, is)
  pairs_told stream.NotWritten most limit told Made (inl same) is cause = cc (same, is)
  pairs_told (stream.Unreported why.Vessels) most limit told Made (inl same) is cause = cc (same, is)
  pairs_told (stream.Unreported why.Pairs) most limit told Made (inl same) is cause = subst Either (sym same ∙ is) cause
  pairs_told (stream.Unreported why.LogBytes) most limit told Made (inl same) is cause = cc (same, is)
  pairs_told (stream.Unreported (why.Own lack)) most limit told Made (inl same) is cause = cc (same, is)
  pairs_told (stream.Unreported why.Targets) most limit told Made (inl same) is cause = cc (same, is)
  pairs_told (stream.Unreported (why.Entry index)) most limit told Made (inl same) is cause = cc (same, is)
  pairs_told (stream.Unreported why.Memory) most limit told Made (inl same) is cause = cc (same, is)

  -- the limit of the log's bytes
  pub record BytesTold (most : ℕ) : Type 0 where
    pub limit : most ≡ scenario.log.max_bytes
    pub stops : IsTrue (reads_log (task_mode request.task)) → StopsAt most 0 left left' read.TooLong
    pub met : StopsWith request scenario left contents contents' (status.Limit which.Log most)

  pub bytes_told : (because : StreamFault) (most limit : ℕ) (told : Status) (Made : Type 0) → limit ≡ scenario.log.max_bytes → IsTold told (stream_status because limit) Made
      → told ≡ status.Limit which.Log most → ReportCause request rows scenario left left' contents contents' because → BytesTold most
  bytes_told because most limit told Made at (inr none) is cause = cc (none.0, is)
  bytes_told stream.NotRead most limit told Made at (inl same) is cause = cc (same, is)
  bytes_told stream.NotWritten most limit told Made at (inl same) is cause = cc (same, is)
  bytes_told (stream.Unreported why.Vessels) most limit told Made at (inl same) is cause = cc (same, is)
  bytes_told (stream.Unreported why.Pairs) most limit told Made at (inl same) is cause = cc (same, is)
  bytes_told (stream.Unreported why.LogBytes) most limit told Made at (inl same) is cause =
      let one : limit ≡ most = cc (same, is) in
      subst BytesTold (sym at ∙ one) (record { limit = refl; stops = cause.0; met = cause.1 })
  bytes_told (stream.Unreported (why.Own lack)) most limit told Made at (inl same) is cause = cc (same, is)
  bytes_told (stream.Unreported why.Targets) most limit told Made at (inl same) is cause = cc (same, is)
  bytes_told (stream.Unreported (why.Entry index)) most limit told Made at (inl same) is cause = cc (same, is)
  bytes_told (stream.Unreported why.Memory) most limit told Made at (inl same) is cause = cc (same, is)

  pub own_told : (because : StreamFault) (lacks : Unready) (limit : ℕ) (told : Status) (Made : Type 0) → IsTold told (stream_status because limit) Made → told ≡ status.OwnUnready lacks
      → ReportCause request rows scenario left left' contents contents' because → EndsWith request rows scenario left left' contents contents' (status.OwnUnready lacks)
  own_told because lacks limit told Made (inr none) is cause = cc (none.0, is)
  own_told stream.NotRead lacks limit told Made (inl same) is cause = cc (same, is)
  own_told stream.NotWritten lacks limit told Made (inl same) is cause = cc (same, is)
  own_told (stream.Unreported why.Vessels) lacks limit told Made (inl same) is cause = cc (same, is)
  own_told (stream.Unreported why.Pairs) lacks limit told Made (inl same) is cause = cc (same, is)
  own_told (stream.Unreported why.LogBytes) lacks limit told Made (inl same) is cause = cc (same, is)
  own_told (stream.Unreported (why.Own lack)) lacks limit told Made (inl same) is cause = subst (EndsWith request rows scenario left left' contents contents') (sym same ∙ is) cause.0
  own_told (stream.Unreported why.Targets) lacks limit told Made (inl same) is cause = cc (same, is)
  own_told (stream.Unreported (why.Entry index)) lacks limit told Made (inl same) is cause = cc (same, is)
  own_told (stream.Unreported why.Memory) lacks limit told Made (inl same) is cause = cc (same, is)

  pub targets_told : (because : StreamFault) (most limit : ℕ) (told : Status) (Made : Type 0) → IsTold told (stream_status because limit) Made → told ≡ status.Limit which.Targets most
      → ReportCause request rows scenario left left' contents contents' because → EndsWith request rows scenario left left' contents contents' (status.Limit which.Targets most)
  targets_told because most limit told Made (inr none) is cause = cc (none.0, is)
  targets_told stream.NotRead most limit told Made (inl same) is cause = cc (same, is)
  targets_told stream.NotWritten most limit told Made (inl same) is cause = cc (same, is)
  targets_told (stream.Unreported why.Vessels) most limit told Made (inl same) is cause = cc (same, is)
  targets_told (stream.Unreported why.Pairs) most limit told Made (inl same) is cause = cc (same, is)
  targets_told (stream.Unreported why.LogBytes) most limit told Made (inl same) is cause = cc (same, is)
  targets_told (stream.Unreported (why.Own lack)) most limit told Made (inl same) is cause = cc (same, is)
  targets_told (stream.Unreported why.Targets) most limit told Made (inl same) is cause = subst (EndsWith request rows scenario left left' contents contents') (sym same ∙ is) cause.0
  targets_told (stream.Unreported (why.Entry index)) most limit told Made (inl same) is cause = cc (same, is)
  targets_told (stream.Unreported why.Memory) most limit told Made (inl same) is cause = cc (same, is)

  pub entry_told : (because : StreamFault) (index limit : ℕ) (told : Status) (Made : Type 0) → IsTold told (stream_status because limit) Made → told ≡ status.BadEntry index
      → ReportCause request rows scenario left left' contents contents' because → EndsWith request rows scenario left left' contents contents' (status.BadEntry index)
  entry_told because index limit told Made (inr none) is cause = cc (none.0, is)
  entry_told stream.NotRead index limit told Made (inl same) is cause = cc (same, is)
  entry_told stream.NotWritten index limit told Made (inl same) is cause = cc (same, is)
  entry_told (stream.Unreported why.Vessels) index limit told Made (inl same) is cause = cc (same, is)
  entry_told (stream.Unreported why.Pairs) index limit told Made (inl same) is cause = cc (same, is)
  entry_told (stream.Unreported why.LogBytes) index limit told Made (inl same) is cause = cc (same, is)
  entry_told (stream.Unreported (why.Own lack)) index limit told Made (inl same) is cause = cc (same, is)
  entry_told (stream.Unreported why.Targets) index limit told Made (inl same) is cause = cc (same, is)
  entry_told (stream.Unreported (why.Entry bad)) index limit told Made (inl same) is cause = subst (EndsWith request rows scenario left left' contents contents') (sym same ∙ is) cause.0
  entry_told (stream.Unreported why.Memory) index limit told Made (inl same) is cause = cc (same, is)

  pub read_told : (because : StreamFault) (limit before now : ℕ) (told : Status) (Made : Type 0) → IsTold told (stream_status because limit) Made → told ≡ status.ReadFault
      → ReportCause request rows scenario left left' contents contents' because → LogCount before now because
      → (now ≡ one_more before) × IsTrue (reads_log (task_mode request.task)) × LeavesSettled (task_mode request.task) scenario left left' contents contents'
  read_told because limit before now told Made (inr none) is cause count = cc (none.0, is)
  read_told stream.NotRead limit before now told Made (inl same) is cause count = (count, cause.0, cause.1)
  read_told stream.NotWritten limit before now told Made (inl same) is cause count = cc (same, is)
  read_told (stream.Unreported why.Vessels) limit before now told Made (inl same) is cause count = cc (same, is)
  read_told (stream.Unreported why.Pairs) limit before now told Made (inl same) is cause count = cc (same, is)
  read_told (stream.Unreported why.LogBytes) limit before now told Made (inl same) is cause count = cc (same, is)
  read_told (stream.Unreported (why.Own lack)) limit before now told Made (inl same) is cause count = cc (same, is)
  read_told (stream.Unreported why.Targets) limit before now told Made (inl same) is cause count = cc (same, is)
  read_told (stream.Unreported (why.Entry index)) limit before now told Made (inl same) is cause count = cc (same, is)
  read_told (stream.Unreported why.Memory) limit before now told Made (inl same) is cause count = cc (same, is)

  pub put_told : (because : StreamFault) (limit before now : ℕ) (told : Status) (Made : Type 0) → IsTold told (stream_status because limit) Made → told ≡ status.WriteFault
      → ReportCause request rows scenario left left' contents contents' because → OutCount before now because
      → (now ≡ one_more before) × WritesPart request rows scenario left left' contents contents'
  put_told because limit before now told Made (inr none) is cause count = cc (none.0, is)
  put_told stream.NotRead limit before now told Made (inl same) is cause count = cc (same, is)
  put_told stream.NotWritten limit before now told Made (inl same) is cause count = (count, cause)
  put_told (stream.Unreported why.Vessels) limit before now told Made (inl same) is cause count = cc (same, is)
  put_told (stream.Unreported why.Pairs) limit before now told Made (inl same) is cause count = cc (same, is)
  put_told (stream.Unreported why.LogBytes) limit before now told Made (inl same) is cause count = cc (same, is)
  put_told (stream.Unreported (why.Own lack)) limit before now told Made (inl same) is cause count = cc (same, is)
  put_told (stream.Unreported why.Targets) limit before now told Made (inl same) is cause count = cc (same, is)
  put_told (stream.Unreported (why.Entry index)) limit before now told Made (inl same) is cause count = cc (same, is)
  put_told (stream.Unreported why.Memory) limit before now told Made (inl same) is cause count = cc (same, is)

  -- nothing was written
  pub nothing_told : (because : StreamFault) (limit : ℕ) (told : Status) (Made : Type 0) → IsTold told (stream_status because limit) Made → IsTrue (WritesNothing told)
      → ReportCause request rows scenario left left' contents contents' because → Keeps contents contents'
  nothing_told because limit told Made (inr none) is cause = (let no = subst (λ (s : Status). IsTrue (WritesNothing s)) none.0 is in cc no)
  nothing_told stream.NotRead limit told Made (inl same) is cause = (let no = subst (λ (s : Status). IsTrue (WritesNothing s)) same is in cc no)
  nothing_told stream.NotWritten limit told Made (inl same) is cause = (let no = subst (λ (s : Status). IsTrue (WritesNothing s)) same is in cc no)
  nothing_told (stream.Unreported why.Vessels) limit told Made (inl same) is cause = (let no = subst (λ (s : Status). IsTrue (WritesNothing s)) same is in cc no)
  nothing_told (stream.Unreported why.Pairs) limit told Made (inl same) is cause = (let no = subst (λ (s : Status). IsTrue (WritesNothing s)) same is in cc no)
  nothing_told (stream.Unreported why.LogBytes) limit told Made (inl same) is cause = (let no = subst (λ (s : Status). IsTrue (WritesNothing s)) same is in cc no)
  nothing_told (stream.Unreported (why.Own lack)) limit told Made (inl same) is cause = cause.1
  nothing_told (stream.Unreported why.Targets) limit told Made (inl same) is cause = cause.1
  nothing_told (stream.Unreported (why.Entry index)) limit told Made (inl same) is cause = cause.1
  nothing_told (stream.Unreported why.Memory) limit told Made (inl same) is cause = (let no = subst (λ (s : Status). IsTrue (WritesNothing s)) same is in cc no)

  -- ---- memory that ran out

  abbrev Front : Type 0
  Front = IfSome (log_of request scenario left) (λ log. GainsFront (task_mode request.task) scenario log contents contents')

  stops_front : (answer : Status) → StopsWith request scenario left contents contents' answer → Front
  stops_front answer stops =
      if_some (λ bytes. IsStoppedBy (task_mode request.task) scenario bytes contents contents' answer) (λ log. GainsFront (task_mode request.task) scenario log contents contents') (log_of request scenario left)
      (λ bytes stop. record {
        front = take (stop.stopped.place - 1) bytes;
        rest = drop (stop.stopped.place - 1) bytes;
        whole = sym (take-append-drop (stop.stopped.place - 1) bytes);
        gains = record {
          unrefused = before_refused (task_mode request.task) scenario bytes stop.why stop.text stop.stopped;
          text = stop.text;
          settled = stop.stopped.settled;
          gained = stop.gained;
        };
      }) stops

  ends_front : (answer : Status) → EndsWith request rows scenario left left' contents contents' answer → Front
  ends_front answer ends =
      if_some (λ bytes. IsAnswered (task_of request rows) scenario bytes answer × GainsSettled (task_mode request.task) scenario bytes contents contents') (λ log. GainsFront (task_mode request.task) scenario log contents contents')
      (log_of request scenario left) (λ bytes both. record { front = bytes; rest = []; whole = sym (append-nil bytes); gains = both.1 }) ends.ends

  either_front : (answer : Status) → Either answer → Front
  either_front answer (inl stops) = stops_front answer stops
  either_front answer (inr ends) = ends_front answer ends

  pub memory_front : (because : StreamFault) (limit : ℕ) (told : Status) (Made : Type 0) → IsTold told (stream_status because limit) Made → told ≡ status.Memory
      → (Made → IsTrue (is_made (stream_status because limit))) → ReportCause request rows scenario left left' contents contents' because → Front
  memory_front stream.NotRead limit told Made (inl same) is made cause = cc (same, is)
  memory_front stream.NotRead limit told Made (inr none) is made cause = (let no = made none.1 in cc no)
  memory_front stream.NotWritten limit told Made (inl same) is made cause = cc (same, is)
  memory_front stream.NotWritten limit told Made (inr none) is made cause = (let no = made none.1 in cc no)
  memory_front (stream.Unreported why.Vessels) limit told Made is_told is made cause = either_front (answer_of scenario (Err why.Vessels)) cause
  memory_front (stream.Unreported why.Pairs) limit told Made is_told is made cause = either_front (answer_of scenario (Err why.Pairs)) cause
  memory_front (stream.Unreported why.LogBytes) limit told Made is_told is made cause = stops_front (answer_of scenario (Err why.LogBytes)) cause.1
  memory_front (stream.Unreported (why.Own lack)) limit told Made is_told is made cause = ends_front (answer_of scenario (Err (why.Own lack))) cause.0
  memory_front (stream.Unreported why.Targets) limit told Made is_told is made cause = ends_front (answer_of scenario (Err why.Targets)) cause.0
  memory_front (stream.Unreported (why.Entry index)) limit told Made is_told is made cause = ends_front (answer_of scenario (Err (why.Entry index))) cause.0
  memory_front (stream.Unreported why.Memory) limit told Made is_told is made cause = cause

-- ---- a run that writes

-- What is known of the bytes under a name follows.
held_so : (files : Option Files) (name : List ℕ) (P Q : List ℕ → Type 0) → ((text : List ℕ) → P text → Q text) → HoldsUnder files name P → HoldsUnder files name Q
held_so None name P Q so holds = tt
held_so (Some held) name P Q so (text, found, p) = (text, found, so text p)

pub runs : (words : List (List ℕ)) (files : Option Files) (request : ReportRequest) (rows : List ℕ) (scenario : Scenario) (Q : ReportRequest → Type 0) (P : ReportRequest → List ℕ → Scenario → Type 0)
    → AskFor words (asks.Report request) → Q request → HoldsUnder files request.name (λ text. IsScenario request text scenario) → AreRows files request rows
    → P request rows scenario → Runs words files Q P
runs words files request rows scenario Q P accepted q holds are p = (
  request,
  accepted,
  (
    q,
    held_so files request.name (λ text. IsScenario request text scenario)
        (λ text. (s : Scenario) × IsScenario request text s × (told : List ℕ) × AreRows files request told × P request told s)
        (λ text is. (scenario, is, rows, are, p)) holds,
  ),
)

-- ---- the words ask for one request

module _ (words : List (List ℕ)) (request : Request) (report : ReportRequest) (asked : AskFor words request) (is : AskFor words (asks.Report report)) where
  -- so that it reads no log either
  pub unread_too : asks_log request ≡ false → reads_log (task_mode report.task) ≡ false
  unread_too not = subst (λ (r : Request). asks_log r ≡ false) (one_asked words request (asks.Report report) asked is) not

  -- and needs no rows either, or needs them too
  pub rows_too : (needs : Bool) → asks_rows request ≡ needs → needs_rows (task_mode report.task) ≡ needs
  rows_too needs same = subst (λ (r : Request). asks_rows r ≡ needs) (one_asked words request (asks.Report report) asked is) same

-- A migration needs no rows.
pub no_rows_migrated : (words : List (List ℕ)) (request : Request) (name : List ℕ) (Any : Type 0) → AskFor words request → AskFor words (asks.Migration name)
    → asks_rows request ≡ true → Any
no_rows_migrated words request name Any asked is needs =
    let none : asks_rows (asks.Migration name) ≡ true = subst (λ (r : Request). asks_rows r ≡ true) (one_asked words request (asks.Migration name) asked is) needs in
    cc none

-- ---- a drill

pub drill_told : (told answer : Status) (Made : Type 0) → IsTold told answer Made → IsTrue (IsOfDrill answer) → IsTrue (IsOfDrill told)
drill_told told answer Made (inl same) is = subst (λ (s : Status). IsTrue (IsOfDrill s)) (sym same) is
drill_told told answer Made (inr memory) is = subst (λ (s : Status). IsTrue (IsOfDrill s)) (sym memory.0) refl

-- how a drill's fault is reported
pub drill_status : (because : StreamFault) (limit : ℕ) → IsTrue (is_of_drill because) → IsTrue (IsOfDrill (stream_status because limit))
drill_status stream.NotRead limit is = cc is
drill_status stream.NotWritten limit is = refl
drill_status (stream.Unreported why.Vessels) limit is = cc is
drill_status (stream.Unreported why.Pairs) limit is = cc is
drill_status (stream.Unreported why.LogBytes) limit is = refl
drill_status (stream.Unreported (why.Own lack)) limit is = cc is
drill_status (stream.Unreported why.Targets) limit is = cc is
drill_status (stream.Unreported (why.Entry index)) limit is = cc is
drill_status (stream.Unreported why.Memory) limit is = refl

-- a drill's report has no manoeuvre to lack
pub drill_done : (none : Bool) → none ≡ false → IsTrue (IsOfDrill (finished none))
drill_done true is = cc is
drill_done false is = refl

-- ---- a run without a request

module _ (words : List (List ℕ)) (asked : Result Request WordsFault) (why : WordsFault) (told : Status) (Made : Type 0) (failed : asked ≡ Err why)
    (is_told : IsTold told (words_fault.answer_of why) Made) where
  -- arguments that ask for a request fail only if memory runs out
  pub memory_failed : (request : Request) → (asked ≡ Ok request) ⊎ (asked ≡ Err unasked.Memory) → told ≡ status.Memory
  memory_failed request (inl had) = cc (had, failed)
  memory_failed request (inr memory) =
      let alone : why ≡ unasked.Memory = cc (memory, failed) in
      memory_told told Made (subst (λ (w : WordsFault). IsTold told (words_fault.answer_of w) Made) alone is_told)

  pub not_asked : (files : Option Files) (log : Option (List ℕ)) (due : Status) → (asked ≡ Err unasked.Usage → AskForNothing words) → IsDue words files log due
      → (told ≡ due) ⊎ (told ≡ status.Memory)
  not_asked files log due refused is = elim (usage_or_memory why refl) [
    | inl usage ↦
        let nothing = refused (failed ∙ ap Err usage) in
        let same : words_fault.answer_of why ≡ due = ap words_fault.answer_of usage ∙ sym (usage_due words files log due nothing is) in
        told_is told (words_fault.answer_of why) due Made is_told same
    | inr memory ↦ inr (memory_told told Made (subst (λ (w : WordsFault). IsTold told (words_fault.answer_of w) Made) memory is_told))
  ]
    where
      usage_or_memory : (w : WordsFault) → w ≡ why → (why ≡ unasked.Usage) ⊎ (why ≡ unasked.Memory)
      usage_or_memory unasked.Usage is = inl (sym is)
      usage_or_memory unasked.Memory is = inr (sym is)

-- ---- a run that has no scenario

pub set_up_unfinished : (told : Status) (because : SetUpFault) (Made : Type 0) → IsTold told (set_up.answer_of because) Made → IsTrue (IsFinished told) → ⊥
set_up_unfinished told because Made (inr memory) done = let no = subst (λ (s : Status). IsTrue (IsFinished s)) memory.0 done in cc no
set_up_unfinished told fault.NotHad Made (inl same) done = let no = subst (λ (s : Status). IsTrue (IsFinished s)) same done in cc no
set_up_unfinished told fault.LongScenario Made (inl same) done = let no = subst (λ (s : Status). IsTrue (IsFinished s)) same done in cc no
set_up_unfinished told fault.LongRows Made (inl same) done = let no = subst (λ (s : Status). IsTrue (IsFinished s)) same done in cc no
set_up_unfinished told (fault.Refused key cause) Made (inl same) done = let no = subst (λ (s : Status). IsTrue (IsFinished s)) same done in cc no
set_up_unfinished told fault.Memory Made (inl same) done = let no = subst (λ (s : Status). IsTrue (IsFinished s)) same done in cc no

-- A drill needs no rows.
pub set_up_drills : (request : ReportRequest) (files : Option Files) (before now : ℕ) (told : Status) (because : SetUpFault) (Made : Type 0) → IsTold told (set_up.answer_of because) Made
    → reads_log (task_mode request.task) ≡ false → set_up.SetUpCause request files before now because → IsTrue (IsOfDrill told)
set_up_drills request files before now told because Made (inr memory) makes cause = subst (λ (s : Status). IsTrue (IsOfDrill s)) (sym memory.0) refl
set_up_drills request files before now told fault.NotHad Made (inl same) makes cause = subst (λ (s : Status). IsTrue (IsOfDrill s)) (sym same) refl
set_up_drills request files before now told fault.LongScenario Made (inl same) makes cause = subst (λ (s : Status). IsTrue (IsOfDrill s)) (sym same) refl
set_up_drills request files before now told fault.LongRows Made (inl same) makes cause =
    let needs : false ≡ true = subst (λ (m : Mode). IsTrue (needs_rows m)) (makes_drill (task_mode request.task) makes) cause.0 in
    cc needs
set_up_drills request files before now told (fault.Refused key why) Made (inl same) makes cause = subst (λ (s : Status). IsTrue (IsOfDrill s)) (sym same) refl
set_up_drills request files before now told fault.Memory Made (inl same) makes cause = subst (λ (s : Status). IsTrue (IsOfDrill s)) (sym same) refl

-- ---- how often the shelf was asked

-- where the run is set up, or not
pub asked_once : (request : ReportRequest) (before now : ℕ) (came : Result SetUp SetUpFault) → needs_rows (task_mode request.task) ≡ false → set_up.HaveFetched request before now came → now ≡ one_more before
asked_once request before now came none fetched = subst (λ (b : Bool). set_up.HaveFetchedBy b before now came) none fetched

pub asked_twice : (request : ReportRequest) (before now : ℕ) (made : SetUp) → needs_rows (task_mode request.task) ≡ true → set_up.HaveFetched request before now (Ok made) → now ≡ one_more (one_more before)
asked_twice request before now made needs fetched = subst (λ (b : Bool). set_up.HaveFetchedBy b before now (Ok made)) needs fetched

precedes_told : (told : Status) (because : SetUpFault) (Made : Type 0) → IsTold told (set_up.answer_of because) Made → IsTrue (set_up.precedes_rows because) → IsTrue (MayPrecedeRows told)
precedes_told told because Made (inr memory) is = subst (λ (s : Status). IsTrue (MayPrecedeRows s)) (sym memory.0) refl
precedes_told told fault.NotHad Made (inl same) is = subst (λ (s : Status). IsTrue (MayPrecedeRows s)) (sym same) refl
precedes_told told fault.LongScenario Made (inl same) is = subst (λ (s : Status). IsTrue (MayPrecedeRows s)) (sym same) refl
precedes_told told fault.LongRows Made (inl same) is = cc is
precedes_told told (fault.Refused key cause) Made (inl same) is = subst (λ (s : Status). IsTrue (MayPrecedeRows s)) (sym same) refl
precedes_told told fault.Memory Made (inl same) is = subst (λ (s : Status). IsTrue (MayPrecedeRows s)) (sym same) refl

pub asked_where_it_fails : (request : ReportRequest) (before now : ℕ) (told : Status) (because : SetUpFault) (Made : Type 0) → IsTold told (set_up.answer_of because) Made
    → needs_rows (task_mode request.task) ≡ true → set_up.HaveFetched request before now (Err because)
    → (now ≡ one_more (one_more before)) ⊎ ((IsTrue (MayPrecedeRows told) × (now ≡ one_more before)) ⊎ ((told ≡ status.Memory) × (now ≡ before)))
asked_where_it_fails request before now told because Made is_told needs fetched = by (subst (λ (b : Bool). set_up.HaveFetchedBy b before now (Err because)) needs fetched)
  where
    by : (now ≡ one_more (one_more before)) ⊎ (IsTrue (set_up.precedes_rows because) × (now ≡ one_more before))
        → (now ≡ one_more (one_more before)) ⊎ ((IsTrue (MayPrecedeRows told) × (now ≡ one_more before)) ⊎ ((told ≡ status.Memory) × (now ≡ before)))
    by (inl twice) = inl twice
    by (inr (precedes, once)) = inr (inl (precedes_told told because Made is_told precedes, once))

-- what is not touched is kept
pub keeps_same : (contents : Option (List ℕ)) → Keeps contents contents
keeps_same None = tt
keeps_same (Some bytes) = refl

-- a finished run has no answer of another stage
pub only_finished : {X : Type 0} (a b : Status) → a ≡ b → IsFinished a ≡ true → IsFinished b ≡ false → X
only_finished a b is here there = let both = sym here ∙ ap IsFinished is ∙ there in cc both

-- ---- the answers of one stage are not those of another

alone : {X : Type 0} (of : Status → Bool) (told answer other : Status) (Made : Type 0) → IsTold told answer Made → of answer ≡ true → of status.Memory ≡ true → told ≡ other → of other ≡ false → X
alone of told answer other Made (inl same) here memory is not_of = let both = sym here ∙ ap of (sym same ∙ is) ∙ not_of in cc both
alone of told answer other Made (inr lack) here memory is not_of = let both = sym memory ∙ ap of (sym lack.0 ∙ is) ∙ not_of in cc both

abbrev of_words : Status → Bool
of_words status.Usage = true
of_words status.Memory = true
of_words _ = false

words_are : (why : WordsFault) → of_words (words_fault.answer_of why) ≡ true
words_are unasked.Usage = refl
words_are unasked.Memory = refl

pub words_alone : {X : Type 0} (why : WordsFault) (told other : Status) (Made : Type 0) → IsTold told (words_fault.answer_of why) Made → told ≡ other → of_words other ≡ false → X
words_alone why told other Made is_told is not_of = alone of_words told (words_fault.answer_of why) other Made is_told (words_are why) refl is not_of

abbrev of_set_up : Status → Bool
of_set_up status.ShelfFault = true
of_set_up (status.Limit which.Scenario most) = true
of_set_up (status.Limit which.Rows most) = true
of_set_up (status.Scenario key cause) = true
of_set_up status.Memory = true
of_set_up _ = false

set_ups_are : (why : SetUpFault) → of_set_up (set_up.answer_of why) ≡ true
set_ups_are fault.NotHad = refl
set_ups_are fault.LongScenario = refl
set_ups_are fault.LongRows = refl
set_ups_are (fault.Refused key cause) = refl
set_ups_are fault.Memory = refl

pub set_up_alone : {X : Type 0} (why : SetUpFault) (told other : Status) (Made : Type 0) → IsTold told (set_up.answer_of why) Made → told ≡ other → of_set_up other ≡ false → X
set_up_alone why told other Made is_told is not_of = alone of_set_up told (set_up.answer_of why) other Made is_told (set_ups_are why) refl is not_of

abbrev of_stream : Status → Bool
of_stream status.Usage = false
of_stream status.ShelfFault = false
of_stream (status.Limit which.Scenario most) = false
of_stream (status.Limit which.Rows most) = false
of_stream (status.Scenario key cause) = false
of_stream _ = true

streams_are : (because : StreamFault) (limit : ℕ) → of_stream (stream_status because limit) ≡ true
streams_are stream.NotRead limit = refl
streams_are stream.NotWritten limit = refl
streams_are (stream.Unreported why.Vessels) limit = refl
streams_are (stream.Unreported why.Pairs) limit = refl
streams_are (stream.Unreported why.LogBytes) limit = refl
streams_are (stream.Unreported (why.Own lack)) limit = refl
streams_are (stream.Unreported why.Targets) limit = refl
streams_are (stream.Unreported (why.Entry index)) limit = refl
streams_are (stream.Unreported why.Memory) limit = refl

pub stream_alone : {X : Type 0} (because : StreamFault) (limit : ℕ) (told other : Status) (Made : Type 0) → IsTold told (stream_status because limit) Made → told ≡ other → of_stream other ≡ false → X
stream_alone because limit told other Made is_told is not_of = alone of_stream told (stream_status because limit) other Made is_told (streams_are because limit) refl is not_of
