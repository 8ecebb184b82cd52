-- What the clauses of `run` say if the shelf, the log and the sinks are in memory.
use Rattle.std.proofs.Common.{Vec, ◌∙◌, ℕ, ◌≡◌, ◌≢◌, ◌≤◌, ◌+◌, ◌⊎◌, inl, inr, IsTrue, List, [], ◌++◌, Option, Some, None, refl, sym, subst, ap, arith}
use Rattle.std.specs.Prelude.{IfSome, IfOk, Result, Ok, Err}
use Rattle.std.specs.declared.alloc.Global.{Global}
use Rattle.out_of_memory.specs.declared.Memory.{Memory}
use Rattle.std.specs.Io.KnownBytes.{Appends, Keeps}
use Rattle.command_line.specs.declared.request.ReportRequest.{ReportRequest}
use Rattle.outside.specs.Causes.{Rose, one_more}
use Rattle.outside.specs.Shelves.{Files}
use Rattle.outside.specs.WholeReading.{StopsAt}
use Rattle.outside.specs.declared.whole.ReadFault.TheVariants as read
use Rattle.scenario_values.specs.declared.values.Scenario.{Scenario}
use Rattle.sessions.specs.Endings.{IsEnding}
use Rattle.tasks.specs.Modes.{reads_log}
use Rattle.tasks.specs.Tasks.{task_mode}
use Rattle.colregs_program.specs.Answers.{EndsWith, IsDue, IsReadBy, Migrates, Runs, StopsWith, WritesNothing}
use Rattle.colregs_program.specs.AskedScenarios.{log_of, task_of}
use Rattle.colregs_program.specs.LogAnswers.{GainsReport, IsAnswered, IsFinished}
use Rattle.colregs_program.specs.Stages.{is_in_log, stage_of}
use Rattle.colregs_program.specs.declared.status.Status.{Status}
use Rattle.colregs_program.specs.declared.status.Status.TheVariants as status
use Rattle.colregs_program.specs.declared.status.Which.TheVariants as which
use Rattle.colregs_program.specs.FaultLines.{fault_line}
use Rattle.colregs_program.specs.Told.{Gains}
use Rattle.colregs_c.specs.Calls.{Call, IsAnsweredBy, IsReportOf, IsSettledBefore, files_of, files_with}
use Rattle.colregs_c.specs.Inner.Ends.{AreWhole, IsEndOf}
use Rattle.colregs_c.specs.declared.devices.GatheredText.{GatheredText}
use Rattle.colregs_c.specs.declared.running.Ended.{Ended}

-- a count of faults that is 0 and stays 0 did not rise
pub calm : (before now : ℕ) → before ≡ 0 → now ≡ 0 → Rose before now → ⊥
calm before now first last rose =
    let there : one_more 0 ≤ 0 = subst (λ n. one_more 0 ≤ n) last (subst (λ b. one_more b ≤ now) first rose) in
    omega (arith, there)

-- nor did it go one up
pub not_up : (before now : ℕ) → before ≡ 0 → now ≡ 0 → now ≡ one_more before → ⊥
not_up before now first last up =
    let there : 0 ≡ one_more 0 = subst (λ n. n ≡ one_more 0) last (subst (λ b. now ≡ one_more b) first up) in
    omega (arith, there)

if_some : (found : Option (List ℕ)) (P Q : List ℕ → Type 0) → ((bytes : List ℕ) → P bytes → Q bytes) → IfSome found P → IfSome found Q
if_some None P Q more holds = holds
if_some (Some bytes) P Q more holds = more bytes holds

-- the same run, with a weaker statement about its rows
runs_also : (words : List (List ℕ)) (files : Files) (Q : ReportRequest → Type 0) (P P' : ReportRequest → List ℕ → Scenario → Type 0)
    → ((request : ReportRequest) (rows : List ℕ) (scenario : Scenario) → P request rows scenario → P' request rows scenario)
    → Runs words (Some files) Q P → Runs words (Some files) (λ _. Unit {0}) P'
runs_also words files Q P P' more runs =
    let under = runs.2.1 in
    let held = under.2 in
    (runs.0, runs.1, (tt, (under.0, under.1, (held.0, held.1, held.2, held.3, more runs.0 held.2 held.0 held.4))))

-- what a sink that was empty has gained
gained_all : (text gained : List ℕ) → Appends (Some []) (Some text) gained → text ≡ gained
gained_all text gained appends = appends

-- what `run` says of an answer if a call's shelf and log are known, and what a sink holds before and after it
pub record Says (call : Call) (files : Option Files) (before after : Option (List ℕ)) (left : Option (List ℕ)) (answer : Status) : Type 0 where
  pub headline : IsTrue (IsFinished answer) → Runs call.arguments files (λ request. IsReadBy (task_mode request.task) left)
      (λ request rows scenario. IfSome (log_of request scenario (Some call.log)) (λ bytes. IsAnswered (task_of request rows) scenario bytes answer
      × GainsReport (task_of request rows) scenario bytes before after))
      ⊎ ((answer ≡ status.Done) × Migrates call.arguments files (λ text. Appends before after text))
  pub due : (due : Status) → IsDue call.arguments files (Some call.log) due → answer ≡ due
  pub log_limit : (most : ℕ) → answer ≡ status.Limit which.Log most → Runs call.arguments files
      (λ request. IsTrue (reads_log (task_mode request.task)) → StopsAt most 0 (Some call.log) left read.TooLong)
      (λ request rows scenario. (most ≡ scenario.log.max_bytes) × StopsWith request scenario (Some call.log) before after (status.Limit which.Log most))
  pub vessel_limit : (most : ℕ) → answer ≡ status.Limit which.Vessels most → Runs call.arguments files (λ _. Unit {0})
      (λ request rows scenario. StopsWith request scenario (Some call.log) before after (status.Limit which.Vessels most)
      ⊎ EndsWith request rows scenario (Some call.log) left before after (status.Limit which.Vessels most))
  pub pair_limit : (most : ℕ) → answer ≡ status.Limit which.Pairs most → Runs call.arguments files (λ _. Unit {0})
      (λ request rows scenario. StopsWith request scenario (Some call.log) before after (status.Limit which.Pairs most)
      ⊎ EndsWith request rows scenario (Some call.log) left before after (status.Limit which.Pairs most))
  pub silent : IsTrue (WritesNothing answer) → Keeps before after
  pub unread : answer ≢ status.ReadFault
  pub unwritten : answer ≢ status.WriteFault

module _ (call : Call) (text : List ℕ) (left : Option (List ℕ)) where
  abbrev Said : Status → Type 0
  Said = Says call (files_of call) (Some []) (Some text) left

  report_of : (answer : Status) → Runs call.arguments (files_of call) (λ request. IsReadBy (task_mode request.task) left)
      (λ request rows scenario. IfSome (log_of request scenario (Some call.log)) (λ bytes. IsAnswered (task_of request rows) scenario bytes answer
      × GainsReport (task_of request rows) scenario bytes (Some []) (Some text)))
      ⊎ ((answer ≡ status.Done) × Migrates call.arguments (files_of call) (λ migrated. Appends (Some []) (Some text) migrated)) → IsReportOf call answer text
  report_of answer (inl runs) =
      inl (runs_also call.arguments _ _ _ _ (λ request rows scenario. if_some (log_of request scenario (Some call.log)) _ _ (λ bytes holds.
      (holds.0, subst (λ (t : List ℕ). IsEnding (task_of request rows) scenario bytes t) (sym (gained_all text holds.1.text holds.1.gained)) holds.1.is))) runs)
  report_of answer (inr (done, migrates)) =
      let under = migrates.2 in
      inr (done, (migrates.0, migrates.1, (under.0, under.1, (under.2.0, under.2.1, under.2.2, gained_all text under.2.1 under.2.3))))

  also_ended : (request : ReportRequest) (rows : List ℕ) (scenario : Scenario) (answer : Status)
      → StopsWith request scenario (Some call.log) (Some []) (Some text) answer ⊎ EndsWith request rows scenario (Some call.log) left (Some []) (Some text) answer
      → StopsWith request scenario (Some call.log) (Some []) (Some text) answer
      ⊎ ((left' : Option (List ℕ)) × EndsWith request rows scenario (Some call.log) left' (Some []) (Some text) answer)
  also_ended request rows scenario answer (inl stops) = inl stops
  also_ended request rows scenario answer (inr ends) = inr (left, ends)

  settled_before : (answer : Status) → Said answer → IsTrue (is_in_log (stage_of answer)) → IsSettledBefore call answer text
  settled_before (status.Limit which.Log most) says there =
      runs_also call.arguments _ _ _ _ (λ request rows scenario holds. inl holds.1) (says.log_limit most refl)
  settled_before (status.Limit which.Vessels most) says there =
      runs_also call.arguments _ _ _ _ (λ request rows scenario holds. also_ended request rows scenario _ holds) (says.vessel_limit most refl)
  settled_before (status.Limit which.Pairs most) says there =
      runs_also call.arguments _ _ _ _ (λ request rows scenario holds. also_ended request rows scenario _ holds) (says.pair_limit most refl)
  settled_before status.ReadFault says there = absurd (says.unread refl)
  settled_before _ says there = cc

  pub answered : (answer : Status) → Said answer → IsAnsweredBy call answer text
  answered answer says = record {
    due = says.due;
    finished = λ there. report_of answer (says.headline there);
    limited = settled_before answer says;
    silent = says.silent;
    unread = says.unread;
    unwritten = says.unwritten;
  }

-- ---- the end of a run

-- the clauses of `run` that a call needs, over a shelf that holds these files, a log that the caller holds, and two texts
pub record RunSays (call : Call) (files : Files) (out out' err err' : GatheredText) (left : Option (List ℕ)) (answer : Status) : Type 0 where
  pub headline : IsTrue (IsFinished answer) → Runs call.arguments (Some files) (λ request. IsReadBy (task_mode request.task) left)
      (λ request rows scenario. IfSome (log_of request scenario (Some call.log)) (λ bytes. IsAnswered (task_of request rows) scenario bytes answer
      × GainsReport (task_of request rows) scenario bytes (Some out.bytes.items) (Some out'.bytes.items)))
      ⊎ ((answer ≡ status.Done) × Migrates call.arguments (Some files) (λ text. Appends (Some out.bytes.items) (Some out'.bytes.items) text))
  pub due : (due : Status) → IsDue call.arguments (Some files) (Some call.log) due → ¬ Rose 0 0 → ¬ Rose 0 0 → ¬ Rose out.faults out'.faults
      → (answer ≡ due) ⊎ (answer ≡ status.Memory)
  pub log_limit : (most : ℕ) → answer ≡ status.Limit which.Log most → Runs call.arguments (Some files)
      (λ request. IsTrue (reads_log (task_mode request.task)) → StopsAt most 0 (Some call.log) left read.TooLong)
      (λ request rows scenario. (most ≡ scenario.log.max_bytes)
      × StopsWith request scenario (Some call.log) (Some out.bytes.items) (Some out'.bytes.items) (status.Limit which.Log most))
  pub vessel_limit : (most : ℕ) → answer ≡ status.Limit which.Vessels most → Runs call.arguments (Some files) (λ _. Unit {0})
      (λ request rows scenario. StopsWith request scenario (Some call.log) (Some out.bytes.items) (Some out'.bytes.items) (status.Limit which.Vessels most)
      ⊎ EndsWith request rows scenario (Some call.log) left (Some out.bytes.items) (Some out'.bytes.items) (status.Limit which.Vessels most))
  pub pair_limit : (most : ℕ) → answer ≡ status.Limit which.Pairs most → Runs call.arguments (Some files) (λ _. Unit {0})
      (λ request rows scenario. StopsWith request scenario (Some call.log) (Some out.bytes.items) (Some out'.bytes.items) (status.Limit which.Pairs most)
      ⊎ EndsWith request rows scenario (Some call.log) left (Some out.bytes.items) (Some out'.bytes.items) (status.Limit which.Pairs most))
  pub silent : IsTrue (WritesNothing answer) → Keeps (Some out.bytes.items) (Some out'.bytes.items)
  pub unread : answer ≡ status.ReadFault → 0 ≡ one_more 0
  pub unwritten : answer ≡ status.WriteFault → out'.faults ≡ one_more out.faults
  pub line : Gains (record { bytes = Some err.bytes.items; faults = err.faults }) (record { bytes = Some err'.bytes.items; faults = err'.faults }) (fault_line answer)

-- the same, where the files and the first contents are those of a call, and no sink failed
says_of : (call : Call) (files : Files) (out out' err err' : GatheredText) (left : Option (List ℕ)) (answer : Status) → RunSays call files out out' err err' left answer
    → out.faults ≡ 0 → out'.faults ≡ 0 → answer ≢ status.Memory → Says call (Some files) (Some out.bytes.items) (Some out'.bytes.items) left answer
says_of call files out out' err err' left answer run before after remembered = record {
  headline = run.headline;
  due = λ due is. elim (run.due due is (calm 0 0 refl refl) (calm 0 0 refl refl) (calm out.faults out'.faults before after))
      [ inl same ↦ same | inr memory ↦ absurd (remembered memory) ];
  log_limit = run.log_limit;
  vessel_limit = run.vessel_limit;
  pair_limit = run.pair_limit;
  silent = run.silent;
  unread = λ is. not_up 0 0 refl refl (run.unread is);
  unwritten = λ is. not_up out.faults out'.faults before after (run.unwritten is);
}

pub end_of_run : (call : Call) (files : Files) (out out' err err' : GatheredText) (left : Option (List ℕ)) (answer : Status) (end : Ended)
    → RunSays call files out out' err err' left answer → files ≡ files_with call.scenario call.rows
    → out.bytes.items ≡ [] → out.faults ≡ 0 → err.bytes.items ≡ [] → err.faults ≡ 0 → AreWhole answer out' err' end → IsEndOf call end
end_of_run call files out out' err err' left answer end run held empty before line_empty line_before are =
    let text : List ℕ = out'.bytes.items in
    let told = says_of call files out out' err err' left answer run before are.written are.remembered in
    let on_files : Says call (files_of call) (Some out.bytes.items) (Some text) left answer =
    subst (λ (f : Files). Says call (Some f) (Some out.bytes.items) (Some text) left answer) held told in
    let on_empty : Says call (files_of call) (Some []) (Some text) left answer =
    subst (λ (b : List ℕ). Says call (files_of call) (Some b) (Some text) left answer) empty on_files in
    let is : IsAnsweredBy call answer text = answered call text left answer on_empty in
    let of_report : IsAnsweredBy call answer end.report.items =
    subst (λ (v : Vec ℕ Global). IsAnsweredBy call answer v.items) (sym are.report) is in
    let appended : err'.bytes.items ≡ err.bytes.items ++ fault_line answer = run.line.whole (calm err.faults err'.faults line_before are.told) in
    let whole : err'.bytes.items ≡ [] ++ fault_line answer = subst (λ (b : List ℕ). err'.bytes.items ≡ b ++ fault_line answer) line_empty appended in
    record {
      answered = subst (λ (a : Status). IsAnsweredBy call a end.report.items) (sym are.same) of_report;
      line = ap (λ (v : Vec ℕ Global). v.items) are.line ∙ whole ∙ ap fault_line (sym are.same);
    }

-- an end that is whole is another fact's too
pub if_ok : (ended : Result Ended Memory) (P Q : Ended → Type 0) → ((end : Ended) → P end → Q end) → IfOk ended P → IfOk ended Q
if_ok (Ok end) P Q more holds = more end holds
if_ok (Err fault) P Q more holds = tt
