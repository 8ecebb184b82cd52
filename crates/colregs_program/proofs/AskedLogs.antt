-- What holds of a log that is read or made holds of the log of a request.
use Rattle.std.proofs.Common.{ℕ, ◌≡◌, inl, inr, Bool, List, [], length, false, Option, None, Some, IfSome, Err, refl, IsTrue, ap, sym, subst, arith, ◌∙◌}
use Rattle.std.specs.Io.KnownBytes.{Appends}
use Rattle.outside.specs.Streams.{AppendsPart}
use Rattle.tasks.specs.declared.mode.Mode.{Mode}
use Rattle.command_line.specs.declared.request.ReportRequest.{ReportRequest}
use Rattle.drill_log.specs.DrillLog.{drill_log_of}
use Rattle.scenario_values.specs.declared.values.Scenario.{Scenario}
use Rattle.sessions.specs.Endings.{IsAnswerTo}
use Rattle.tasks.specs.Modes.{Focus, reads_log}
use Rattle.tasks.specs.Tasks.{says_why, task_mode, task_seed}
use Rattle.tasks.proofs.ForCallers.{made_at_end}
use Rattle.sessions.specs.Refusals.{IsStopped, IsUnrefused}
use Rattle.log_lines.specs.GrowingLog.{ended_lines}
use Rattle.sessions.specs.SettledText.{IsDecidedBy, IsSettledText}
use Rattle.sessions.specs.Tasks.{Task, task_by}
use Rattle.sessions.specs.declared.asked.Asked.{Asked}
use Rattle.sessions.specs.declared.session_fault.SessionFault.{SessionFault}
use Rattle.sessions.specs.declared.session_fault.SessionFault.TheVariants as why
use Rattle.colregs_program.specs.AskedScenarios.{log_of, task_of}
use Rattle.colregs_program.specs.Answers.{EndsWith, IsReadBy, StopsWith}
use Rattle.colregs_program.specs.LogAnswers.{GainsFront, GainsPart, GainsSettled, IsAnswered, IsStoppedBy, LeavesSettled, Reports, answer_of}
use Rattle.colregs_program.specs.Inner.Streaming.{Ends, ReportCause, Stops, StreamCause, made_fault}
use Rattle.colregs_program.specs.declared.streaming.StreamFault.{StreamFault}
use Rattle.colregs_program.specs.declared.streaming.StreamFault.TheVariants as fault

module _ (request : ReportRequest) (scenario : Scenario) (given : Option (List ℕ)) where
  pub log_read : IsTrue (reads_log (task_mode request.task)) → log_of request scenario given ≡ given
  log_read reads = rw reads refl

  pub log_made : reads_log (task_mode request.task) ≡ false → log_of request scenario given ≡ Some (drill_log_of scenario (task_seed request.task))
  log_made makes = rw makes refl

-- what the end of a log is asked is what the request asks of it
pub same_task : (request : ReportRequest) (rows : List ℕ) (m : Mode) (asked : Asked) → m ≡ task_mode request.task → asked.why ≡ says_why request.task → asked.rows.now ≡ rows
    → task_by m asked ≡ task_of request rows
same_task request rows m asked modes whys are = λ i. record { mode = modes i; why = whys i; rows = are i }

pub cause_alike : (task task' : Task) (scenario : Scenario) (left left' contents contents' : Option (List ℕ)) (because : StreamFault) → task ≡ task'
    → StreamCause task scenario left left' contents contents' because → StreamCause task' scenario left left' contents contents' because
cause_alike task task' scenario left left' contents contents' because same cause =
    subst (λ (t : Task). StreamCause t scenario left left' contents contents' because) same cause

if_some : (P Q : List ℕ → Type 0) (o : Option (List ℕ)) → ((bytes : List ℕ) → P bytes → Q bytes) → IfSome o P → IfSome o Q
if_some P Q None so p = tt
if_some P Q (Some bytes) so p = so bytes p

module _ (request : ReportRequest) (rows : List ℕ) (scenario : Scenario) (given log contents contents' : Option (List ℕ)) (is : log_of request scenario given ≡ log) where
  pub of_log : (P : List ℕ → Type 0) → IfSome log P → IfSome (log_of request scenario given) P
  of_log P holds = subst (λ (l : Option (List ℕ)). IfSome l P) (sym is) holds

  stops_with : (because : SessionFault) → Stops (task_mode request.task) scenario log contents contents' because → StopsWith request scenario given contents contents' (answer_of scenario (Err because))
  stops_with because stops =
      of_log (λ bytes. IsStoppedBy (task_mode request.task) scenario bytes contents contents' (answer_of scenario (Err because)))
      (if_some (λ bytes. (text : List ℕ) × IsStopped (task_mode request.task) scenario bytes because text × Appends contents contents' text)
      (λ bytes. IsStoppedBy (task_mode request.task) scenario bytes contents contents' (answer_of scenario (Err because))) log
      (λ bytes stop. record { why = because; text = stop.0; stopped = stop.1; is = refl; gained = stop.2 }) stops.stops)

  ends_with : (because : SessionFault) (left left' : Option (List ℕ)) → IsReadBy (task_mode request.task) left' → Ends (task_of request rows) scenario log left contents contents' because
      → EndsWith request rows scenario given left' contents contents' (answer_of scenario (Err because))
  ends_with because left left' read ends = record {
    read = read;
    ends = of_log (λ bytes. IsAnswered (task_of request rows) scenario bytes (answer_of scenario (Err because)) × GainsSettled (task_mode request.task) scenario bytes contents contents')
        (if_some (λ bytes. IsUnrefused (task_mode request.task) scenario bytes × IsAnswerTo (task_of request rows) scenario bytes (Err because) × GainsSettled (task_mode request.task) scenario bytes contents contents')
        (λ bytes. IsAnswered (task_of request rows) scenario bytes (answer_of scenario (Err because)) × GainsSettled (task_mode request.task) scenario bytes contents contents') log
        (λ bytes end. (record { came = Err because; met = inr (end.0, end.1); is = refl }, end.2)) ends.ends);
  }

-- what is reported of the log is reported of the request's
pub reported_on : (request : ReportRequest) (rows : List ℕ) (scenario : Scenario) (given log contents contents' : Option (List ℕ)) (none : Bool) (task : Task)
    → log_of request scenario given ≡ log → task ≡ task_of request rows → IfSome log (λ bytes. Reports task scenario bytes none contents contents')
    → IfSome (log_of request scenario given) (λ bytes. Reports (task_of request rows) scenario bytes none contents contents')
reported_on request rows scenario given log contents contents' none task is same reports =
    subst (λ (l : Option (List ℕ)). IfSome l (λ bytes. Reports (task_of request rows) scenario bytes none contents contents')) (sym is)
    (subst (λ (t : Task). IfSome log (λ bytes. Reports t scenario bytes none contents contents')) same reports)

-- ---- a log that is read

pub cause_of_read : (request : ReportRequest) (rows : List ℕ) (scenario : Scenario) (left left' contents contents' : Option (List ℕ)) (because : StreamFault) → IsTrue (reads_log (task_mode request.task))
    → StreamCause (task_of request rows) scenario left left' contents contents' because → ReportCause request rows scenario left left' contents contents' because
cause_of_read request rows scenario left left' contents contents' fault.NotRead reads cause = (reads, cause)
cause_of_read request rows scenario left left' contents contents' fault.NotWritten reads (inl part) = inl (reads, part)
cause_of_read request rows scenario left left' contents contents' fault.NotWritten reads (inr end) =
    let part = of_log request rows scenario left left contents contents' (log_read request scenario left reads) (λ log. GainsPart (task_of request rows) scenario log contents contents') end.1 in
    inr ((λ r. end.0), part)
cause_of_read request rows scenario left left' contents contents' (fault.Unreported why.Vessels) reads (inl stops) =
    inl (stops_with request rows scenario left left contents contents' (log_read request scenario left reads) why.Vessels stops)
cause_of_read request rows scenario left left' contents contents' (fault.Unreported why.Vessels) reads (inr ends) =
    inr (ends_with request rows scenario left left contents contents' (log_read request scenario left reads) why.Vessels left' left' (λ r. ends.end) ends)
cause_of_read request rows scenario left left' contents contents' (fault.Unreported why.Pairs) reads (inl stops) =
    inl (stops_with request rows scenario left left contents contents' (log_read request scenario left reads) why.Pairs stops)
cause_of_read request rows scenario left left' contents contents' (fault.Unreported why.Pairs) reads (inr ends) =
    inr (ends_with request rows scenario left left contents contents' (log_read request scenario left reads) why.Pairs left' left' (λ r. ends.end) ends)
cause_of_read request rows scenario left left' contents contents' (fault.Unreported why.LogBytes) reads cause =
    ((λ r. cause.0), stops_with request rows scenario left left contents contents' (log_read request scenario left reads) why.LogBytes cause.1)
cause_of_read request rows scenario left left' contents contents' (fault.Unreported (why.Own lack)) reads cause =
    (ends_with request rows scenario left left contents contents' (log_read request scenario left reads) (why.Own lack) left' left' (λ r. cause.0.end) cause.0, cause.1)
cause_of_read request rows scenario left left' contents contents' (fault.Unreported why.Targets) reads cause =
    (ends_with request rows scenario left left contents contents' (log_read request scenario left reads) why.Targets left' left' (λ r. cause.0.end) cause.0, cause.1)
cause_of_read request rows scenario left left' contents contents' (fault.Unreported (why.Entry index)) reads cause =
    (ends_with request rows scenario left left contents contents' (log_read request scenario left reads) (why.Entry index) left' left' (λ r. cause.0.end) cause.0, cause.1)
cause_of_read request rows scenario left left' contents contents' (fault.Unreported why.Memory) reads cause =
    of_log request rows scenario left left contents contents' (log_read request scenario left reads) (λ log. GainsFront (task_mode request.task) scenario log contents contents') cause

-- ---- a log that is made

nothing_in_part : (contents contents' : Option (List ℕ)) (text : List ℕ) → text ≡ [] → AppendsPart contents contents' text → ⊥
nothing_in_part contents contents' text empty part = let lt = part.1 in let none : length text ≡ 0 = ap length empty in omega (arith, lt, none)

-- what was read of a log with known bytes is a front of it
front_left : (m : Mode) (scenario : Scenario) (log : List ℕ) (left' contents contents' : Option (List ℕ)) → LeavesSettled m scenario (Some log) left' contents contents' → GainsFront m scenario log contents contents'
front_left m scenario log None contents contents' leaves = absurd leaves.taken
front_left m scenario log (Some rest) contents contents' leaves = record { front = leaves.read; rest = rest; whole = leaves.taken; gains = leaves.gains }

-- of a log that is made, nothing is written before its end
nothing_settled : (m : Mode) (scenario : Scenario) (front text : List ℕ) → reads_log m ≡ false → IsSettledText m scenario front text → text ≡ []
nothing_settled m scenario front text makes settled =
    subst (λ (focus : Focus). IsDecidedBy focus scenario (ended_lines front) text) (made_at_end m makes) settled

module _ (request : ReportRequest) (rows : List ℕ) (scenario : Scenario) (given : Option (List ℕ)) (makes : reads_log (task_mode request.task) ≡ false)
    (made : List ℕ) (same : made ≡ drill_log_of scenario (task_seed request.task)) where
  pub log_is : log_of request scenario given ≡ Some made
  log_is = log_made request scenario given makes ∙ ap (λ (l : List ℕ). Some l) (sym same)

  unread : (left : Option (List ℕ)) → IsReadBy (task_mode request.task) left
  unread left reads = cc (reads, makes)

  pub cause_of_made : (given' left' contents contents' : Option (List ℕ)) (because : StreamFault)
      → StreamCause (task_of request rows) scenario (Some made) left' contents contents' because → ReportCause request rows scenario given given' contents contents' (made_fault because)
  cause_of_made given' left' contents contents' fault.NotRead leaves =
      of_log request rows scenario given (Some made) contents contents' log_is (λ log. GainsFront (task_mode request.task) scenario log contents contents') (front_left (task_mode request.task) scenario made left' contents contents' leaves)
  cause_of_made given' left' contents contents' fault.NotWritten (inl part) =
      absurd (nothing_in_part contents contents' part.text (nothing_settled (task_mode request.task) scenario part.front part.text makes part.settled) part.part)
  cause_of_made given' left' contents contents' fault.NotWritten (inr end) =
      inr (unread given', of_log request rows scenario given (Some made) contents contents' log_is (λ log. GainsPart (task_of request rows) scenario log contents contents') end.1)
  cause_of_made given' left' contents contents' (fault.Unreported why.Vessels) (inl stops) =
      inl (stops_with request rows scenario given (Some made) contents contents' log_is why.Vessels stops)
  cause_of_made given' left' contents contents' (fault.Unreported why.Vessels) (inr ends) =
      inr (ends_with request rows scenario given (Some made) contents contents' log_is why.Vessels left' given' (unread given') ends)
  cause_of_made given' left' contents contents' (fault.Unreported why.Pairs) (inl stops) =
      inl (stops_with request rows scenario given (Some made) contents contents' log_is why.Pairs stops)
  cause_of_made given' left' contents contents' (fault.Unreported why.Pairs) (inr ends) =
      inr (ends_with request rows scenario given (Some made) contents contents' log_is why.Pairs left' given' (unread given') ends)
  cause_of_made given' left' contents contents' (fault.Unreported why.LogBytes) cause =
      ((λ reads. cc (reads, makes)), stops_with request rows scenario given (Some made) contents contents' log_is why.LogBytes cause.1)
  cause_of_made given' left' contents contents' (fault.Unreported (why.Own lack)) cause =
      (ends_with request rows scenario given (Some made) contents contents' log_is (why.Own lack) left' given' (unread given') cause.0, cause.1)
  cause_of_made given' left' contents contents' (fault.Unreported why.Targets) cause =
      (ends_with request rows scenario given (Some made) contents contents' log_is why.Targets left' given' (unread given') cause.0, cause.1)
  cause_of_made given' left' contents contents' (fault.Unreported (why.Entry index)) cause =
      (ends_with request rows scenario given (Some made) contents contents' log_is (why.Entry index) left' given' (unread given') cause.0, cause.1)
  cause_of_made given' left' contents contents' (fault.Unreported why.Memory) cause =
      of_log request rows scenario given (Some made) contents contents' log_is (λ log. GainsFront (task_mode request.task) scenario log contents contents') cause
