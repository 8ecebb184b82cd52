-- A log that is read block by block, and what it decides, written as it is decided.
use Rattle.std.proofs.Common.{ℕ, ◌≡◌, ◌+◌, ◌-◌, ◌<◌, ◌≤◌, inl, inr, Bool, true, false, if◌then◌else◌, List, [], ◌++◌, length, take, drop, append-nil, append_assoc, length-append, Option, None, Some, IfSome, Ok, Err, refl, sym, ap, subst, ◌∙◌, arith}
use Rattle.std.specs.Prelude.{◌≢◌, IfErr, MatchResult, Result}
use Rattle.std.specs.Io.KnownBytes.{Appends, Consumes, IsAtEnd, Keeps}
use Rattle.std.proofs.KnownBytes.{Appends-nil, Appends-trans, Consumes-trans}
use Rattle.std.proofs.Math.Seq.{take-append-add}
use Rattle.std.proofs.lemmas.List.{take-append-drop}
use Rattle.outside.specs.Streams.{AppendsPart}
use Rattle.scenario_values.specs.declared.values.Scenario.{Scenario}
use Rattle.tasks.specs.declared.mode.Mode.{Mode}
use Rattle.sessions.specs.Endings.{IsAnswerTo, IsEnding}
use Rattle.tasks.specs.Modes.{needs_own}
use Rattle.sessions.specs.SessionScenarios.{scenario_for}
use Rattle.scenario_values.specs.declared.own_part.OwnPart.{OwnPart}
use Rattle.sessions.specs.Refusals.{IsStopped, IsUnrefused}
use Rattle.sessions.specs.SettledText.{IsSettledText}
use Rattle.sessions.specs.Tasks.{task_by}
use Rattle.sessions.specs.declared.asked.Asked.{Asked}
use Rattle.audit_report.specs.ReportTexts.{HasText}
use Rattle.audit_report.specs.declared.report_text.ReportText.{ReportText}
use Rattle.sessions.specs.Feeding.{Refuses, TookPiece, UnlessMemory}
use Rattle.sessions.specs.Standing.{IsInUse, StandsFor, mode_of, session_scenario}
use Rattle.sessions.specs.declared.session.Session.{Session}
use Rattle.sessions.specs.declared.session_fault.SessionFault.{SessionFault}
use Rattle.sessions.specs.declared.session_fault.SessionFault.TheVariants as why
use Rattle.sessions.proofs.ForCallers.{before_refused, bytes_not_at_end, entry_not_stopped, nothing_refused, nothing_settled, nothing_with_entry, nothing_with_own, nothing_with_targets, own_not_stopped, stopped_long, stopped_on, targets_not_stopped}
use Rattle.colregs_program.specs.LogAnswers.{GainsFront, GainsPart, GainsSettled, LeavesPart, LeavesSettled, Reports}
use Rattle.colregs_program.specs.Inner.Streaming.{Ends, FromHere, HasWritten, LogCount, OutCount, PieceCause, PutCause, RefusedCause, StreamCause, Stops}
use Rattle.colregs_program.specs.declared.streaming.StreamFault.{StreamFault}
use Rattle.colregs_program.specs.declared.streaming.StreamFault.TheVariants as fault

-- ---- what is put

-- a proper front of more stands behind what was put before
pub part_on : (a b c : Option (List ℕ)) (given more : List ℕ) → Appends a b given → AppendsPart b c more → AppendsPart a c (given ++ more)
part_on a b c given more put part =
    let (n, lt, puts) = part in
    let long = length-append given more in
    (length given + n, omega (arith, lt, long), subst (Appends a c) (sym (take-append-add given more n)) (Appends-trans a b c given (take n more) put puts))

-- ---- what was fed

gains_so_far : (session : Session) (fed given : List ℕ) (contents now : Option (List ℕ)) → StandsFor session fed given → Appends contents now given
    → GainsSettled (mode_of session) (session_scenario session) fed contents now
gains_so_far session fed given contents now stands gained = record { unrefused = stands.unrefused; text = given; settled = stands.settled; gained = gained }

pub written_from : (session : Session) (left contents : Option (List ℕ)) → StandsFor session [] [] → HasWritten session left left contents contents
written_from session left contents stands = record { fed = []; given = []; stands = stands; taken = nothing_taken left; gained = Appends-nil contents }
  where
    nothing_taken : (a : Option (List ℕ)) → Consumes a a []
    nothing_taken None = tt
    nothing_taken (Some xs) = refl

module _ (session : Session) (first left left' contents now : Option (List ℕ)) (has : HasWritten session first left contents now) (piece : List ℕ)
    (taken : Consumes left left' piece) where
  all_taken : Consumes first left' (has.fed ++ piece)
  all_taken = Consumes-trans first left left' has.fed piece has.taken taken

  pub written_on : (session' : Session) (now' : Option (List ℕ)) (more : List ℕ) → ((fed given : List ℕ) → StandsFor session fed given → StandsFor session' (fed ++ piece) (given ++ more))
      → Appends now now' more → HasWritten session' first left' contents now'
  written_on session' now' more stands put = record {
    fed = has.fed ++ piece;
    given = has.given ++ more;
    stands = stands has.fed has.given has.stands;
    taken = all_taken;
    gained = Appends-trans contents now now' has.given more has.gained put;
  }

  -- A write failed, of what the piece decided.
  pub part_written : (session' : Session) (now' : Option (List ℕ)) (more : List ℕ) → ((fed given : List ℕ) → StandsFor session fed given → StandsFor session' (fed ++ piece) (given ++ more))
      → mode_of session' ≡ mode_of session → session_scenario session' ≡ session_scenario session → AppendsPart now now' more
      → LeavesPart (mode_of session) (session_scenario session) first left' contents now'
  part_written session' now' more stands same_mode same_scenario part =
      let settled : IsSettledText (mode_of session) (session_scenario session) (has.fed ++ piece) (has.given ++ more) =
      subst (λ (m : Mode). IsSettledText m (session_scenario session) (has.fed ++ piece) (has.given ++ more)) same_mode
      (subst (λ (s : Scenario). IsSettledText (mode_of session') s (has.fed ++ piece) (has.given ++ more)) same_scenario
      (stands has.fed has.given has.stands).settled) in
      record {
        front = has.fed ++ piece;
        rest = [];
        taken = subst (Consumes first left') (sym (append-nil (has.fed ++ piece))) all_taken;
        unrefused = subst (λ (m : Mode). IsUnrefused m (session_scenario session) (has.fed ++ piece)) same_mode
            (subst (λ (s : Scenario). IsUnrefused (mode_of session') s (has.fed ++ piece)) same_scenario (stands has.fed has.given has.stands).unrefused);
        text = has.given ++ more;
        settled = settled;
        part = part_on contents now now' has.given more has.gained part;
      }

  -- A write failed, of what was decided before the place of a refusal.
  pub part_before : (now' : Option (List ℕ)) (more : List ℕ) (because : SessionFault)
      → ((fed given : List ℕ) → StandsFor session fed given → IsStopped (mode_of session) (session_scenario session) (fed ++ piece) because (given ++ more))
      → AppendsPart now now' more → LeavesPart (mode_of session) (session_scenario session) first left' contents now'
  part_before now' more because stopped part =
      let stop = stopped has.fed has.given has.stands in
      let log = has.fed ++ piece in
      record {
        front = take (stop.place - 1) log;
        rest = drop (stop.place - 1) log;
        taken = subst (Consumes first left') (sym (take-append-drop (stop.place - 1) log)) all_taken;
        unrefused = before_refused (mode_of session) (session_scenario session) log because (has.given ++ more) stop;
        text = has.given ++ more;
        settled = stop.settled;
        part = part_on contents now now' has.given more has.gained part;
      }

  -- What was decided before the place of a refusal is written.
  pub stopped_written : (now' : Option (List ℕ)) (more : List ℕ) (because : SessionFault)
      → ((fed given : List ℕ) → StandsFor session fed given → IsStopped (mode_of session) (session_scenario session) (fed ++ piece) because (given ++ more))
      → Appends now now' more → Stops (mode_of session) (session_scenario session) first contents now' because
  stopped_written now' more because stopped put =
      let stop = stopped has.fed has.given has.stands in
      let gained = Appends-trans contents now now' has.given more has.gained put in
      record { stops = at first left' all_taken stop gained }
    where
      at : (a b : Option (List ℕ)) → Consumes a b (has.fed ++ piece) → IsStopped (mode_of session) (session_scenario session) (has.fed ++ piece) because (has.given ++ more)
          → Appends contents now' (has.given ++ more)
          → IfSome a (λ log. (text : List ℕ) × IsStopped (mode_of session) (session_scenario session) log because text × Appends contents now' text)
      at None b all stop gained = tt
      at (Some log) None all stop gained = absurd all
      at (Some log) (Some rest) all stop gained =
          let here = subst (λ (l : List ℕ). IsStopped (mode_of session) (session_scenario session) l because (has.given ++ more)) (sym all)
          (stopped_on (mode_of session) (session_scenario session) (has.fed ++ piece) rest because (has.given ++ more) stop) in
          (has.given ++ more, here, gained)

  -- There was no memory: the piece decided nothing that is written.
  pub front_left : IfSome first (λ log. GainsFront (mode_of session) (session_scenario session) log contents now)
  front_left = at first left' all_taken
    where
      at : (a b : Option (List ℕ)) → Consumes a b (has.fed ++ piece) → IfSome a (λ log. GainsFront (mode_of session) (session_scenario session) log contents now)
      at None b all = tt
      at (Some log) None all = absurd all
      at (Some log) (Some rest) all = record {
        front = has.fed;
        rest = piece ++ rest;
        whole = all ∙ append_assoc has.fed piece rest;
        gains = gains_so_far session has.fed has.given contents now has.stands has.gained;
      }

-- what holds unless memory ran out
unless : (P : Type 0) (because : SessionFault) → (because ≡ why.Memory → ⊥) → UnlessMemory because P → P
unless P why.Vessels some holds = holds
unless P why.Pairs some holds = holds
unless P why.LogBytes some holds = holds
unless P (why.Own lack) some holds = holds
unless P why.Targets some holds = holds
unless P (why.Entry index) some holds = holds
unless P why.Memory some holds = absurd (some refl)

-- a refusal of a piece, where its text was empty before
pub unless_at : (because : SessionFault) (session : Session) (piece : List ℕ) (first text : ReportText) → HasText first []
    → UnlessMemory because ((front : List ℕ) → HasText first front → Refuses session piece front text because) → UnlessMemory because (Refuses session piece [] text because)
unless_at why.Vessels session piece first text has refuses = refuses [] has
unless_at why.Pairs session piece first text has refuses = refuses [] has
unless_at why.LogBytes session piece first text has refuses = refuses [] has
unless_at (why.Own lack) session piece first text has refuses = refuses [] has
unless_at why.Targets session piece first text has refuses = refuses [] has
unless_at (why.Entry index) session piece first text has refuses = refuses [] has
unless_at why.Memory session piece first text has refuses = tt

-- ---- a read that failed

pub settled_left : (session : Session) (first left left' contents now now' : Option (List ℕ)) → HasWritten session first left contents now → Keeps left left'
    → Keeps now now' → LeavesSettled (mode_of session) (session_scenario session) first left' contents now'
settled_left session first left left' contents now now' has kept same = record {
  read = has.fed;
  taken = kept_taken first left left' has.fed has.taken kept;
  gains = gains_so_far session has.fed has.given contents now' has.stands (kept_put contents now now' has.given has.gained same);
}
  where
    kept_taken : (a b c : Option (List ℕ)) (bytes : List ℕ) → Consumes a b bytes → Keeps b c → Consumes a c bytes
    kept_taken = Rattle.std.proofs.KnownBytes.Consumes-kept

    kept_put : (a b c : Option (List ℕ)) (bytes : List ℕ) → Appends a b bytes → Keeps b c → Appends a c bytes
    kept_put = Rattle.std.proofs.KnownBytes.Appends-kept

-- ---- the log's end

pub whole_at_end : (first left : Option (List ℕ)) (fed : List ℕ) (P : List ℕ → Type 0) → Consumes first left fed → IsAtEnd left → P fed → IfSome first P
whole_at_end None left fed P taken end holds = tt
whole_at_end (Some log) None fed P taken end holds = absurd taken
whole_at_end (Some log) (Some rest) fed P taken end holds =
    let whole : log ≡ fed = taken ∙ ap (λ (l : List ℕ). fed ++ l) end ∙ append-nil fed in
    subst P (sym whole) holds

module _ (session : Session) (asked : Asked) (first left contents now : Option (List ℕ)) (end : IsAtEnd left) (has : HasWritten session first left contents now) where
  pub report_written : (now' : Option (List ℕ)) (rest : List ℕ) (none : Bool)
      → ((fed given : List ℕ) → StandsFor session fed given → IsEnding (task_by (mode_of session) asked) (session_scenario session) fed (given ++ rest))
      → ((fed given : List ℕ) → StandsFor session fed given → IsAnswerTo (task_by (mode_of session) asked) (session_scenario session) fed (Ok none))
      → Appends now now' rest
      → IfSome first (λ log. Reports (task_by (mode_of session) asked) (session_scenario session) log none contents now')
  report_written now' rest none ending answer put =
      whole_at_end first left has.fed (λ log. Reports (task_by (mode_of session) asked) (session_scenario session) log none contents now') has.taken end (record {
        met = inr (has.stands.unrefused, answer has.fed has.given has.stands);
        gains = record {
          text = has.given ++ rest;
          is = ending has.fed has.given has.stands;
          gained = Appends-trans contents now now' has.given rest has.gained put;
        };
      })

  pub report_part : (now' : Option (List ℕ)) (rest : List ℕ) (none : Bool)
      → ((fed given : List ℕ) → StandsFor session fed given → IsEnding (task_by (mode_of session) asked) (session_scenario session) fed (given ++ rest))
      → ((fed given : List ℕ) → StandsFor session fed given → IsAnswerTo (task_by (mode_of session) asked) (session_scenario session) fed (Ok none))
      → AppendsPart now now' rest → IfSome first (λ log. GainsPart (task_by (mode_of session) asked) (session_scenario session) log contents now')
  report_part now' rest none ending answer part =
      whole_at_end first left has.fed (λ log. GainsPart (task_by (mode_of session) asked) (session_scenario session) log contents now') has.taken end (record {
        none = none;
        met = inr (has.stands.unrefused, answer has.fed has.given has.stands);
        text = has.given ++ rest;
        is = ending has.fed has.given has.stands;
        part = part_on contents now now' has.given rest has.gained part;
      })

  ended : (because : SessionFault) → ((fed given : List ℕ) → StandsFor session fed given → IsAnswerTo (task_by (mode_of session) asked) (session_scenario session) fed (Err because))
      → Ends (task_by (mode_of session) asked) (session_scenario session) first left contents now because
  ended because answer = record {
    end = end;
    ends = whole_at_end first left has.fed
        (λ log. IsUnrefused (mode_of session) (session_scenario session) log × IsAnswerTo (task_by (mode_of session) asked) (session_scenario session) log (Err because)
        × GainsSettled (mode_of session) (session_scenario session) log contents now) has.taken end (
          has.stands.unrefused,
          answer has.fed has.given has.stands,
          gains_so_far session has.fed has.given contents now has.stands has.gained,
        );
  }

  front_here : IfSome first (λ log. GainsFront (mode_of session) (session_scenario session) log contents now)
  front_here = whole_at_end first left has.fed (λ log. GainsFront (mode_of session) (session_scenario session) log contents now) has.taken end (record {
    front = has.fed;
    rest = [];
    whole = sym (append-nil has.fed);
    gains = gains_so_far session has.fed has.given contents now has.stands has.gained;
  })

  -- nothing was written before
  kept : has.given ≡ [] → Keeps contents now
  kept nothing = no_more contents now (subst (Appends contents now) nothing has.gained)
    where
      no_more : (a b : Option (List ℕ)) → Appends a b [] → Keeps a b
      no_more None b put = tt
      no_more (Some xs) None put = absurd put
      no_more (Some xs) (Some ys) put = put ∙ append-nil xs

  pub end_cause : (because : SessionFault)
      → UnlessMemory because ((fed given : List ℕ) → StandsFor session fed given → IsAnswerTo (task_by (mode_of session) asked) (session_scenario session) fed (Err because))
      → StreamCause (task_by (mode_of session) asked) (session_scenario session) first left contents now (fault.Unreported because)
  end_cause why.Vessels answer = inr (ended why.Vessels answer)
  end_cause why.Pairs answer = inr (ended why.Pairs answer)
  end_cause why.LogBytes answer = absurd (bytes_not_at_end (mode_of session) asked.rows.now (session_scenario session) has.fed (answer has.fed has.given has.stands))
  end_cause (why.Own lack) answer =
      let nothing = nothing_with_own (mode_of session) asked.rows.now (session_scenario session) has.fed has.given lack has.stands.settled (answer has.fed has.given has.stands) in
      (ended (why.Own lack) answer, kept nothing)
  end_cause why.Targets answer =
      let nothing = nothing_with_targets (mode_of session) asked.rows.now (session_scenario session) has.fed has.given has.stands.settled (answer has.fed has.given has.stands) in
      (ended why.Targets answer, kept nothing)
  end_cause (why.Entry index) answer =
      let nothing = nothing_with_entry (mode_of session) asked.rows.now (session_scenario session) has.fed has.given index has.stands.settled (answer has.fed has.given has.stands) in
      (ended (why.Entry index) answer, kept nothing)
  end_cause why.Memory answer = front_here

-- ---- a piece

same_now : (session : Session) (piece : List ℕ) (now now' : Option (List ℕ)) (because : SessionFault) → because ≡ why.Memory → now' ≡ now → PieceCause session piece now now' (fault.Unreported because)
same_now session piece now now' because memory same =
    subst (λ (w : SessionFault). PieceCause session piece now now' (fault.Unreported w)) (sym memory)
    (λ first left left' contents has taken. subst (λ (now : Option (List ℕ)). IfSome first (λ log. GainsFront (mode_of session) (session_scenario session) log contents now)) (sym same) (front_left session first left left' contents now has piece taken))

-- of a piece that was taken
pub taken_cause : (session session' : Session) (piece : List ℕ) (now now' : Option (List ℕ)) (text : ReportText) (because : StreamFault) → mode_of session' ≡ mode_of session
    → session_scenario session' ≡ session_scenario session → TookPiece session session' piece [] text → PutCause text now now' because → PieceCause session piece now now' because
taken_cause session session' piece now now' text fault.NotRead same_mode same_scenario takes cause = cause
taken_cause session session' piece now now' text fault.NotWritten same_mode same_scenario takes cause =
    λ first left left' contents has taken. part_written session first left left' contents now has piece taken session' now' takes.more takes.stands same_mode same_scenario (cause takes.more takes.has)
taken_cause session session' piece now now' text (fault.Unreported because) same_mode same_scenario takes cause = same_now session piece now now' because cause.0 cause.1

pub taken_written : (session session' : Session) (piece : List ℕ) (now now' : Option (List ℕ)) (text : ReportText) → TookPiece session session' piece [] text
    → ((bytes : List ℕ) → HasText text bytes → Appends now now' bytes) → FromHere session piece now (λ first left contents. HasWritten session' first left contents now')
taken_written session session' piece now now' text takes put =
    λ first left left' contents has taken. written_on session first left left' contents now has piece taken session' now' takes.more takes.stands (put takes.more takes.has)

-- of a piece that is refused
module _ (session : Session) (used : IsInUse session) (piece : List ℕ) (now now' : Option (List ℕ)) where
  stopped_cause : (more : List ℕ) (because : SessionFault)
      → ((fed given : List ℕ) → StandsFor session fed given → IsStopped (mode_of session) (session_scenario session) (fed ++ piece) because (given ++ more))
      → Appends now now' more → (because ≡ why.Memory → ⊥) → PieceCause session piece now now' (fault.Unreported because)
  stopped_cause more why.Vessels stopped put some =
      λ first left left' contents has taken. stopped_written session first left left' contents now has piece taken now' more why.Vessels stopped put
  stopped_cause more why.Pairs stopped put some =
      λ first left left' contents has taken. stopped_written session first left left' contents now has piece taken now' more why.Pairs stopped put
  stopped_cause more why.LogBytes stopped put some =
      let long : (fed given : List ℕ) → StandsFor session fed given → (session_scenario session).log.max_bytes < length (fed ++ piece) =
      λ fed given stands. stopped_long (mode_of session) (session_scenario session) (fed ++ piece) (given ++ more) (stopped fed given stands) in
      (λ first left left' contents has taken. stopped_written session first left left' contents now has piece taken now' more why.LogBytes stopped put, long)
  stopped_cause more (why.Own lack) stopped put some =
      own_not_stopped (mode_of session) (session_scenario session) (used.fed ++ piece) lack (used.given ++ more) (stopped used.fed used.given used.stands)
  stopped_cause more why.Targets stopped put some =
      targets_not_stopped (mode_of session) (session_scenario session) (used.fed ++ piece) (used.given ++ more) (stopped used.fed used.given used.stands)
  stopped_cause more (why.Entry index) stopped put some =
      entry_not_stopped (mode_of session) (session_scenario session) (used.fed ++ piece) index (used.given ++ more) (stopped used.fed used.given used.stands)
  stopped_cause more why.Memory stopped put some = absurd (some refl)

  pub refused_cause : (text : ReportText) (refusal : SessionFault) (because : StreamFault) → (UnlessMemory refusal (Refuses session piece [] text refusal))
      → RefusedCause text refusal now now' because → PieceCause session piece now now' because
  refused_cause text refusal fault.NotRead refuses cause = cause
  refused_cause text refusal fault.NotWritten refuses cause =
      let stop = unless (Refuses session piece [] text refusal) refusal cause.0 refuses in
      λ first left left' contents has taken. part_before session first left left' contents now has piece taken now' stop.more refusal stop.stopped (cause.1 stop.more stop.has)
  refused_cause text refusal (fault.Unreported because) refuses (inl memory) = same_now session piece now now' because memory.0 memory.1
  refused_cause text refusal (fault.Unreported because) refuses (inr (same, some, put)) =
      let stop = unless (Refuses session piece [] text refusal) refusal some refuses in
      subst (λ (w : SessionFault). PieceCause session piece now now' (fault.Unreported w)) (sym same) (stopped_cause stop.more refusal stop.stopped (put stop.more stop.has) some)

-- ---- a block

pub block_cause : (session : Session) (used : IsInUse session) (first left left' contents now now' : Option (List ℕ)) (piece : List ℕ) (because : StreamFault)
    → HasWritten session first left contents now → Consumes left left' piece
    → ((fed given : List ℕ) → StandsFor session fed given → length piece ≤ ((session_scenario session).log.max_bytes - length fed) + 1)
    → PieceCause session piece now now' because → (asked : Asked) → StreamCause (task_by (mode_of session) asked) (session_scenario session) first left' contents now' because
block_cause session used first left left' contents now now' piece fault.NotRead has taken few cause asked = absurd cause
block_cause session used first left left' contents now now' piece fault.NotWritten has taken few cause asked = inl (cause first left left' contents has taken)
block_cause session used first left left' contents now now' piece (fault.Unreported why.Vessels) has taken few cause asked = inl (cause first left left' contents has taken)
block_cause session used first left left' contents now now' piece (fault.Unreported why.Pairs) has taken few cause asked = inl (cause first left left' contents has taken)
block_cause session used first left left' contents now now' piece (fault.Unreported why.LogBytes) has taken few cause asked =
    let over = cause.1 has.fed has.given has.stands in
    let within = few has.fed has.given has.stands in
    let short = has.stands.unrefused.short in
    let long = length-append has.fed piece in
    (record { piece = has.fed ++ piece; long = omega (arith, over, within, short, long); taken = Consumes-trans first left left' has.fed piece has.taken taken }, cause.0 first left left' contents has taken)
block_cause session used first left left' contents now now' piece (fault.Unreported (why.Own lack)) has taken few cause asked = absurd cause
block_cause session used first left left' contents now now' piece (fault.Unreported why.Targets) has taken few cause asked = absurd cause
block_cause session used first left left' contents now now' piece (fault.Unreported (why.Entry index)) has taken few cause asked = absurd cause
block_cause session used first left left' contents now now' piece (fault.Unreported why.Memory) has taken few cause asked = cause first left left' contents has taken

-- ---- before the first byte

-- there was no memory to begin
pub none_begun : (m : Mode) (scenario : Scenario) (left contents : Option (List ℕ)) → IfSome left (λ log. GainsFront m scenario log contents contents)
none_begun m scenario None contents = tt
none_begun m scenario (Some log) contents = record {
  front = [];
  rest = log;
  whole = refl;
  gains = record { unrefused = nothing_refused m scenario; text = []; settled = nothing_settled m scenario; gained = Appends-nil contents };
}

-- ---- a whole report

-- A scenario without own ship is what a mode looks at that does not need her.
pub for_itself : (m : Mode) (scenario : Scenario) → (needs_own m ≡ false → scenario.own ≡ None) → scenario_for m scenario ≡ scenario
for_itself m scenario none =
    elim (needs_own m) as (λ (need : Bool). (need ≡ false → scenario.own ≡ None) → (if need then scenario else record scenario { own = None }) ≡ scenario) [
      | true ↦ λ _. refl
      | false ↦ λ unneeded. ap (λ (own : Option OwnPart). record scenario { own = own }) (sym (unneeded refl))
    ] none

pub cause_by : (m m' : Mode) (asked : Asked) (scenario scenario' : Scenario) (left left' contents contents' : Option (List ℕ)) (because : StreamFault) → m ≡ m' → scenario ≡ scenario'
    → StreamCause (task_by m asked) scenario left left' contents contents' because → StreamCause (task_by m' asked) scenario' left left' contents contents' because
cause_by m m' asked scenario scenario' left left' contents contents' because same_mode same_scenario cause =
    subst (λ (n : Mode). StreamCause (task_by n asked) scenario' left left' contents contents' because) same_mode
    (subst (λ (s : Scenario). StreamCause (task_by m asked) s left left' contents contents' because) same_scenario cause)

pub reports_by : (m m' : Mode) (asked : Asked) (scenario scenario' : Scenario) (left contents contents' : Option (List ℕ)) (none : Bool) → m ≡ m' → scenario ≡ scenario'
    → IfSome left (λ log. Reports (task_by m asked) scenario log none contents contents') → IfSome left (λ log. Reports (task_by m' asked) scenario' log none contents contents')
reports_by m m' asked scenario scenario' left contents contents' none same_mode same_scenario reports =
    subst (λ (n : Mode). IfSome left (λ log. Reports (task_by n asked) scenario' log none contents contents')) same_mode
    (subst (λ (s : Scenario). IfSome left (λ log. Reports (task_by m asked) s log none contents contents')) same_scenario reports)

-- Nothing is read at the end.
pub count_stays : {A : Type 0} (r : Result A StreamFault) (before now : ℕ) → now ≡ before → IfErr r (λ because. because ≢ fault.NotRead)
    → MatchResult r (λ _. now ≡ before) (LogCount before now)
count_stays (Ok a) before now same not = same
count_stays (Err fault.NotRead) before now same not = absurd (not refl)
count_stays (Err fault.NotWritten) before now same not = same
count_stays (Err (fault.Unreported because)) before now same not = same

-- the count of a sink, from before to a later call's
pub counts_on : {A : Type 0} (r : Result A StreamFault) (first before now : ℕ) → before ≡ first → MatchResult r (λ _. now ≡ before) (OutCount before now)
    → MatchResult r (λ _. now ≡ first) (OutCount first now)
counts_on r first before now same counts = subst (λ (n : ℕ). MatchResult r (λ _. now ≡ n) (OutCount n now)) same counts
