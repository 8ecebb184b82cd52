-- A line that is dropped for what it is and has no stamp changes nothing of what the other lines come to.
use Rattle.std.proofs.Common.{◌≡◌, ℕ, Bool, true, false, List, [], ◌∷◌, ◌++◌, filter, Option, Some, None, Result, Ok, Err, unwrap_or, if◌then◌else◌, refl, ap, ap₂, sym, ◌∙◌, append_assoc, append-nil}
use Rattle.std.specs.List.{filter_map, cons_option, last_or}
use Rattle.std.proofs.lemmas.List.Elements.{filter_map-append}
use Rattle.aivdm.specs.FragmentJoining.{Taken, joined_of}
use Rattle.aivdm.specs.ReadingOf.{reading_of}
use Rattle.aivdm.specs.Sentences.{SentenceFields}
use Rattle.aivdm.specs.declared.joiner.Joined.{Joined}
use Rattle.aivdm.specs.declared.joiner.Joined.TheVariants as joined
use Rattle.aivdm.specs.declared.sentence.LineCause.{LineCause}
use Rattle.aivdm.specs.declared.sentence.LineCause.TheVariants as line_cause
use Rattle.ais_messages.specs.MessageFields.{decoded_of}
use Rattle.ais_messages.specs.declared.message.Decoded.{Decoded}
use Rattle.ais_messages.specs.declared.message.Decoded.TheVariants as decoded
use Rattle.ais_messages.specs.declared.message.MessageCause.{MessageCause}
use Rattle.ais_messages.specs.declared.message.MessageCause.TheVariants as message_cause
use Rattle.ais_messages.specs.declared.message.PositionReport.{PositionReport}
use Rattle.fixed_geometry.specs.declared.point.Point.{Point}
use Rattle.tracks.specs.AcceptedReports.{JudgingNumbers}
use Rattle.tracks.specs.VesselsHeld.{Sent, entry_of, report_in}
use Rattle.tracks.specs.declared.entry.Entry.{Entry}
use Rattle.tracks.specs.declared.entry.Entry.TheVariants as entry
use Rattle.tracks.specs.declared.entry.ReportCause.{ReportCause}
use Rattle.tracks.specs.declared.entry.ReportCause.TheVariants as report_cause
use Rattle.scenario_values.specs.declared.values.Scenario.{Scenario}
use Rattle.log_lines.specs.EachLine.{each_after, each_line, ok_value}
use Rattle.log_lines.specs.JudgedLines.{accepted_at, judged_entry, judged_line, judged_lines, judged_sent, numbers_of, outcome_of}
use Rattle.log_lines.specs.LineOutcomes.{line_outcome, message_outcome, report_outcome}
use Rattle.log_lines.specs.LineTimes.{clock_of, greatest, is_in_window, is_late, stamp_of, stamps_of, time_of}
use Rattle.log_lines.specs.SentLines.{heard, heard_in, heard_of, heard_unless, sent, sent_decoded, sent_heard, sent_joined, sent_of}
use Rattle.log_lines.specs.declared.judged.Judged.TheVariants as judged
use Rattle.log_lines.specs.declared.outcome.LineOutcome.{LineOutcome}
use Rattle.log_lines.specs.declared.outcome.LineOutcome.TheVariants as outcome
use Rattle.laws.specs.InertLines.{IsInert}

-- ---- which lines come to such an outcome

-- the cause for which a line of this outcome is dropped for what it is
abbrev cause_of : LineOutcome → Option LineCause
cause_of outcome.Empty = Some line_cause.Empty
cause_of outcome.Long = Some line_cause.Long
cause_of outcome.Tag = Some line_cause.Tag
cause_of outcome.Other = Some line_cause.Other
cause_of outcome.Form = Some line_cause.Form
cause_of outcome.Sum = Some line_cause.Sum
cause_of outcome.Armour = Some line_cause.Armour
cause_of _ = None

cause_again : (cause : LineCause) → cause_of (line_outcome cause) ≡ Some cause
cause_again line_cause.Empty = refl
cause_again line_cause.Long = refl
cause_again line_cause.Tag = refl
cause_again line_cause.Other = refl
cause_again line_cause.Form = refl
cause_again line_cause.Sum = refl
cause_again line_cause.Armour = refl

no_message_cause : (cause : MessageCause) → cause_of (message_outcome cause) ≡ None
no_message_cause message_cause.Short = refl
no_message_cause message_cause.Kind = refl
no_message_cause message_cause.NotShip = refl

no_report_cause : (cause : ReportCause) → cause_of (report_outcome cause) ≡ None
no_report_cause report_cause.NoPos = refl
no_report_cause report_cause.Far = refl
no_report_cause report_cause.Back = refl
no_report_cause report_cause.Repeat = refl
no_report_cause report_cause.Jump = refl

none_of_report : (time : ℕ) (point : Point) (report : Option PositionReport) → cause_of (outcome_of (accepted_at time point report)) ≡ None
none_of_report time point None = refl
none_of_report time point (Some report) = refl

none_of_entry : (one : Sent) (came : Entry) → cause_of (outcome_of (judged_entry one came)) ≡ None
none_of_entry one (entry.Point point) = none_of_report one.time point (report_in one.message)
none_of_entry one entry.Static = refl
none_of_entry one (entry.Dropped cause) = no_report_cause cause

none_of_decoded : (numbers : JudgingNumbers) (before : List Sent) (time : ℕ) (came : Decoded)
    → cause_of (outcome_of (judged_sent numbers before (sent_decoded time came))) ≡ None
none_of_decoded numbers before time (decoded.Message message) =
    none_of_entry (record { message = message; time = time }) (entry_of numbers before (record { message = message; time = time }))
none_of_decoded numbers before time (decoded.Dropped cause) = no_message_cause cause

none_of_joined : (numbers : JudgingNumbers) (before : List Sent) (time : ℕ) (came : Joined)
    → cause_of (outcome_of (judged_sent numbers before (sent_joined time came))) ≡ None
none_of_joined numbers before time (joined.Message bits) = none_of_decoded numbers before time (decoded_of bits)
none_of_joined numbers before time joined.Waiting = refl
none_of_joined numbers before time joined.Orphan = refl

none_of_timed : (numbers : JudgingNumbers) (before : List Sent) (taken : List Taken) (time : ℕ) (sentence : SentenceFields) (inside late : Bool)
    → cause_of (outcome_of (judged_sent numbers before (sent_heard taken (heard_unless
    (if inside then (if late then Some outcome.Late else None) else Some outcome.Outside) time sentence)))) ≡ None
none_of_timed numbers before taken time sentence true true = refl
none_of_timed numbers before taken time sentence true false =
    none_of_joined numbers before time (joined_of taken (record { sentence = sentence; time = time }))
none_of_timed numbers before taken time sentence false late = refl

-- A line that comes to the outcome of such a cause is read as one to be dropped for it.
dropped_for : (scenario : Scenario) (clock : Option ℕ) (numbers : JudgingNumbers) (before : List Sent) (taken : List Taken) (time : ℕ)
    (body : Result SentenceFields LineCause) (cause : LineCause)
    → outcome_of (judged_sent numbers before (sent_heard taken (heard_in scenario clock time body))) ≡ line_outcome cause → body ≡ Err cause
dropped_for scenario clock numbers before taken time (Ok sentence) cause came =
    let none = none_of_timed numbers before taken time sentence (is_in_window scenario time) (is_late scenario.log.slack clock time) in
    let some : cause_of (outcome_of (judged_sent numbers before (sent_heard taken (heard_in scenario clock time (Ok sentence))))) ≡ Some cause =
    ap cause_of came ∙ cause_again cause in
    absurd (cc (sym none ∙ some))
dropped_for scenario clock numbers before taken time (Err other) cause came =
    let same : Some other ≡ Some cause = sym (cause_again other) ∙ ap cause_of came ∙ cause_again cause in
    ap (λ c. Err c) (cc same)

pub body_of : (scenario : Scenario) (before : List (List ℕ)) (line : List ℕ) (cause : LineCause)
    → outcome_of (judged_line scenario before line) ≡ line_outcome cause → (reading_of line).body ≡ Err cause
unfolding judged_line sent_of heard_of
body_of scenario before line cause came =
    dropped_for scenario (clock_of scenario before) (numbers_of scenario) (sent scenario before) (heard scenario before)
    (time_of scenario (before ++ line ∷ [])) (reading_of line).body cause came

-- ---- each line, but for one that nothing looks back at

module _ {B : Type 0} (f : List (List ℕ) → List ℕ → B) where
  pub after_append : (before xs ys : List (List ℕ)) → each_after f before (xs ++ ys) ≡ each_after f before xs ++ each_after f (before ++ xs) ys
  unfolding each_after
  after_append before [] ys = ap (λ b. each_after f b ys) (sym (append-nil before))
  after_append before (x ∷ xs) ys = ap (λ others. f before x ∷ others)
      (after_append (before ++ x ∷ []) xs ys ∙ ap (λ b. each_after f (before ++ x ∷ []) xs ++ each_after f b ys) (append_assoc before (x ∷ []) xs))

  module _ (front : List (List ℕ)) (line : List ℕ)
      (blind : (between : List (List ℕ)) (x : List ℕ) → f (front ++ line ∷ between) x ≡ f (front ++ between) x) where
    after_same : (between rest : List (List ℕ)) → each_after f (front ++ line ∷ between) rest ≡ each_after f (front ++ between) rest
    unfolding each_after
    after_same between [] = refl
    after_same between (x ∷ rest) = ap₂ (λ first others. first ∷ others) (blind between x)
        (ap (λ b. each_after f b rest) (append_assoc front (line ∷ between) (x ∷ []))
        ∙ after_same (between ++ x ∷ []) rest
        ∙ ap (λ b. each_after f b rest) (sym (append_assoc front between (x ∷ []))))

    pub with_line : (back : List (List ℕ)) → each_line f (front ++ line ∷ back) ≡ each_line f front ++ f front line ∷ each_after f front back
    unfolding each_after
    with_line back = after_append [] front (line ∷ back)
        ∙ ap (λ others. each_line f front ++ f front line ∷ others) (after_same [] back ∙ ap (λ b. each_after f b back) (append-nil front))

    pub without_line : (back : List (List ℕ)) → each_line f (front ++ back) ≡ each_line f front ++ each_after f front back
    without_line back = after_append [] front back

-- If nothing is kept of a line, what is kept of each other line is the same without it.
module _ {A E : Type 0} (f : List (List ℕ) → List ℕ → Result A E) (front : List (List ℕ)) (line : List ℕ) (why : E)
    (blind : (between : List (List ℕ)) (x : List ℕ) → f (front ++ line ∷ between) x ≡ f (front ++ between) x) (none : f front line ≡ Err why) where
  pub kept_same : (back : List (List ℕ)) → filter_map ok_value (each_line f (front ++ line ∷ back)) ≡ filter_map ok_value (each_line f (front ++ back))
  kept_same back = ap (filter_map ok_value) (with_line f front line blind back)
      ∙ filter_map-append ok_value (each_line f front) (f front line ∷ each_after f front back)
      ∙ ap (λ came. filter_map ok_value (each_line f front) ++ cons_option (ok_value came) (filter_map ok_value (each_after f front back))) none
      ∙ sym (filter_map-append ok_value (each_line f front) (each_after f front back))
      ∙ ap (filter_map ok_value) (sym (without_line f front line blind back))

module _ (scenario : Scenario) (front : List (List ℕ)) (line : List ℕ) (cause : LineCause) (inert : IsInert scenario front line cause) where
  stamps_same : (between : List (List ℕ)) → stamps_of (front ++ line ∷ between) ≡ stamps_of (front ++ between)
  stamps_same between = filter_map-append stamp_of front (line ∷ between)
      ∙ ap (λ stamp. filter_map stamp_of front ++ cons_option stamp (filter_map stamp_of between)) inert.unstamped
      ∙ sym (filter_map-append stamp_of front between)

  later_same : (between : List (List ℕ)) (x : List ℕ) → stamps_of ((front ++ line ∷ between) ++ x ∷ []) ≡ stamps_of ((front ++ between) ++ x ∷ [])
  later_same between x = ap stamps_of (append_assoc front (line ∷ between) (x ∷ [])) ∙ stamps_same (between ++ x ∷ [])
      ∙ ap stamps_of (sym (append_assoc front between (x ∷ [])))

  heard_blind : (between : List (List ℕ)) (x : List ℕ) → heard_of scenario (front ++ line ∷ between) x ≡ heard_of scenario (front ++ between) x
  unfolding heard_of clock_of time_of
  heard_blind between x = ap₂ (λ stamps later. heard_in scenario (greatest (filter (is_in_window scenario) stamps))
      (unwrap_or (last_or None later) scenario.window.start) (reading_of x).body) (stamps_same between) (later_same between x)

  heard_none : heard_of scenario front line ≡ Err (line_outcome cause)
  unfolding heard_of
  heard_none = ap (heard_in scenario (clock_of scenario front) (time_of scenario (front ++ line ∷ []))) (body_of scenario front line cause inert.dropped)

  heard_same : (back : List (List ℕ)) → heard scenario (front ++ line ∷ back) ≡ heard scenario (front ++ back)
  unfolding heard
  heard_same back = kept_same (heard_of scenario) front line (line_outcome cause) heard_blind heard_none back

  sent_blind : (between : List (List ℕ)) (x : List ℕ) → sent_of scenario (front ++ line ∷ between) x ≡ sent_of scenario (front ++ between) x
  unfolding sent_of
  sent_blind between x = ap₂ sent_heard (heard_same between) (heard_blind between x)

  sent_none : sent_of scenario front line ≡ Err (line_outcome cause)
  unfolding sent_of
  sent_none = ap (sent_heard (heard scenario front)) heard_none

  pub sent_same : (back : List (List ℕ)) → sent scenario (front ++ line ∷ back) ≡ sent scenario (front ++ back)
  unfolding sent
  sent_same back = kept_same (sent_of scenario) front line (line_outcome cause) sent_blind sent_none back

  judged_blind : (between : List (List ℕ)) (x : List ℕ) → judged_line scenario (front ++ line ∷ between) x ≡ judged_line scenario (front ++ between) x
  unfolding judged_line
  judged_blind between x = ap₂ (judged_sent (numbers_of scenario)) (sent_same between) (sent_blind between x)

  judged_none : judged_line scenario front line ≡ judged.Without (line_outcome cause)
  unfolding judged_line
  judged_none = ap (judged_sent (numbers_of scenario) (sent scenario front)) sent_none

  -- What the lines before it come to, and those after it.
  pub judged_with : (back : List (List ℕ)) → judged_lines scenario (front ++ line ∷ back)
      ≡ judged_lines scenario front ++ judged.Without (line_outcome cause) ∷ each_after (judged_line scenario) front back
  unfolding judged_lines
  judged_with back = with_line (judged_line scenario) front line judged_blind back
      ∙ ap (λ came. each_line (judged_line scenario) front ++ came ∷ each_after (judged_line scenario) front back) judged_none

  pub judged_without : (back : List (List ℕ)) → judged_lines scenario (front ++ back)
      ≡ judged_lines scenario front ++ each_after (judged_line scenario) front back
  unfolding judged_lines
  judged_without back = without_line (judged_line scenario) front line judged_blind back
