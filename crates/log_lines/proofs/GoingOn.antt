-- The judge, behind one line more.
use Rattle.std.proofs.Common.{◌≡◌, ℕ, ◌+◌, ◌-◌, ◌^◌, ◌<◌, ◌≤◌, Bool, true, false, nat_lt, min, List, [], ◌∷◌, ◌++◌, append-nil, length, slice_index, slice_set, length-append, Option, None, IfSome, unwrap_or, Result, Ok, Err, IfOk, refl, ap, sym, subst, ◌∙◌, arith}
use Rattle.std.proofs.lemmas.Bool.Decides.{nat_tests}
use Rattle.aivdm.specs.FragmentJoining.{Taken, joined_of}
use Rattle.aivdm.specs.OpenMessages.{StandsFor as JoinerStandsFor}
use Rattle.aivdm.specs.ReadingOf.{dropped, reading_of}
use Rattle.aivdm.specs.Sentences.{LineContent, SentenceFields}
use Rattle.aivdm.specs.declared.joiner.Joined.{Joined}
use Rattle.aivdm.specs.declared.sentence.LineCause.{LineCause}
use Rattle.aivdm.specs.declared.sentence.LineCause.TheVariants as line_cause
use Rattle.ais_messages.specs.declared.message.Decoded.{Decoded}
use Rattle.scenario_values.specs.declared.values.Scenario.{Scenario}
use Rattle.tracks.specs.AcceptedReports.{JudgingNumbers}
use Rattle.tracks.specs.Standing.{StandsFor as BookStandsFor}
use Rattle.tracks.specs.VesselsHeld.{Sent, held_of}
use Rattle.tracks.specs.declared.keeping.Keeping.{Keeping}
use Rattle.log_lines.specs.JudgedLines.{greatest_held, held_behind, judged_line, judged_lines, numbers_of, outcome_of}
use Rattle.log_lines.specs.LineOutcomes.{outcome_index}
use Rattle.log_lines.specs.LineTimes.{clock_of, stamp_of, time_of}
use Rattle.log_lines.specs.SentLines.{heard, heard_of, heard_in, heard_unless, sent, sent_decoded, sent_heard, sent_joined, sent_of, untimely}
use Rattle.log_lines.specs.ShipTypes.{AreNoted, counts_ranks}
use Rattle.log_lines.specs.Standing.{AreCounts, StandsFor, keeping_of}
use Rattle.log_lines.specs.StaticReports.{told_of}
use Rattle.log_lines.specs.Inner.JudgeState.{Enters, GoesOn, Keeps, heard_by, held_with, listed}
use Rattle.log_lines.specs.Inner.Times.{KeepsTimes, nearest_of, times_behind, untimely_by}
use Rattle.log_lines.specs.declared.judge.Judge.{Judge}
use Rattle.log_lines.specs.declared.judged.Judged.{Judged}
use Rattle.log_lines.specs.declared.judged.Judged.TheVariants as judged
use Rattle.log_lines.specs.declared.line_times.LineTimes.{LineTimes}
use Rattle.log_lines.specs.declared.outcome.LineOutcome.{LineOutcome}
use Rattle.log_lines.specs.declared.outcome.LineOutcome.TheVariants as outcome
use Rattle.log_lines.proofs.Counting.{AreCounts-push}
use Rattle.log_lines.proofs.OneOutcome.{each_after-length}
use Rattle.log_lines.proofs.Pushing.{calm-push, heard-push, judged-push, sent-push, told-push}
use Rattle.log_lines.proofs.Timing.{KeepsTimes-push, time_is}

-- what is not above the greatest number of vessels
pub few_unless : (n : ℕ) → (greatest_held < n → ⊥) → n ≤ greatest_held
few_unless n calm = decide (nat_lt greatest_held n) refl
  where
    decide : (test : Bool) → nat_lt greatest_held n ≡ test → n ≤ greatest_held
    decide true is = absurd (calm (grind (arith, nat_tests, is)))
    decide false is = grind (arith, nat_tests, is)

-- ---- a line without a message

pub Enters-none : (numbers : JudgingNumbers) (ranked : Bool) (judge : Judge) (came : LineOutcome) (before : List Sent) → judge.told ≡ None
    → Keeps judge.book judge.ranks numbers ranked before → Enters numbers ranked judge (judged.Without came) before (Err came)
Enters-none numbers ranked judge came before untold keeps = record {
  is = refl;
  told = untold;
  keeps = subst (Keeps judge.book judge.ranks numbers ranked) (sym (append-nil before)) keeps;
}

-- the same, where no more than the report that was accepted last has changed
pub Enters-latest : (numbers : JudgingNumbers) (ranked : Bool) (old new : Judge) (came : Judged) (before : List Sent) (next : Result Sent LineOutcome)
    → new ≡ record old { latest = new.latest } → Enters numbers ranked old came before next → Enters numbers ranked new came before next
Enters-latest numbers ranked old new came before next is enters = record {
  is = enters.is;
  told = ap (λ (j : Judge). j.told) is ∙ enters.told;
  keeps = subst (λ (j : Judge). Keeps j.book j.ranks numbers ranked (before ++ listed next)) (sym is) enters.keeps;
}

-- ---- what a sentence that is in time comes to

abbrev after : List Taken → Taken → List Taken
after taken next = taken ++ next ∷ []

sends : (taken : List Taken) (next : Taken) (joined_now : Joined) (to : Result Sent LineOutcome) → joined_now ≡ joined_of taken next → sent_joined next.time joined_now ≡ to
    → to ≡ sent_heard taken (Ok next)
sends taken next joined_now to joins is = sym is ∙ ap (sent_joined next.time) joins

pub GoesOn-message : (numbers : JudgingNumbers) (ranked : Bool) (judge : Judge) (came : Judged) (taken : List Taken) (messages : List Sent) (next : Taken) (joined_now : Joined) (decoded : Decoded)
    → joined_now ≡ joined_of taken next → sent_joined next.time joined_now ≡ sent_decoded next.time decoded
    → JoinerStandsFor judge.joiner (after taken next) → Enters numbers ranked judge came messages (sent_decoded next.time decoded)
    → GoesOn numbers ranked judge came taken messages (Ok next)
GoesOn-message numbers ranked judge came taken messages next joined_now decoded joins is stands enters = record {
  joiner = stands;
  enters = subst (Enters numbers ranked judge came messages) (sends taken next joined_now (sent_decoded next.time decoded) joins is) enters;
}

pub crowded_message : (numbers : JudgingNumbers) (taken : List Taken) (messages : List Sent) (next : Taken) (joined_now : Joined) (decoded : Decoded)
    → joined_now ≡ joined_of taken next → sent_joined next.time joined_now ≡ sent_decoded next.time decoded
    → greatest_held < held_with numbers messages (sent_decoded next.time decoded) → greatest_held < held_with numbers messages (sent_heard taken (Ok next))
crowded_message numbers taken messages next joined_now decoded joins is more =
    subst (λ (r : Result Sent LineOutcome). greatest_held < held_with numbers messages r) (sends taken next joined_now (sent_decoded next.time decoded) joins is) more

pub GoesOn-silent : (numbers : JudgingNumbers) (ranked : Bool) (judge : Judge) (came : LineOutcome) (taken : List Taken) (messages : List Sent) (next : Taken) (joined_now : Joined)
    → joined_now ≡ joined_of taken next → sent_joined next.time joined_now ≡ Err came → judge.told ≡ None
    → JoinerStandsFor judge.joiner (after taken next) → Keeps judge.book judge.ranks numbers ranked messages
    → GoesOn numbers ranked judge (judged.Without came) taken messages (Ok next)
GoesOn-silent numbers ranked judge came taken messages next joined_now joins is untold stands keeps = record {
  joiner = stands;
  enters = subst (Enters numbers ranked judge (judged.Without came) messages) (sends taken next joined_now (Err came) joins is) (Enters-none numbers ranked judge came messages untold keeps);
}

-- a line on which nothing is heard
pub GoesOn-unheard : (numbers : JudgingNumbers) (ranked : Bool) (judge : Judge) (came : LineOutcome) (taken : List Taken) (messages : List Sent) → judge.told ≡ None
    → JoinerStandsFor judge.joiner taken → Keeps judge.book judge.ranks numbers ranked messages
    → GoesOn numbers ranked judge (judged.Without came) taken messages (Err came)
GoesOn-unheard numbers ranked judge came taken messages untold stands keeps = record {
  joiner = subst (JoinerStandsFor judge.joiner) (sym (append-nil taken)) stands;
  enters = Enters-none numbers ranked judge came messages untold keeps;
}

-- ---- the whole line

untimely_is : (times : LineTimes) (scenario : Scenario) (before : List (List ℕ)) (time : ℕ) → time < 2 ^ 64 → KeepsTimes times scenario before
    → untimely_by times time ≡ untimely scenario (clock_of scenario before) time
untimely_is times scenario before time small keeps = rw (keeps.window time small, keeps.slack, keeps.clock) refl

-- Where a sentence may be heard at a time, the time is one of 64 bits.
abbrev pub IsHeardInTime : ℕ → Result SentenceFields LineCause → Type 0
IsHeardInTime time body = IfOk body (λ sentence. time < 2 ^ 64)

pub in_time : (time : ℕ) (body : Result SentenceFields LineCause) → time < 2 ^ 64 → IsHeardInTime time body
in_time time (Ok sentence) small = small
in_time time (Err cause) small = tt

heard_same : (times : LineTimes) (scenario : Scenario) (before : List (List ℕ)) (time : ℕ) (body : Result SentenceFields LineCause) → IsHeardInTime time body → KeepsTimes times scenario before
    → heard_by times time body ≡ heard_in scenario (clock_of scenario before) time body
heard_same times scenario before time (Ok sentence) small keeps = ap (λ o. heard_unless o time sentence) (untimely_is times scenario before time small keeps)
heard_same times scenario before time (Err cause) small keeps = refl

heard_is : (times : LineTimes) (scenario : Scenario) (before : List (List ℕ)) (line : List ℕ) (time : ℕ) (body : Result SentenceFields LineCause) → IsHeardInTime time body → KeepsTimes times scenario before
    → time ≡ unwrap_or (nearest_of (stamp_of line) times.nearest) times.start → body ≡ (reading_of line).body
    → heard_by times time body ≡ heard_of scenario before line
unfolding heard_of
heard_is times scenario before line time body small keeps timed same =
    heard_same times scenario before time body small keeps
    ∙ ap (λ t. heard_in scenario (clock_of scenario before) t body) (timed ∙ time_is times scenario before line keeps)
    ∙ ap (heard_in scenario (clock_of scenario before) (time_of scenario (before ++ line ∷ []))) same

-- what the judge made of a line
pub record Judges (old noted : Judge) (came : Judged) (line : List ℕ) : Type 0 where
  pub time : ℕ
  pub body : Result SentenceFields LineCause
  pub timed : time ≡ unwrap_or (nearest_of (stamp_of line) old.times.nearest) old.times.start
  pub said : body ≡ (reading_of line).body
  pub in_time : IsHeardInTime time body
  pub stamp_small : IfSome (stamp_of line) (λ seconds. seconds < 2 ^ 64)
  pub kept : keeping_of noted ≡ keeping_of old
  pub on : (numbers : JudgingNumbers) (ranked : Bool) (taken : List Taken) (messages : List Sent) → JoinerStandsFor old.joiner taken
      → Keeps old.book old.ranks numbers ranked messages → GoesOn numbers ranked noted came taken messages (heard_by old.times time body)

-- so the joiner, the book and the ship types go on
goes_on : (old noted : Judge) (came : Judged) (line : List ℕ) (scenario : Scenario) (before : List (List ℕ)) → StandsFor old scenario before → Judges old noted came line
    → GoesOn (numbers_of scenario) (counts_ranks (keeping_of old) scenario) noted came (heard scenario before) (sent scenario before) (heard_of scenario before line)
goes_on old noted came line scenario before stands judges =
    let ranked = counts_ranks (keeping_of old) scenario in
    let keeps : Keeps old.book old.ranks (numbers_of scenario) ranked (sent scenario before) = record { book = stands.book; few = stands.few; notes = stands.notes } in
    let on = judges.on (numbers_of scenario) ranked (heard scenario before) (sent scenario before) stands.joiner keeps in
    let here = heard_is old.times scenario before line judges.time judges.body judges.in_time stands.times judges.timed judges.said in
    subst (GoesOn (numbers_of scenario) ranked noted came (heard scenario before) (sent scenario before)) here on

pub judged_is : (old noted : Judge) (came : Judged) (line : List ℕ) (scenario : Scenario) (before : List (List ℕ)) → StandsFor old scenario before → Judges old noted came line
    → came ≡ judged_line scenario before line
unfolding judged_line sent_of
judged_is old noted came line scenario before stands judges = (goes_on old noted came line scenario before stands judges).enters.is

judged-length : (scenario : Scenario) (lines : List (List ℕ)) → length (judged_lines scenario lines) ≡ length lines
unfolding judged_lines
judged-length scenario lines = each_after-length (judged_line scenario) [] lines

held_same : (scenario : Scenario) (before : List (List ℕ)) (line : List ℕ)
    → held_with (numbers_of scenario) (sent scenario before) (sent_of scenario before line) ≡ held_behind scenario before line
unfolding held_behind
held_same scenario before line = ap (λ (l : List Sent). length (held_of (numbers_of scenario) l)) (sym (sent-push scenario before line))

-- the judge with one line more counted
abbrev counted : List ℕ → Judged → List ℕ
counted counts came = slice_set counts (outcome_index (outcome_of came)) (min (slice_index counts (outcome_index (outcome_of came)) + 1) (2 ^ 64 - 1))

pub stands_on : (old noted new : Judge) (came : Judged) (line : List ℕ) (scenario : Scenario) (before : List (List ℕ)) → length before + 1 < 2 ^ 64
    → StandsFor old scenario before → Judges old noted came line
    → new ≡ record { times = times_behind old.times (stamp_of line); joiner = noted.joiner; book = noted.book; told = noted.told; ranks = noted.ranks; latest = noted.latest; counts = counted old.counts came }
    → StandsFor new scenario (before ++ line ∷ [])
unfolding sent_of held_behind told_of
stands_on old noted new came line scenario before few stands judges is =
    let on = goes_on old noted came line scenario before stands judges in
    let came_is = judged_is old noted came line scenario before stands judges in
    let lines = before ++ line ∷ [] in
    let counts = AreCounts-push old.counts (judged_lines scenario before) came (omega (arith, few, judged-length scenario before)) stands.counts in
    let judged_more : judged_lines scenario before ++ came ∷ [] ≡ judged_lines scenario lines =
    ap (λ (j : Judged). judged_lines scenario before ++ j ∷ []) came_is ∙ sym (judged-push scenario before line) in
    let held : held_behind scenario before line ≤ greatest_held = subst (λ n. n ≤ greatest_held) (held_same scenario before line) on.enters.keeps.few in
    let noted_more : AreNoted (counts_ranks (keeping_of noted) scenario) noted.ranks (sent scenario lines) =
    subst (AreNoted (counts_ranks (keeping_of noted) scenario) noted.ranks) (sym (sent-push scenario before line))
    (subst (λ (keeping : Keeping). AreNoted (counts_ranks keeping scenario) noted.ranks (sent scenario before ++ listed (sent_of scenario before line))) (sym judges.kept)
    on.enters.keeps.notes) in
    subst (λ (judge : Judge). StandsFor judge scenario lines) (sym is) (record {
      countable = omega (arith, few, length-append before (line ∷ []));
      times = KeepsTimes-push old.times scenario before line stands.times judges.stamp_small;
      joiner = subst (JoinerStandsFor noted.joiner) (sym (heard-push scenario before line)) on.joiner;
      book = subst (BookStandsFor noted.book (numbers_of scenario)) (sym (sent-push scenario before line)) on.enters.keeps.book;
      few = held;
      notes = noted_more;
      calm = calm-push scenario before line stands.calm held;
      told = on.enters.told ∙ sym (told-push scenario before line);
      counts = subst (AreCounts (counted old.counts came)) judged_more counts;
    })

-- ---- a line that is longer than a line may be

long_is_dropped : (line : List ℕ) → 1024 < length line → reading_of line ≡ dropped line_cause.Long
unfolding reading_of
long_is_dropped line long = grind (arith, nat_tests)

pub long_has_no_stamp : (line : List ℕ) → 1024 < length line → None ≡ stamp_of line
long_has_no_stamp line long = sym (ap (λ (content : LineContent). content.stamp) (long_is_dropped line long))

-- The judge does not look at it.
pub judges_long : (old : Judge) (line : List ℕ) → 1024 < length line → Judges old (record old { told = None }) (judged.Without outcome.Long) line
judges_long old line long = record {
  time = unwrap_or (nearest_of (stamp_of line) old.times.nearest) old.times.start;
  body = Err line_cause.Long;
  timed = refl;
  said = sym (ap (λ (content : LineContent). content.body) (long_is_dropped line long));
  in_time = tt;
  stamp_small = subst (λ (stamp : Option ℕ). IfSome stamp (λ seconds. seconds < 2 ^ 64)) (long_has_no_stamp line long) tt;
  kept = refl;
  on = λ numbers ranked taken messages joiner keeps. GoesOn-unheard numbers ranked (record old { told = None }) outcome.Long taken messages refl joiner keeps;
}

-- ---- a line that makes more vessels held

pub crowded_by : (old : Judge) (line : List ℕ) (scenario : Scenario) (before : List (List ℕ)) (time : ℕ) (body : Result SentenceFields LineCause) → time < 2 ^ 64 → StandsFor old scenario before
    → time ≡ unwrap_or (nearest_of (stamp_of line) old.times.nearest) old.times.start → body ≡ (reading_of line).body
    → ((numbers : JudgingNumbers) (taken : List Taken) (messages : List Sent) → JoinerStandsFor old.joiner taken → BookStandsFor old.book numbers messages
    → greatest_held < held_with numbers messages (sent_heard taken (heard_by old.times time body)))
    → greatest_held < held_behind scenario before line
unfolding sent_of
crowded_by old line scenario before time body small stands timed said more =
    let here = heard_is old.times scenario before line time body (in_time time body small) stands.times timed said in
    subst (λ n. greatest_held < n) (held_same scenario before line)
    (subst (λ (h : Result Taken LineOutcome). greatest_held < held_with (numbers_of scenario) (sent scenario before) (sent_heard (heard scenario before) h)) here
    (more (numbers_of scenario) (heard scenario before) (sent scenario before) stands.joiner stands.book))

-- the record that counting makes, in the words of the lemma above
pub new_is : (old noted new : Judge) (came : Judged) (line : List ℕ) (times : LineTimes) (stamp : Option ℕ) (outcome : LineOutcome)
    → noted ≡ record old { joiner = noted.joiner; book = noted.book; told = noted.told; ranks = noted.ranks; latest = noted.latest } → times ≡ times_behind noted.times stamp → stamp ≡ stamp_of line → outcome ≡ outcome_of came
    → new ≡ record {
      times = times;
      joiner = noted.joiner;
      book = noted.book;
      told = noted.told;
      ranks = noted.ranks;
      latest = noted.latest;
      counts = slice_set noted.counts (outcome_index outcome) (min (slice_index noted.counts (outcome_index outcome) + 1) (2 ^ 64 - 1));
    }
    → new ≡ record { times = times_behind old.times (stamp_of line); joiner = noted.joiner; book = noted.book; told = noted.told; ranks = noted.ranks; latest = noted.latest; counts = counted old.counts came }
new_is old noted new came line times stamp outcome same passed stamped told is =
    let kept : noted.times ≡ old.times = ap (λ (j : Judge). j.times) same in
    let counts : noted.counts ≡ old.counts = ap (λ (j : Judge). j.counts) same in
    let timed : times ≡ times_behind old.times (stamp_of line) = passed ∙ (λ i. times_behind (kept i) (stamped i)) in
    is ∙ (λ i. record {
      times = timed i;
      joiner = noted.joiner;
      book = noted.book;
      told = noted.told;
      ranks = noted.ranks;
      latest = noted.latest;
      counts = slice_set (counts i) (outcome_index (told i)) (min (slice_index (counts i) (outcome_index (told i)) + 1) (2 ^ 64 - 1));
    })
