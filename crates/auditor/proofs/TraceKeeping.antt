-- What a step and a row beyond the end come to, among the tracks of other traces.
use Rattle.std.proofs.Common.{◌≡◌, ℕ, ◌+◌, ◌<◌, Bool, true, List, [], ◌∷◌, ◌++◌, length, append_assoc, refl, sym, subst, ◌∙◌, arith, length-append}
use Rattle.std.specs.Prelude.{Option}
use Rattle.mtl_formulas.specs.declared.atom.Atom.{Atom}
use Rattle.mtl_formulas.specs.declared.verdict.Verdict.{Verdict}
use Rattle.mtl_monitor.specs.Following.{Closes, IsEnded, IsFed, count_of, formula_at, past_of}
use Rattle.mtl_monitor.specs.Reaches.{greatest_reach}
use Rattle.mtl_monitor.specs.declared.program.Program.{Program}
use Rattle.encounters.specs.Standing.{IsStateAfter}
use Rattle.encounters.specs.declared.engagement_state.EngagementState.{EngagementState}
use Rattle.encounters.specs.declared.engagement_state.EngagementState.TheVariants.{Apart}
use Rattle.encounters.specs.declared.pair_step.PairStep.{PairStep}
use Rattle.audit_rows.specs.Stretches.{mark_at}
use Rattle.audit_rows.specs.Tracks.{Repeats, Track, longer, next_step}
use Rattle.audit_rows.specs.declared.mark.Mark.{Mark}
use Rattle.audit_rows.specs.declared.row.Row.{Row}
use Rattle.traces.specs.Audited.{AuditNumbers}
use Rattle.traces.specs.Known.{Known, watched}
use Rattle.auditor.specs.AuditTracks.{IsMeetingMark}
use Rattle.auditor.specs.Inner.RowAnswers.{AwaitAll, MarksRules, answered_all}
use Rattle.audit_rows.specs.Standing.{QueueStandsFor}
use Rattle.auditor.specs.TraceKeeping.{AreRuleMarksSoFar, AreTracks, AreTracksSoFar, HasTracksOf, IsMeetingTrack, StandsFor, Steps}
use Rattle.auditor.specs.SettledRows.{formulas_of}
use Rattle.audit_rows.specs.declared.row_queue.RowQueue.{RowQueue}
use Rattle.auditor.specs.declared.trace.AuditTrace.{AuditTrace}
use Rattle.auditor.proofs.TraceTracks.{AreRuleMarksPast, all_brought, answers_all, apart_repeats, ended_marks, fed_marks, first_tracks, marks_then, meeting_stays, whole_tracks}

-- Behind a trace's meeting the marks of its rules are marked.
behind_meeting : (program : Program) (trace : AuditTrace) (first : ℕ) (old new : RowQueue) (marks : MarksRules program trace (first + 1) (count_of program) old new)
    (bound : ℕ) (before : List Track) (meeting : Track) (mine after : List Track) (given : List Row) → first ≡ length before
    → AwaitAll trace.start marks.answers mine → QueueStandsFor old (before ++ meeting ∷ (mine ++ after)) bound given
    → QueueStandsFor new (before ++ meeting ∷ answered_all marks.answers mine ++ after) bound given
behind_meeting program trace first old new marks bound before meeting mine after given e await keeps =
    let there : first + 1 ≡ length (before ++ meeting ∷ []) = omega (arith, length-append before (meeting ∷ [])) in
    let done = answered_all marks.answers mine in
    subst (λ (ts : List Track). QueueStandsFor new ts bound given) (append_assoc before (meeting ∷ []) (done ++ after) ∙ sym (append_assoc before (meeting ∷ done) after))
    (marks.keeps bound (before ++ meeting ∷ []) mine after given there await
    (subst (λ (ts : List Track). QueueStandsFor old ts bound given) (sym (append_assoc before (meeting ∷ []) (mine ++ after))) keeps))

-- ---- a step

-- The meeting's track, where it is the one at the index, has one mark more.
pub record MarksMeeting (numbers : AuditNumbers) (known : Known) (first : ℕ) (mark : Mark) (old new : RowQueue) : Type 0 where
  pub keeps : (bound : ℕ) (before after : List Track) (track : Track) (given : List Row) → first ≡ length before → IsMeetingTrack numbers known track
      → QueueStandsFor old (before ++ track ∷ after) bound given → QueueStandsFor new (before ++ longer track mark ∷ after) bound given

-- So it has where the mark is taken, or is left out since the vessels were apart and are.
pub meeting_marked : (numbers : AuditNumbers) (known : Known) (seen : Option PairStep) (mark : Mark) (was is : EngagementState) (apart : Bool) (first step : ℕ) (old new : RowQueue)
    → step ≡ known.start + length known.steps → IsStateAfter numbers.detect known.steps was → IsStateAfter numbers.detect (known.steps ++ seen ∷ []) is
    → IsMeetingMark numbers.detect (known.steps ++ seen ∷ []) (length known.steps) mark
    → (apart ≡ true → was ≡ Apart) → (apart ≡ true → is ≡ Apart) → (apart ≡ true → known.start < step)
    → ((bound : ℕ) (before after : List Track) (track : Track) (given : List Row) → QueueStandsFor old (before ++ track ∷ after) bound given → first ≡ length before
    → step ≡ next_step track → (apart ≡ true → Repeats track mark) → QueueStandsFor new (before ++ longer track mark ∷ after) bound given)
    → MarksMeeting numbers known first mark old new
meeting_marked numbers known seen mark was is apart first step old new at before_is after_is is_mark was_apart is_apart later by = record {
  keeps = λ bound before after track given e meeting keeps.
      let first_step = meeting.first in
      let count = meeting.marks.count in
      let next : step ≡ next_step track = omega arith in
      by bound before after track given keeps e next
      (λ rests.
      let some = later rests in
      apart_repeats numbers.detect known.steps seen was is (was_apart rests) (is_apart rests) (omega arith) before_is after_is mark is_mark track count meeting.marks.each);
}

module _ (program : Program) (numbers : AuditNumbers) (trace : AuditTrace) (known : Known) (seen : Option PairStep) (row : Atom → Verdict) (mark : Mark)
    (stands : StandsFor program numbers trace (watched known seen row))
    (is_mark : IsMeetingMark numbers.detect (known.steps ++ seen ∷ []) (length known.steps) mark) where
  pub meeting_longer : (track : Track) → IsMeetingTrack numbers known track → IsMeetingTrack numbers (watched known seen row) (longer track mark)
  meeting_longer track h =
      let count = h.marks.count in
      record {
        topic = h.topic;
        first = h.first;
        marks = record {
          count = omega (arith, length-append known.steps (seen ∷ []), length-append track.marks (mark ∷ []));
          each = marks_then (λ i mark. IsMeetingMark numbers.detect (known.steps ++ seen ∷ []) i mark) track.marks mark
              (λ i lt. meeting_stays numbers.detect known.steps (seen ∷ []) i (mark_at track.marks i) (omega arith) (h.marks.each i lt))
              (subst (λ (i : ℕ). IsMeetingMark numbers.detect (known.steps ++ seen ∷ []) i mark) (sym count) is_mark);
        };
      }

  pub stepped : (first : ℕ) (old now new : RowQueue) → MarksMeeting numbers known first mark old now
      → MarksRules program trace (first + 1) (count_of program) now new
      → (before mine after : List Track) (bound : ℕ) (given : List Row) → AreTracksSoFar numbers known mine → first ≡ length before
      → QueueStandsFor old (before ++ mine ++ after) bound given
      → Steps program numbers trace known seen row new before after bound given
  stepped first old now new meets marks before [] after bound given tracks e keeps = absurd tracks
  stepped first old now new meets marks before (meeting ∷ mine) after bound given tracks e keeps =
      let (of_meeting, of_rules) = tracks in
      let now_kept : QueueStandsFor now (before ++ longer meeting mark ∷ (mine ++ after)) bound given =
      meets.keeps bound before (mine ++ after) meeting given e of_meeting
      (subst (λ (ts : List Track). QueueStandsFor old ts bound given) (append_assoc before (meeting ∷ mine) after) keeps) in
      let of_count = stands.values.of.count in
      let many : length marks.answers ≡ length (formulas_of numbers) = marks.many ∙ of_count in
      let answers = answers_all program trace.values (formulas_of numbers) (λ answer tree. IsFed answer tree (known.trace ++ row ∷ []))
      (λ rule answer is. is.fed (formulas_of numbers) (known.trace ++ row ∷ []) stands.values) marks.answers many marks.are in
      let (await, brought) = all_brought AreRuleMarksSoFar AreRuleMarksSoFar known (watched known seen row) refl refl
      (λ answer tree. IsFed answer tree (known.trace ++ row ∷ [])) (λ tree marks answer so_far fed. fed_marks tree known.trace row marks answer so_far fed)
      0 (formulas_of numbers) marks.answers mine answers of_rules in
      record {
        stands = stands;
        mine = longer meeting mark ∷ answered_all marks.answers mine;
        tracks = (meeting_longer meeting of_meeting, brought);
        keeps = behind_meeting program trace first now new marks bound before (longer meeting mark) mine after given e
            (subst (λ (start : ℕ). AwaitAll start marks.answers mine) (sym stands.start) await) now_kept;
      }

-- ---- rows beyond the end

-- Where so many rows have passed beyond its end, the trace has these tracks.
pub record HasTracksPast (past : ℕ) (numbers : AuditNumbers) (known : Known) (marks : RowQueue) (before after : List Track) (bound : ℕ) (given : List Row) : Type 0 where
  pub mine : List Track
  pub tracks : AreTracks (AreRuleMarksPast past) numbers known mine
  pub keeps : QueueStandsFor marks (before ++ mine ++ after) bound given

module _ (numbers : AuditNumbers) (known : Known) (marks : RowQueue) (before after : List Track) (bound : ℕ) (given : List Row) where
  pub at_end : (mine : List Track) → AreTracksSoFar numbers known mine → QueueStandsFor marks (before ++ mine ++ after) bound given
      → HasTracksPast 0 numbers known marks before after bound given
  at_end [] tracks keeps = absurd tracks
  at_end (meeting ∷ mine) tracks keeps = record {
    mine = meeting ∷ mine;
    tracks = (tracks.0, first_tracks known 0 (formulas_of numbers) mine tracks.1);
    keeps = keeps;
  }

  pub at_last : (past : ℕ) → past ≡ greatest_reach (formulas_of numbers) → HasTracksPast past numbers known marks before after bound given
      → HasTracksOf numbers known marks before after bound given
  at_last past e h = more h.mine h.tracks h.keeps
    where
      more : (mine : List Track) → AreTracks (AreRuleMarksPast past) numbers known mine → QueueStandsFor marks (before ++ mine ++ after) bound given
          → HasTracksOf numbers known marks before after bound given
      more [] tracks keeps = absurd tracks
      more (meeting ∷ mine) tracks keeps = record {
        mine = meeting ∷ mine;
        tracks = (tracks.0, whole_tracks past known 0 (formulas_of numbers) mine (omega arith) tracks.1);
        keeps = keeps;
      }

module _ (program : Program) (numbers : AuditNumbers) (trace : AuditTrace) (known : Known) (first past : ℕ) (old new : RowQueue)
    (start : trace.start ≡ known.start) (closes : Closes program trace.values (formulas_of numbers) known.trace) (rows : past_of trace.values ≡ past + 1)
    (marks : MarksRules program trace (first + 1) (count_of program) old new) where
  pub one_past : (before after : List Track) (bound : ℕ) (given : List Row) → first ≡ length before
      → HasTracksPast past numbers known old before after bound given → HasTracksPast (past + 1) numbers known new before after bound given
  one_past before after bound given e h = more h.mine h.tracks h.keeps
    where
      more : (mine : List Track) → AreTracks (AreRuleMarksPast past) numbers known mine → QueueStandsFor old (before ++ mine ++ after) bound given
          → HasTracksPast (past + 1) numbers known new before after bound given
      more [] tracks keeps = absurd tracks
      more (meeting ∷ mine) tracks keeps =
          let of_count = closes.of.count in
          let many : length marks.answers ≡ length (formulas_of numbers) = marks.many ∙ of_count in
          let answers = answers_all program trace.values (formulas_of numbers) (λ answer tree. IsEnded answer tree known.trace (past + 1))
          (λ rule answer is. subst (λ (n : ℕ). IsEnded answer (formula_at (formulas_of numbers) rule) known.trace n) rows
          (is.ended (formulas_of numbers) known.trace closes)) marks.answers many marks.are in
          let (await, brought) = all_brought (AreRuleMarksPast past) (AreRuleMarksPast (past + 1)) known known refl refl
          (λ answer tree. IsEnded answer tree known.trace (past + 1)) (λ tree marks answer h ended. ended_marks past tree known.trace marks answer h ended)
          0 (formulas_of numbers) marks.answers mine answers tracks.1 in
          record {
            mine = meeting ∷ answered_all marks.answers mine;
            tracks = (tracks.0, brought);
            keeps = behind_meeting program trace first old new marks bound before meeting mine after given e
                (subst (λ (start : ℕ). AwaitAll start marks.answers mine) (sym start) await)
                (subst (λ (ts : List Track). QueueStandsFor old ts bound given) (append_assoc before (meeting ∷ mine) after) keeps);
          }
