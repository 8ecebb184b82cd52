-- A step at which no formula's value changes: the marks of the rules are those before.
use Rattle.std.proofs.Common.{◌≡◌, ℕ, zero, suc, ◌+◌, ◌-◌, ◌<◌, List, [], ◌∷◌, ◌++◌, length, append_assoc, refl, sym, ap, subst, ◌∙◌, arith, length-append, Some, true}
use Rattle.std.specs.Prelude.{Option}
use Rattle.mtl_formulas.specs.FormulaTree.{FormulaTree}
use Rattle.mtl_formulas.specs.FormulaMeasures.{reach_of}
use Rattle.mtl_formulas.specs.declared.atom.Atom.{Atom}
use Rattle.mtl_formulas.specs.declared.verdict.Verdict.{Verdict}
use Rattle.mtl_formulas.specs.declared.verdict.Verdict.TheVariants.{No, Open, Yes}
use Rattle.mtl_monitor.specs.Following.{Follows, GivesTheSame, IsFed, formula_at, last_value}
use Rattle.mtl_monitor.specs.Reaches.{greatest_reach}
use Rattle.mtl_monitor.proofs.Feeding.{last_given}
use Rattle.mtl_formulas.specs.Traces.{Trace, value_in}
use Rattle.mtl_monitor.specs.declared.program.Program.{Program}
use Rattle.mtl_monitor.specs.declared.trace_state.TraceState.{TraceState}
use Rattle.encounters.specs.Engagement.{IsEngaged}
use Rattle.encounters.specs.declared.engagement_state.EngagementState.TheVariants.{Apart}
use Rattle.encounters.specs.declared.pair_step.PairStep.{PairStep}
use Rattle.audit_rows.specs.Stretches.{MarksEngagement}
use Rattle.audit_rows.specs.Tracks.{Repeats, Track, longer}
use Rattle.audit_rows.specs.declared.mark.Mark.{Mark}
use Rattle.audit_rows.specs.declared.mark.Mark.TheVariants.{Nothing}
use Rattle.audit_rows.specs.declared.row.Row.{Row}
use Rattle.audit_rows.proofs.ForCallers.{repeated}
use Rattle.traces.specs.Audited.{AuditNumbers}
use Rattle.mtl_formulas.specs.declared.glance.Glance.{Glance}
use Rattle.meetings.specs.declared.by_rank.ByRank.{ByRank}
use Rattle.traces.specs.Keeping.{IsApartRow}
use Rattle.traces.specs.Known.{Known, watched}
use Rattle.auditor.specs.AuditTracks.{IsMeetingMark}
use Rattle.auditor.specs.ValueMarks.{mark_of}
use Rattle.audit_rows.specs.Standing.{QueueStandsFor}
use Rattle.auditor.specs.TraceKeeping.{AreRuleMarksSoFar, AreRuleTracks, AreTracksSoFar, IsRuleTrack, StandsFor, Steps}
use Rattle.auditor.specs.SettledRows.{formulas_of}
use Rattle.audit_rows.specs.declared.row_queue.RowQueue.{RowQueue}
use Rattle.auditor.specs.declared.trace.AuditTrace.{AuditTrace}
use Rattle.auditor.proofs.TraceKeeping.{MarksMeeting, meeting_longer, meeting_marked}
use Rattle.auditor.proofs.TraceTracks.{fed_marks, one_brought}

-- ---- values

-- The formula's value at the position that the row decides is that at the position before.
pub record Still (trace : Trace) (row : Atom → Verdict) (tree : FormulaTree) : Type 0 where
  pub within : reach_of tree < length trace
  pub value : Verdict
  pub now : (more : Trace) → value ≡ value_in ((trace ++ row ∷ []) ++ more) tree (length trace - reach_of tree)
  pub before : (more : Trace) → value ≡ value_in (trace ++ more) tree (length trace - 1 - reach_of tree)

abbrev pub AllStill : Trace → (Atom → Verdict) → List FormulaTree → Type 0
AllStill trace row [] = Unit {0}
AllStill trace row (tree ∷ trees) = Still trace row tree × AllStill trace row trees

reach_within : (formulas : List FormulaTree) (k n : ℕ) → k < length formulas → greatest_reach formulas < n → reach_of (formula_at formulas k) < n
reach_within [] k n lt le = absurd (omega arith)
reach_within (tree ∷ trees) zero n lt le = omega arith
reach_within (tree ∷ trees) (suc k) n lt le = reach_within trees k n (omega arith) (omega arith)

all_from : (trace : Trace) (row : Atom → Verdict) (trees : List FormulaTree) → ((k : ℕ) → k < length trees → Still trace row (formula_at trees k)) → AllStill trace row trees
all_from trace row [] h = tt
all_from trace row (tree ∷ trees) h = (h 0 (omega arith), all_from trace row trees (λ k lt. h (suc k) (omega arith)))

module _ (program : Program) (old new : TraceState) (formulas : List FormulaTree) (trace : Trace) (row : Atom → Verdict)
    (was : Follows program old formulas trace) (is : Follows program new formulas (trace ++ row ∷ [])) (same : GivesTheSame program old new) where
  still_at : (k : ℕ) → k < length formulas → reach_of (formula_at formulas k) < length trace → Still trace row (formula_at formulas k)
  still_at k lt reach =
      let count = is.of.count in
      let tree = formula_at formulas k in
      let longer = length-append trace (row ∷ []) in
      let at : length (trace ++ row ∷ []) - 1 - reach_of tree ≡ length trace - reach_of tree = omega arith in
      record {
        within = reach;
        value = last_value program new k;
        now = λ more. last_given program new formulas (trace ++ row ∷ []) is k lt (omega arith) more ∙ ap (value_in ((trace ++ row ∷ []) ++ more) tree) at;
        before = λ more. same k (omega arith) ∙ last_given program old formulas trace was k lt reach more;
      }

  pub all_still : greatest_reach formulas < length trace → AllStill trace row formulas
  all_still reach = all_from trace row formulas (λ k lt. still_at k lt (reach_within formulas k (length trace) lt reach))

-- ---- tracks

not_engaged : (value : Verdict) → ¬ MarksEngagement (mark_of value)
not_engaged Yes h = h
not_engaged No h = h
not_engaged Open h = h

repeats : (trace : Trace) (row : Atom → Verdict) (tree : FormulaTree) (track : Track) (s : Still trace row tree) → AreRuleMarksSoFar tree trace track.marks → Repeats track (mark_of s.value)
repeats trace row tree track s h =
    let count = h.count in
    let within = s.within in
    let at : length track.marks - 1 ≡ length trace - 1 - reach_of tree = omega arith in
    record {
      some = omega arith;
      same = h.each (length track.marks - 1) (omega arith) [] ∙ ap mark_of (ap (value_in (trace ++ []) tree) at ∙ sym (s.before []));
      quiet = not_engaged s.value;
    }

-- A queue that keeps the tracks, with others before and after, keeps them with their marks repeated.
record Rest (known : Known) (seen : Option PairStep) (row : Atom → Verdict) (marks : RowQueue) (bound : ℕ) (given : List Row) (before after : List Track) (rule : ℕ)
    (trees : List FormulaTree) : Type 0 where
  later : List Track
  tracks : AreRuleTracks AreRuleMarksSoFar (watched known seen row) rule trees later
  keeps : QueueStandsFor marks (before ++ (later ++ after)) bound given

module _ (known : Known) (seen : Option PairStep) (row : Atom → Verdict) (marks : RowQueue) (bound : ℕ) (given : List Row) (after : List Track) where
  one_more : (rule : ℕ) (tree : FormulaTree) (track : Track) (s : Still known.trace row tree) → IsRuleTrack AreRuleMarksSoFar known rule tree track
      → IsRuleTrack AreRuleMarksSoFar (watched known seen row) rule tree (longer track (mark_of s.value))
  one_more rule tree track s h =
      let within = s.within in
      let last = length-append known.trace (row ∷ []) in
      (one_brought AreRuleMarksSoFar AreRuleMarksSoFar known (watched known seen row) refl refl (λ answer tree. IsFed answer tree (known.trace ++ row ∷ []))
      (λ tree marks answer so_far fed. fed_marks tree known.trace row marks answer so_far fed) rule tree track (Some (length known.trace - reach_of tree, s.value)) h
      (omega arith, s.now)).1

  all_rest : (before : List Track) (rule : ℕ) (trees : List FormulaTree) (tracks : List Track) → AllStill known.trace row trees
      → AreRuleTracks AreRuleMarksSoFar known rule trees tracks → QueueStandsFor marks (before ++ (tracks ++ after)) bound given
      → Rest known seen row marks bound given before after rule trees
  all_rest before rule [] [] s h k = record { later = []; tracks = tt; keeps = k }
  all_rest before rule [] (track ∷ tracks) s h k = absurd h
  all_rest before rule (tree ∷ trees) [] s h k = absurd h
  all_rest before rule (tree ∷ trees) (track ∷ tracks) s h k =
      let now = longer track (mark_of s.0.value) in
      let kept : QueueStandsFor marks (before ++ (now ∷ (tracks ++ after))) bound given =
      repeated marks before (tracks ++ after) track (mark_of s.0.value) bound given (repeats known.trace row tree track s.0 h.0.marks) k in
      let rest = all_rest (before ++ now ∷ []) (rule + 1) trees tracks s.1 h.1
      (subst (λ (ts : List Track). QueueStandsFor marks ts bound given) (sym (append_assoc before (now ∷ []) (tracks ++ after))) kept) in
      record {
        later = now ∷ rest.later;
        tracks = (one_more rule tree track s.0 h.0, rest.tracks);
        keeps = subst (λ (ts : List Track). QueueStandsFor marks ts bound given) (append_assoc before (now ∷ []) (rest.later ++ after)) rest.keeps;
      }

-- ---- the step

module _ (program : Program) (numbers : AuditNumbers) (trace : AuditTrace) (known : Known) (seen : Option PairStep) (row : Atom → Verdict) (mark : Mark)
    (stands : StandsFor program numbers trace (watched known seen row))
    (is_mark : IsMeetingMark numbers.detect (known.steps ++ seen ∷ []) (length known.steps) mark)
    (old : TraceState) (was : Follows program old (formulas_of numbers) known.trace) (same : GivesTheSame program old trace.values)
    (reach : greatest_reach (formulas_of numbers) < length known.trace) where
  pub rested : (first : ℕ) (marks now : RowQueue) → MarksMeeting numbers known first mark marks now
      → (before mine after : List Track) (bound : ℕ) (given : List Row) → AreTracksSoFar numbers known mine → first ≡ length before
      → QueueStandsFor marks (before ++ mine ++ after) bound given
      → Steps program numbers trace known seen row now before after bound given
  rested first marks now meets before [] after bound given tracks e keeps = absurd tracks
  rested first marks now meets before (meeting ∷ mine) after bound given tracks e keeps =
      let (of_meeting, of_rules) = tracks in
      let then = longer meeting mark in
      let now_kept : QueueStandsFor now (before ++ then ∷ (mine ++ after)) bound given =
      meets.keeps bound before (mine ++ after) meeting given e of_meeting
      (subst (λ (ts : List Track). QueueStandsFor marks ts bound given) (append_assoc before (meeting ∷ mine) after) keeps) in
      let rest = all_rest known seen row now bound given after (before ++ then ∷ []) 0 (formulas_of numbers) mine
      (all_still program old trace.values (formulas_of numbers) known.trace row was stands.values same reach) of_rules
      (subst (λ (ts : List Track). QueueStandsFor now ts bound given) (sym (append_assoc before (then ∷ []) (mine ++ after))) now_kept) in
      record {
        stands = stands;
        mine = then ∷ rest.later;
        tracks = (meeting_longer program numbers trace known seen row mark stands is_mark meeting of_meeting, rest.tracks);
        keeps = subst (λ (ts : List Track). QueueStandsFor now ts bound given)
            (append_assoc before (then ∷ []) (rest.later ++ after) ∙ sym (append_assoc before (then ∷ rest.later) after)) rest.keeps;
      }

-- ---- the step without its row

module _ (program : Program) (numbers : AuditNumbers) (ranks : ℕ → ByRank) (trace : AuditTrace) (known : Known) (seen : Option PairStep) (row : Atom → Verdict) (glance : Glance)
    (of : IsApartRow numbers ranks known seen glance row) (stands : StandsFor program numbers trace (watched known seen row))
    (old : TraceState) (was : Follows program old (formulas_of numbers) known.trace) (same : GivesTheSame program old trace.values)
    (count : length known.trace ≡ length known.steps) (reach : greatest_reach (formulas_of numbers) < length known.trace) where
  apart_mark : IsMeetingMark numbers.detect (known.steps ++ seen ∷ []) (length known.steps) Nothing
  apart_mark =
      let last : length (known.steps ++ seen ∷ []) - 1 ≡ length known.steps = omega (arith, length-append known.steps (seen ∷ [])) in
      subst (λ (i : ℕ). ¬ IsEngaged numbers.detect (known.steps ++ seen ∷ []) i) last of.is

  pub rested_apart : (queue : RowQueue) (step : ℕ) → step ≡ known.start + length known.steps → (before mine after : List Track) (bound : ℕ) (given : List Row)
      → AreTracksSoFar numbers known mine → QueueStandsFor queue (before ++ mine ++ after) bound given
      → Steps program numbers trace known seen row queue before after bound given
  rested_apart queue step at before mine after bound given tracks keeps =
      rested program numbers trace known seen row Nothing stands apart_mark old was same reach (length before) queue queue
      (meeting_marked numbers known seen Nothing Apart Apart true (length before) step queue queue at of.was of.is apart_mark
      (λ _. refl) (λ _. refl) (λ _. omega (arith, at, count, reach))
      (λ bound before after track given keeps e next repeats. repeated queue before after track Nothing bound given (repeats refl) keeps))
      before mine after bound given tracks refl keeps
