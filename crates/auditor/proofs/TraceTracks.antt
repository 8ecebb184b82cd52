-- The tracks of a trace as its steps come, and as rows pass beyond its end.
use Rattle.std.proofs.Common.{◌≡◌, ℕ, suc, ◌+◌, ◌-◌, ◌<◌, ◌≤◌, min, ◌⊎◌, inl, inr, List, [], ◌∷◌, ◌++◌, length, append_assoc, append-nil, refl, sym, ap, subst, ◌∙◌, arith, length-append}
use Rattle.std.proofs.Math.ListN.{get_or-append}
use Rattle.std.specs.Prelude.{Option, None, Some, IsSome, IsSomeAnd}
use Rattle.std.specs.List.{AllZip}
use Rattle.mtl_formulas.specs.FormulaTree.{FormulaTree}
use Rattle.mtl_formulas.specs.FormulaMeasures.{reach_of}
use Rattle.mtl_formulas.specs.declared.atom.Atom.{Atom}
use Rattle.mtl_formulas.specs.declared.verdict.Verdict.{Verdict}
use Rattle.mtl_monitor.specs.Following.{IsEnded, IsFed, formula_at}
use Rattle.mtl_monitor.specs.Reaches.{greatest_reach}
use Rattle.mtl_formulas.specs.Traces.{Trace, value_in}
use Rattle.mtl_monitor.specs.declared.program.Program.{Program}
use Rattle.mtl_monitor.specs.declared.trace_state.TraceState.{TraceState}
use Rattle.sectors.specs.declared.class.Class.{Class}
use Rattle.motion.specs.declared.leg.TickState.{TickState}
use Rattle.encounters.specs.Engagement.{IsEngaged, IsState}
use Rattle.encounters.specs.Standing.{IsStateAfter}
use Rattle.encounters.specs.declared.engagement_state.EngagementState.{EngagementState}
use Rattle.encounters.specs.declared.detect.Detect.{Detect}
use Rattle.encounters.specs.declared.engagement_state.EngagementState.TheVariants as state
use Rattle.encounters.specs.declared.pair_step.PairStep.{PairStep}
use Rattle.encounters.proofs.ForCallers.{seen_at-front, seen_at-last, state_over_more}
use Rattle.audit_rows.specs.Stretches.{MarksEngagement as IsEngagedMark, mark_at}
use Rattle.audit_rows.specs.Tracks.{Repeats, Track}
use Rattle.audit_rows.specs.declared.mark.Mark.{Mark}
use Rattle.audit_rows.specs.declared.mark.Mark.TheVariants.{Nothing, Broken, Undecided, Engaged}
use Rattle.audit_rows.specs.declared.topic.Topic.TheVariants as topic
use Rattle.meetings.specs.SinceBeginning.{kind_of}
use Rattle.meetings.specs.declared.pair.Pair.{Pair}
use Rattle.traces.specs.Known.{Known}
use Rattle.auditor.specs.AuditTracks.{IsLeastSeparation, IsMeetingMark}
use Rattle.auditor.specs.ValueMarks.{mark_of}
use Rattle.auditor.specs.Inner.RowAnswers.{Answer, AreAnswers, AwaitAll, Awaits, IsAnswer, answered, answered_all}
use Rattle.auditor.specs.TraceKeeping.{AreRuleMarksSoFar, AreRuleMarksWhole, AreRuleTracks, IsRuleTrack}

-- ---- marks

mark_front : (marks more : List Mark) (k : ℕ) → k < length marks → mark_at (marks ++ more) k ≡ mark_at marks k
mark_front marks more k lt = get_or-append marks more Nothing k lt

mark_last : (marks : List Mark) (mark : Mark) → mark_at (marks ++ mark ∷ []) (length marks) ≡ mark
mark_last [] mark = refl
mark_last (m ∷ marks) mark = mark_last marks mark

-- What holds at each of some marks, and at one more after them, holds at each of all.
pub marks_then : (P : ℕ → Mark → Type 0) (marks : List Mark) (mark : Mark) → ((i : ℕ) → i < length marks → P i (mark_at marks i)) → P (length marks) mark
    → (i : ℕ) → i < length (marks ++ mark ∷ []) → P i (mark_at (marks ++ mark ∷ []) i)
marks_then P marks mark each last i lt =
    elim (earlier_or_last i (length marks) (omega (arith, length-append marks (mark ∷ [])))) [
      | inl earlier ↦ subst (P i) (sym (mark_front marks (mark ∷ []) i earlier)) (each i earlier)
      | inr same ↦ subst (λ (k : ℕ). P k (mark_at (marks ++ mark ∷ []) k)) (sym same) (subst (P (length marks)) (sym (mark_last marks mark)) last)
    ]
  where
    earlier_or_last : (i n : ℕ) → i < n + 1 → (i < n) ⊎ (i ≡ n)
    earlier_or_last i n lt = grind arith

-- ---- the meeting's marks

pub meeting_stays : (detect : Detect) (steps more : List (Option PairStep)) (i : ℕ) (mark : Mark) → i < length steps → IsMeetingMark detect steps i mark
    → IsMeetingMark detect (steps ++ more) i mark
meeting_stays detect steps more i Nothing lt h = state_over_more detect steps more i state.Apart lt h
meeting_stays detect steps more i Broken lt h = h
meeting_stays detect steps more i Undecided lt h = h
meeting_stays detect steps more i (Engaged kind least) lt (is_kind, is_least) = (
  (is_kind.0, (state_over_more detect steps more i is_kind.0 lt is_kind.1.0, is_kind.1.1)),
  subst (λ (seen : Option PairStep). IsSomeAnd seen (λ pair. IsLeastSeparation least pair.step)) (sym (seen_at-front steps more i lt)) is_least,
)

module _ (detect : Detect) (steps : List (Option PairStep)) (seen : Option PairStep) where
  at_last_step : (state : EngagementState) → IsStateAfter detect (steps ++ seen ∷ []) state → IsState detect (steps ++ seen ∷ []) (length steps) state
  at_last_step state h =
      let last : length (steps ++ seen ∷ []) - 1 ≡ length steps = omega (arith, length-append steps (seen ∷ [])) in
      subst (λ (i : ℕ). IsState detect (steps ++ seen ∷ []) i state) last h

  pub engaged_mark : (kind : Class) (age : ℕ) (a b : TickState) (pair : PairStep) (least : ℕ) → seen ≡ Some pair → IsLeastSeparation least pair.step
      → IsStateAfter detect (steps ++ seen ∷ []) (state.Engaged kind age a b) → IsMeetingMark detect (steps ++ seen ∷ []) (length steps) (Engaged kind least)
  engaged_mark kind age a b pair least e is_least h = (
    (state.Engaged kind age a b, (at_last_step (state.Engaged kind age a b) h, refl)),
    subst (λ (o : Option PairStep). IsSomeAnd o (λ pair. IsLeastSeparation least pair.step)) (sym (seen_at-last steps seen ∙ e)) is_least,
  )

  pub unseen_mark : seen ≡ None → IsMeetingMark detect (steps ++ seen ∷ []) (length steps) Nothing
  unseen_mark e = λ engaged.
      let some : IsSome {T = PairStep} None = subst (λ (o : Option PairStep). IsSome o) (seen_at-last steps seen ∙ e) (engaged.seen (length steps) engaged.until (omega arith)) in
      cc

-- ---- the meeting's marks where the vessels are apart

module _ (detect : Detect) (steps : List (Option PairStep)) (i : ℕ) (apart : ¬ IsEngaged detect steps i) where
  no_kind : (kind : Class) (state : EngagementState) → IsState detect steps i state → kind_of state ≡ Some kind → ⊥
  no_kind kind state.Apart is e = cc
  no_kind kind (state.Engaged of age a b) is e = apart (is.begins.engaged i is.begins.until (omega arith))

  pub mark_where_apart : (mark : Mark) → IsMeetingMark detect steps i mark → mark ≡ Nothing
  mark_where_apart Nothing h = refl
  mark_where_apart Broken h = absurd h
  mark_where_apart Undecided h = absurd h
  mark_where_apart (Engaged kind least) h = absurd (no_kind kind h.0.0 h.0.1.0 h.0.1.1)

-- Where they were apart at the last step and are at the next, its mark repeats the last one.
pub apart_repeats : (detect : Detect) (steps : List (Option PairStep)) (seen : Option PairStep) (was is : EngagementState) → was ≡ state.Apart → is ≡ state.Apart
    → 0 < length steps → IsStateAfter detect steps was → IsStateAfter detect (steps ++ seen ∷ []) is
    → (mark : Mark) → IsMeetingMark detect (steps ++ seen ∷ []) (length steps) mark → (track : Track) → length track.marks ≡ length steps
    → ((i : ℕ) → i < length track.marks → IsMeetingMark detect steps i (mark_at track.marks i)) → Repeats track mark
apart_repeats detect steps seen was is e f some before after mark is_mark track count each =
    let was_apart : ¬ IsEngaged detect steps (length steps - 1) = subst (λ (s : EngagementState). IsStateAfter detect steps s) e before in
    let is_apart : ¬ IsEngaged detect (steps ++ seen ∷ []) (length steps) =
    at_last_step detect steps seen state.Apart (subst (λ (s : EngagementState). IsStateAfter detect (steps ++ seen ∷ []) s) f after) in
    let last : length track.marks - 1 ≡ length steps - 1 = omega arith in
    let is_nothing = mark_where_apart detect (steps ++ seen ∷ []) (length steps) is_apart mark is_mark in
    record {
      some = omega arith;
      same = mark_where_apart detect steps (length steps - 1) was_apart (mark_at track.marks (length track.marks - 1))
          (subst (λ (i : ℕ). IsMeetingMark detect steps i (mark_at track.marks (length track.marks - 1))) last (each (length track.marks - 1) (omega arith))) ∙ sym is_nothing;
      quiet = subst (λ (m : Mark). ¬ IsEngagedMark m) (sym is_nothing) (λ h. h);
    }

-- ---- a rule's marks

-- what the answer to a row brings to a rule's marks
abbrev pub Brings : (FormulaTree → Trace → List Mark → Type 0) → Answer → FormulaTree → Trace → List Mark → Type 0
Brings AreMarks None tree trace marks = AreMarks tree trace marks
Brings AreMarks (Some answer) tree trace marks = (answer.0 ≡ length marks) × AreMarks tree trace (marks ++ mark_of answer.1 ∷ [])

pub fed_marks : (tree : FormulaTree) (trace : Trace) (row : Atom → Verdict) (marks : List Mark) (answer : Answer) → AreRuleMarksSoFar tree trace marks
    → IsFed answer tree (trace ++ row ∷ []) → Brings AreRuleMarksSoFar answer tree (trace ++ row ∷ []) marks
fed_marks tree trace row marks None h fed =
    let count = h.count in
    record {
      count = omega (arith, length-append trace (row ∷ []));
      each = λ i lt. absurd (omega (arith, length-append trace (row ∷ [])));
    }
fed_marks tree trace row marks (Some answer) h (at, value) =
    let count = h.count in
    let place : answer.0 ≡ length marks = omega (arith, length-append trace (row ∷ [])) in (
      place,
      record {
        count = omega (arith, length-append trace (row ∷ []), length-append marks (mark_of answer.1 ∷ []));
        each = marks_then (λ i mark. (more : Trace) → mark ≡ mark_of (value_in ((trace ++ row ∷ []) ++ more) tree i)) marks (mark_of answer.1)
            (λ i lt more. h.each i lt (row ∷ more) ∙ ap (λ (rows : Trace). mark_of (value_in rows tree i)) (sym (append_assoc trace (row ∷ []) more)))
            (λ more. ap mark_of (value more) ∙ ap (λ (i : ℕ). mark_of (value_in ((trace ++ row ∷ []) ++ more) tree i)) place);
      },
    )

-- The marks of a rule where so many rows have passed beyond the trace's end.
pub record AreRuleMarksPast (past : ℕ) (tree : FormulaTree) (trace : Trace) (marks : List Mark) : Type 0 where
  pub count : length marks ≡ min (length trace) ((length trace + past) - reach_of tree)
  pub each : (i : ℕ) → i < length marks → mark_at marks i ≡ mark_of (value_in trace tree i)

none_past : (tree : FormulaTree) (trace : Trace) (marks : List Mark) → AreRuleMarksSoFar tree trace marks → AreRuleMarksPast 0 tree trace marks
none_past tree trace marks h =
    let count = h.count in
    record {
      count = omega arith;
      each = λ i lt. h.each i lt [] ∙ ap (λ (rows : Trace). mark_of (value_in rows tree i)) (append-nil trace);
    }

all_past : (past : ℕ) (tree : FormulaTree) (trace : Trace) (marks : List Mark) → reach_of tree ≤ past → AreRuleMarksPast past tree trace marks
    → AreRuleMarksWhole tree trace marks
all_past past tree trace marks le h = let count = h.count in record { count = omega arith; each = h.each }

pub ended_marks : (past : ℕ) (tree : FormulaTree) (trace : Trace) (marks : List Mark) (answer : Answer) → AreRuleMarksPast past tree trace marks
    → IsEnded answer tree trace (past + 1) → Brings (AreRuleMarksPast (past + 1)) answer tree trace marks
ended_marks past tree trace marks None h ended =
    let count = h.count in
    record {
      count = elim ended [ inl few ↦ omega arith | inr over ↦ omega arith ];
      each = h.each;
    }
ended_marks past tree trace marks (Some answer) h (at, within, value) =
    let count = h.count in
    let place : answer.0 ≡ length marks = omega arith in (
      place,
      record {
        count = omega (arith, length-append marks (mark_of answer.1 ∷ []));
        each = marks_then (λ i mark. mark ≡ mark_of (value_in trace tree i)) marks (mark_of answer.1) h.each
            (ap mark_of value ∙ ap (λ (i : ℕ). mark_of (value_in trace tree i)) place);
      },
    )

-- ---- the tracks of all rules

-- At the end no row has passed beyond it.
pub first_tracks : (known : Known) (rule : ℕ) (trees : List FormulaTree) (tracks : List Track) → AreRuleTracks AreRuleMarksSoFar known rule trees tracks
    → AreRuleTracks (AreRuleMarksPast 0) known rule trees tracks
first_tracks known rule [] [] h = tt
first_tracks known rule [] (track ∷ tracks) h = absurd h
first_tracks known rule (tree ∷ trees) [] h = absurd h
first_tracks known rule (tree ∷ trees) (track ∷ tracks) h = (
  record { topic = h.0.topic; first = h.0.first; marks = none_past tree known.trace track.marks h.0.marks },
  first_tracks known (rule + 1) trees tracks h.1,
)

-- Where as many rows have passed beyond the end as the farthest of the formulas looks ahead, all positions are marked.
pub whole_tracks : (past : ℕ) (known : Known) (rule : ℕ) (trees : List FormulaTree) (tracks : List Track) → greatest_reach trees ≤ past
    → AreRuleTracks (AreRuleMarksPast past) known rule trees tracks → AreRuleTracks AreRuleMarksWhole known rule trees tracks
whole_tracks past known rule [] [] le h = tt
whole_tracks past known rule [] (track ∷ tracks) le h = absurd h
whole_tracks past known rule (tree ∷ trees) [] le h = absurd h
whole_tracks past known rule (tree ∷ trees) (track ∷ tracks) le h = (
  record { topic = h.0.topic; first = h.0.first; marks = all_past past tree known.trace track.marks (omega arith) h.0.marks },
  whole_tracks past known (rule + 1) trees tracks (omega arith) h.1,
)

-- each formula's answer to a row, from the rule of an index on
module _ (program : Program) (values : TraceState) (formulas : List FormulaTree) (Is : Answer → FormulaTree → Type 0)
    (of : (rule : ℕ) (answer : Answer) → IsAnswer program values rule answer → Is answer (formula_at formulas rule)) where
  answers_from : (rule : ℕ) (trees : List FormulaTree) (answers : List Answer) → length answers ≡ length trees
      → ((j : ℕ) → formula_at formulas (rule + j) ≡ formula_at trees j) → AreAnswers program values rule answers → AllZip Is answers trees
  answers_from rule [] [] e same h = tt
  answers_from rule [] (answer ∷ answers) e same h = absurd (omega arith)
  answers_from rule (tree ∷ trees) [] e same h = absurd (omega arith)
  answers_from rule (tree ∷ trees) (answer ∷ answers) e same h =
      let here : rule ≡ rule + 0 = omega arith in (
        subst (Is answer) (ap (formula_at formulas) here ∙ same 0) (of rule answer h.0),
        answers_from (rule + 1) trees answers (omega arith)
            (λ j. let there : (rule + 1) + j ≡ rule + suc j = omega arith in ap (formula_at formulas) there ∙ same (suc j)) h.1,
      )

  pub answers_all : (answers : List Answer) → length answers ≡ length formulas → AreAnswers program values 0 answers → AllZip Is answers formulas
  answers_all answers e h = answers_from 0 formulas answers e (λ j. let same : 0 + j ≡ j = omega arith in ap (formula_at formulas) same) h

-- the tracks with the marks of such answers
module _ (AreMarks Others : FormulaTree → Trace → List Mark → Type 0) (old new : Known) (pair : old.pair ≡ new.pair) (start : old.start ≡ new.start)
    (Is : Answer → FormulaTree → Type 0)
    (brings : (tree : FormulaTree) (marks : List Mark) (answer : Answer) → AreMarks tree old.trace marks → Is answer tree → Brings Others answer tree new.trace marks) where
  pub one_brought : (rule : ℕ) (tree : FormulaTree) (track : Track) (answer : Answer) → IsRuleTrack AreMarks old rule tree track → Is answer tree
      → Awaits old.start answer track × IsRuleTrack Others new rule tree (answered answer track)
  one_brought rule tree track None h is = (
    tt,
    record {
      topic = h.topic ∙ ap (λ (p : Pair). topic.Verdict p rule) pair;
      first = h.first ∙ start;
      marks = brings tree track.marks None h.marks is;
    },
  )
  one_brought rule tree track (Some answer) h is =
      let b = brings tree track.marks (Some answer) h.marks is in
      let first = h.first in
      let place = b.0 in (
        omega arith,
        record {
          topic = h.topic ∙ ap (λ (p : Pair). topic.Verdict p rule) pair;
          first = h.first ∙ start;
          marks = b.1;
        },
      )

  pub all_brought : (rule : ℕ) (trees : List FormulaTree) (answers : List Answer) (tracks : List Track) → AllZip Is answers trees
      → AreRuleTracks AreMarks old rule trees tracks → AwaitAll old.start answers tracks × AreRuleTracks Others new rule trees (answered_all answers tracks)
  all_brought rule [] [] [] z h = (tt, tt)
  all_brought rule [] [] (track ∷ tracks) z h = absurd h
  all_brought rule [] (answer ∷ answers) tracks z h = absurd z
  all_brought rule (tree ∷ trees) [] tracks z h = absurd z
  all_brought rule (tree ∷ trees) (answer ∷ answers) [] z h = absurd h
  all_brought rule (tree ∷ trees) (answer ∷ answers) (track ∷ tracks) z h =
      let one = one_brought rule tree track answer h.0 z.0 in
      let rest = all_brought (rule + 1) trees answers tracks z.1 h.1 in
      ((one.0, rest.0), (one.1, rest.1))
