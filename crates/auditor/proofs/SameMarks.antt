-- There is one mark for each position of a trace.
use Rattle.std.proofs.Common.{◌≡◌, ℕ, zero, suc, ◌+◌, ◌-◌, ◌<◌, ◌≤◌, ◌⊎◌, inl, inr, List, [], ◌∷◌, ◌++◌, length, length-append, get_or, append-nil, ext_get_or, refl, sym, ap, ◌∙◌, arith}
use Rattle.std.specs.Prelude.{Option, None, Some, IsSomeAnd}
use Rattle.std.proofs.lemmas.List.{get_or_append_left, get_or-append_right}
use Rattle.std.proofs.lemmas.Option.{same_Some}
use Rattle.sectors.specs.declared.class.Class.{Class}
use Rattle.mtl_formulas.specs.FormulaTree.{FormulaTree}
use Rattle.mtl_formulas.specs.Traces.{Trace, value_in}
use Rattle.encounters.specs.Engagement.{seen_at}
use Rattle.encounters.specs.declared.detect.Detect.{Detect}
use Rattle.encounters.specs.declared.engagement_state.EngagementState.TheVariants as state
use Rattle.encounters.specs.declared.pair_step.PairStep.{PairStep}
use Rattle.encounters.proofs.OneState.{one_state}
use Rattle.meetings.specs.SinceBeginning.{kind_of}
use Rattle.audit_rows.specs.Stretches.{mark_at}
use Rattle.audit_rows.specs.declared.mark.Mark.{Mark}
use Rattle.audit_rows.specs.declared.mark.Mark.TheVariants.{Nothing, Broken, Undecided, Engaged}
use Rattle.auditor.specs.AuditTracks.{IsKind, IsLeastSeparation, IsMeetingMark}
use Rattle.auditor.specs.ValueMarks.{mark_of}
use Rattle.traces.specs.Audited.{AuditNumbers}
use Rattle.auditor.specs.TraceKeeping.{AreMeetingMarksSoFar, AreRuleMarksSoFar, AreRuleMarksWhole}

-- ---- meetings

module _ (detect : Detect) (steps : List (Option PairStep)) (i : ℕ) where
  kind_is_engaged : (kind : Class) → IsKind detect steps i kind → IsMeetingMark detect steps i Nothing → ⊥
  kind_is_engaged kind (state.Apart, (is, e)) not = absurd (cc)
  kind_is_engaged kind (state.Engaged k age a b, (is, e)) not = not (is.begins.engaged i is.begins.until (omega arith))

  one_kind : (kind other : Class) → IsKind detect steps i kind → IsKind detect steps i other → kind ≡ other
  one_kind kind other (s, (is, e)) (t, (it, f)) = same_Some kind other (sym e ∙ (ap kind_of (one_state detect steps i s t is it) ∙ f))

  both_least : (least other : ℕ) (pair : PairStep) → IsLeastSeparation least pair.step → IsLeastSeparation other pair.step → least ≡ other
  both_least least other pair h k =
      let one : least ≤ other = (k least).0 ((h least).1 (omega arith)) in
      let two : other ≤ least = (h other).0 ((k other).1 (omega arith)) in
      omega arith

  one_least : (least other : ℕ) (seen : Option PairStep) → IsSomeAnd seen (λ pair. IsLeastSeparation least pair.step) → IsSomeAnd seen (λ pair. IsLeastSeparation other pair.step) → least ≡ other
  one_least least other None h k = absurd h
  one_least least other (Some pair) h k = both_least least other pair h k

  pub one_meeting_mark : (mark other : Mark) → IsMeetingMark detect steps i mark → IsMeetingMark detect steps i other → mark ≡ other
  one_meeting_mark Broken other h k = absurd h
  one_meeting_mark Undecided other h k = absurd h
  one_meeting_mark Nothing Broken h k = absurd k
  one_meeting_mark Nothing Undecided h k = absurd k
  one_meeting_mark Nothing Nothing h k = refl
  one_meeting_mark Nothing (Engaged kind least) h k = absurd (kind_is_engaged kind k.0 h)
  one_meeting_mark (Engaged kind least) Broken h k = absurd k
  one_meeting_mark (Engaged kind least) Undecided h k = absurd k
  one_meeting_mark (Engaged kind least) Nothing h k = absurd (kind_is_engaged kind h.0 k)
  one_meeting_mark (Engaged kind least) (Engaged kind' least') h k =
      let same_kind : kind ≡ kind' = one_kind kind kind' h.0 k.0 in
      let same_least : least ≡ least' = one_least least least' (seen_at steps i) h.1 k.1 in
      cc

pub same_meeting_marks : (numbers : AuditNumbers) (steps : List (Option PairStep)) (marks others : List Mark) → AreMeetingMarksSoFar numbers steps marks → AreMeetingMarksSoFar numbers steps others → marks ≡ others
same_meeting_marks numbers steps marks others h k =
    let count = h.count in
    let other_count = k.count in
    ext_get_or Nothing marks others (omega arith) (λ i lt. one_meeting_mark numbers.detect steps i (mark_at marks i) (mark_at others i) (h.each i lt) (k.each i (omega arith)))

-- ---- rules

module _ (tree : FormulaTree) (trace : Trace) where
  pub same_rule_marks : (marks others : List Mark) → AreRuleMarksWhole tree trace marks → AreRuleMarksWhole tree trace others → marks ≡ others
  same_rule_marks marks others h k =
      let count = h.count in
      let other_count = k.count in
      ext_get_or Nothing marks others (omega arith) (λ i lt. h.each i lt ∙ sym (k.each i (omega arith)))

  -- the marks from a position on, so many of them
  marks_from : ℕ → ℕ → List Mark
  marks_from i zero = []
  marks_from i (suc count) = mark_of (value_in trace tree i) ∷ marks_from (i + 1) count

  from_length : (i count : ℕ) → length (marks_from i count) ≡ count
  unfolding marks_from
  from_length i zero = refl
  from_length i (suc count) = ap suc (from_length (i + 1) count)

  from_at : (i count k : ℕ) → k < count → get_or (marks_from i count) k Nothing ≡ mark_of (value_in trace tree (i + k))
  unfolding marks_from
  from_at i zero k lt = absurd (omega arith)
  from_at i (suc count) zero lt = let same : i ≡ i + 0 = omega arith in ap (λ (j : ℕ). mark_of (value_in trace tree j)) same
  from_at i (suc count) (suc k) lt =
      let same : (i + 1) + k ≡ i + suc k = omega arith in
      from_at (i + 1) count k (omega arith) ∙ ap (λ (j : ℕ). mark_of (value_in trace tree j)) same

  -- The marks so far go on to the marks of all positions.
  pub go_on : (marks : List Mark) → AreRuleMarksSoFar tree trace marks → (more : List Mark) × AreRuleMarksWhole tree trace (marks ++ more)
  go_on marks h =
      let n : ℕ = length marks in
      let more : List Mark = marks_from n (length trace - n) in
      let count = h.count in
      let rest : length more ≡ length trace - n = from_length n (length trace - n) in
      let whole : length (marks ++ more) ≡ length trace = omega (arith, length-append marks more) in (
        more,
        record {
          count = whole;
          each = λ i lt. elim (early i n) [
            | inl before ↦ (let was : mark_at marks i ≡ mark_of (value_in trace tree i) =
                h.each i before [] ∙ ap (λ (rows : Trace). mark_of (value_in rows tree i)) (append-nil trace) in
                get_or_append_left marks more Nothing i before ∙ was)
            | inr behind ↦ (let there : n + (i - n) ≡ i = omega arith in
                get_or-append_right marks more n i Nothing refl behind
                ∙ (from_at n (length trace - n) (i - n) (omega arith) ∙ ap (λ (j : ℕ). mark_of (value_in trace tree j)) there))
          ];
        },
      )
    where
      early : (i n : ℕ) → (i < n) ⊎ (n ≤ i)
      early i n = grind arith
