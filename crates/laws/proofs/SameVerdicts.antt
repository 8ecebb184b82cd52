-- A verdict that looks back no further than to a step at which nothing was under way is the same in two windows that see the same from there on.
use Rattle.std.proofs.Common.{◌≡◌, ℕ, ◌+◌, ◌-◌, ◌<◌, ◌≤◌, ◌⊎◌, inl, inr, Bool, List, [], ◌++◌, length, refl, sym, ap, ap₂, subst, ◌∙◌, arith}
use Rattle.std.specs.Prelude.{◌↔◌, Option, None, Some, IsSomeAnd, slice_get}
use Rattle.mtl_formulas.specs.FormulaTree.{FormulaTree}
use Rattle.mtl_formulas.specs.FormulaMeasures.{reach_of}
use Rattle.mtl_formulas.specs.declared.atom.Atom.{Atom}
use Rattle.mtl_formulas.specs.declared.verdict.Verdict.{Verdict}
use Rattle.mtl_formulas.specs.Traces.{Trace, value_in}
use Rattle.rule_set.specs.NamedTrees.{rule_at}
use Rattle.encounters.specs.Engagement.{IsState, seen_at}
use Rattle.encounters.specs.declared.engagement_state.EngagementState.{EngagementState}
use Rattle.encounters.specs.declared.engagement_state.EngagementState.TheVariants as state
use Rattle.encounters.specs.declared.pair_step.PairStep.{PairStep}
use Rattle.meetings.specs.Atoms.{AreAnswers, IsRankedRow}
use Rattle.meetings.specs.Ranks.{beginning_at}
use Rattle.meetings.specs.Terms.{Terms}
use Rattle.meetings.specs.Traces.{IsContactAt}
use Rattle.meetings.specs.declared.by_rank.ByRank.{ByRank}
use Rattle.meetings.specs.declared.pair.Pair.{Pair}
use Rattle.meetings.proofs.ForCallers.{same_answers, steps_from-length}
use Rattle.meetings.proofs.SomeRows.{some_rows}
use Rattle.audit_rows.specs.Order.{last_step_of}
use Rattle.audit_rows.specs.Rows.{TellsStretch}
use Rattle.audit_rows.specs.Stretches.{mark_at}
use Rattle.audit_rows.specs.declared.mark.Mark.{Mark}
use Rattle.audit_rows.specs.declared.row.Row.{Row}
use Rattle.audit_rows.specs.declared.row.Row.TheVariants as row
use Rattle.audit_rows.specs.declared.topic.Topic.{Topic}
use Rattle.audit_rows.specs.declared.topic.Topic.TheVariants.{Verdict as OfVerdict}
use Rattle.auditor.specs.AuditRows.{IsAuditRow}
use Rattle.auditor.specs.AuditTracks.{AreMarksOf, AreRuleMarks, IsTraceOf}
use Rattle.auditor.specs.SettledRows.{audit_reach}
use Rattle.auditor.specs.ValueMarks.{mark_of}
use Rattle.traces.specs.Audited.{AuditNumbers, Begins, Sighting, rank_in, seen_state_at, sighting_at, terms_of, trace_ranks, trace_steps}
use Rattle.traces.specs.PairRanks.{by_rank_of}
use Rattle.settling.proofs.ForCallers.{go_on}
use Rattle.laws.specs.Lookback.{lookback_of}
use Rattle.laws.specs.Reported.{pair_of}
use Rattle.laws.specs.Windows.{AreEngagedAt, BeginsAnew, HaveMetBy, IsRankedAlike, IsSeenAlike, LooksBackTo, moved, over}
use Rattle.laws.proofs.Contacts.{FirstContact, contact_same, first_contact, step_same}
use Rattle.laws.proofs.Engagements.{AgreeFrom, IsNew, agree_for, begun_since, state_moved}
use Rattle.laws.proofs.SameMeetings.{anew_later, step_seen, window_engaged}
use Rattle.laws.proofs.SameTraces.{reach_within}
use Rattle.laws.proofs.ShiftedValues.{value_shifted}

early : (m n : ℕ) → (m < n) ⊎ (n ≤ m)
early m n = grind arith

-- ---- a verdict's row, by its track

pub record VerdictTrack (numbers : AuditNumbers) (ticks : List Sighting) (pair : Pair) (rule : ℕ) (undecided : Bool) (first last : ℕ) : Type 0 where
  pub start : ℕ
  pub marks : List Mark
  pub are : AreRuleMarks numbers ticks pair rule start marks
  pub from : ℕ
  pub to : ℕ
  pub tells : TellsStretch (record { topic = OfVerdict pair rule; first = start; marks = marks }) (row.Verdict pair rule undecided first last) from to

track_of : (numbers : AuditNumbers) (ticks : List Sighting) (pair : Pair) (rule : ℕ) (undecided : Bool) (first last : ℕ) (topic : Topic) (start : ℕ) (marks : List Mark) (from to : ℕ)
    → OfVerdict pair rule ≡ topic → AreMarksOf numbers ticks topic start marks
    → TellsStretch (record { topic = topic; first = start; marks = marks }) (row.Verdict pair rule undecided first last) from to
    → VerdictTrack numbers ticks pair rule undecided first last
track_of numbers ticks pair rule undecided first last topic start marks from to same are tells =
    record {
      start = start;
      marks = marks;
      are = subst (λ (t : Topic). AreMarksOf numbers ticks t start marks) (sym same) are;
      from = from;
      to = to;
      tells = subst (λ (t : Topic). TellsStretch (record { topic = t; first = start; marks = marks }) (row.Verdict pair rule undecided first last) from to) (sym same) tells;
    }

verdict_track : (numbers : AuditNumbers) (ticks : List Sighting) (pair : Pair) (rule : ℕ) (undecided : Bool) (first last : ℕ)
    → IsAuditRow numbers ticks (row.Verdict pair rule undecided first last) → VerdictTrack numbers ticks pair rule undecided first last
verdict_track numbers ticks pair rule undecided first last (track, (is, (from, to, tells))) =
    track_of numbers ticks pair rule undecided first last track.topic track.first track.marks from to tells.topic is tells

-- Two rows of two traces' steps, where the one is also the other's.
same_answered : (terms : Terms) (ranks told : ℕ → ByRank) (steps others : List (Option PairStep)) (i j : ℕ) (o p : Option (Atom → Verdict))
    → ((answers : Atom → Verdict) → IsRankedRow terms ranks steps i answers → IsRankedRow terms told others j answers)
    → IsSomeAnd o (IsRankedRow terms ranks steps i) → IsSomeAnd p (IsRankedRow terms told others j) → o ≡ p
same_answered terms ranks told steps others i j None p too row other = absurd row
same_answered terms ranks told steps others i j (Some answers) None too row other = absurd other
same_answered terms ranks told steps others i j (Some answers) (Some replies) too row other =
    ap Some (same_answers terms told others j answers replies (too answers row) other)

-- ---- two windows that see the same from a step on: tick x + k of the one is tick y + k of the other

module _ (numbers : AuditNumbers) (pair : Pair) (xs ys : List Sighting) (x y n : ℕ) (in_x : x + n + 1 < length xs) (in_y : y + n + 1 < length ys)
    (subject : (k : ℕ) → k ≤ n + 1 → seen_state_at xs pair.subject (x + k) ≡ seen_state_at ys pair.subject (y + k))
    (other : (k : ℕ) → k ≤ n + 1 → seen_state_at xs pair.other (x + k) ≡ seen_state_at ys pair.other (y + k))
    (subject_rank : (k : ℕ) → k ≤ n + 1 → rank_in pair.subject (sighting_at xs (x + k)) ≡ rank_in pair.subject (sighting_at ys (y + k)))
    (other_rank : (k : ℕ) → k ≤ n + 1 → rank_in pair.other (sighting_at xs (x + k)) ≡ rank_in pair.other (sighting_at ys (y + k)))
    (anew_x : BeginsAnew numbers xs pair x) (anew_y : BeginsAnew numbers ys pair y)
    (sx sy p q : ℕ) (at_x : sx + p ≡ x) (at_y : sy + q ≡ y)
    (begins_x : Begins (over xs numbers) xs pair sx) (begins_y : Begins (over ys numbers) ys pair sy) where
  steps_x : List (Option PairStep)
  steps_x = trace_steps numbers xs pair sx

  steps_y : List (Option PairStep)
  steps_y = trace_steps numbers ys pair sy

  alike : AgreeFrom steps_x steps_y p q n
  unfolding steps_x steps_y
  alike = record {
    each = λ j le.
        let x0 : sx + (p + j) ≡ x + j = omega arith in
        let x1 : sx + (p + j) + 1 ≡ x + (j + 1) = omega arith in
        let y0 : y + j ≡ sy + (q + j) = omega arith in
        let y1 : y + (j + 1) ≡ sy + (q + j) + 1 = omega arith in
        step_seen xs pair sx (length xs - 1 - sx) (p + j) (omega arith)
        ∙ (step_same
        (ap (seen_state_at xs pair.subject) x0 ∙ (subject j (omega arith) ∙ ap (seen_state_at ys pair.subject) y0))
        (ap (seen_state_at xs pair.other) x0 ∙ (other j (omega arith) ∙ ap (seen_state_at ys pair.other) y0))
        (ap (seen_state_at xs pair.subject) x1 ∙ (subject (j + 1) (omega arith) ∙ ap (seen_state_at ys pair.subject) y1))
        (ap (seen_state_at xs pair.other) x1 ∙ (other (j + 1) (omega arith) ∙ ap (seen_state_at ys pair.other) y1))
        ∙ sym (step_seen ys pair sy (length ys - 1 - sy) (q + j) (omega arith)));
  }

  new_x : IsNew numbers.detect steps_x p
  unfolding steps_x
  new_x = record {
    quiet = λ lt engaged.
        let there : sx + (p - 1) ≡ x - 1 = omega arith in
        anew_x (omega arith) (subst (AreEngagedAt numbers xs pair) there (window_engaged numbers xs pair sx begins_x (p - 1) engaged));
  }

  new_y : IsNew numbers.detect steps_y q
  unfolding steps_y
  new_y = record {
    quiet = λ lt engaged.
        let there : sy + (q - 1) ≡ y - 1 = omega arith in
        anew_y (omega arith) (subst (AreEngagedAt numbers ys pair) there (window_engaged numbers ys pair sy begins_y (q - 1) engaged));
  }

  -- what the ranks say at a step
  same_rank : (k : ℕ) → k ≤ n → trace_ranks xs pair sx (p + k) ≡ trace_ranks ys pair sy (q + k)
  same_rank k le =
      let x0 : sx + (p + k) ≡ x + k = omega arith in
      let y0 : y + k ≡ sy + (q + k) = omega arith in
      ap₂ by_rank_of
      (ap (λ (i : ℕ). rank_in pair.subject (sighting_at xs i)) x0 ∙ (subject_rank k (omega arith) ∙ ap (λ (i : ℕ). rank_in pair.subject (sighting_at ys i)) y0))
      (ap (λ (i : ℕ). rank_in pair.other (sighting_at xs i)) x0 ∙ (other_rank k (omega arith) ∙ ap (λ (i : ℕ). rank_in pair.other (sighting_at ys i)) y0))

  -- and where the engagement at it began
  begun_alike : (k : ℕ) → k ≤ n → (now : EngagementState) → IsState numbers.detect steps_x (p + k) now
      → trace_ranks xs pair sx (beginning_at (p + k) now) ≡ trace_ranks ys pair sy (beginning_at (q + k) now)
  begun_alike k le state.Apart is = same_rank k le
  begun_alike k le (state.Engaged kind age a b) is =
      let lasted : age ≤ k = begun_since numbers.detect steps_x p k kind age a b new_x is in
      let x0 : p + k - age ≡ p + (k - age) = omega arith in
      let y0 : q + (k - age) ≡ q + k - age = omega arith in
      ap (trace_ranks xs pair sx) x0 ∙ (same_rank (k - age) (omega arith) ∙ ap (trace_ranks ys pair sy) y0)

  row_too : (k : ℕ) → k ≤ n → (answers : Atom → Verdict) → IsRankedRow (terms_of numbers) (trace_ranks xs pair sx) steps_x (p + k) answers
      → IsRankedRow (terms_of numbers) (trace_ranks ys pair sy) steps_y (q + k) answers
  row_too k le answers row = record {
    state = row.state;
    is_state = state_moved numbers.detect steps_x steps_y p q k row.state (agree_for steps_x steps_y p q n k le alike) new_x new_y row.is_state;
    values = subst (λ (seen : Option PairStep). AreAnswers (terms_of numbers) (trace_ranks ys pair sy (beginning_at (q + k) row.state)) row.state seen answers) (alike.each k le)
        (subst (λ (ranks : ByRank). AreAnswers (terms_of numbers) ranks row.state (seen_at steps_x (p + k)) answers) (begun_alike k le row.state row.is_state) row.values);
  }

  module _ (trace reply : Trace) (is_x : IsTraceOf (over xs numbers) xs pair sx trace) (is_y : IsTraceOf (over ys numbers) ys pair sy reply) where
    answers_alike : (k : ℕ) → k ≤ n → slice_get trace (p + k) ≡ slice_get reply (q + k)
    unfolding steps_x steps_y
    answers_alike k le =
        let long_x : length (trace_steps numbers xs pair sx) ≡ length xs - 1 - sx =
        steps_from-length (seen_state_at xs pair.subject) (seen_state_at xs pair.other) sx (length xs - 1 - sx) in
        let long_y : length (trace_steps numbers ys pair sy) ≡ length ys - 1 - sy =
        steps_from-length (seen_state_at ys pair.subject) (seen_state_at ys pair.other) sy (length ys - 1 - sy) in
        same_answered (terms_of numbers) (trace_ranks xs pair sx) (trace_ranks ys pair sy) steps_x steps_y (p + k) (q + k) (slice_get trace (p + k)) (slice_get reply (q + k))
        (row_too k le) (is_x.rows.each (p + k) (omega arith)) (is_y.rows.each (q + k) (omega arith))

    pub values_alike : (tree : FormulaTree) (j : ℕ) → lookback_of tree ≤ j → j + reach_of tree ≤ n → value_in trace tree (p + j) ≡ value_in reply tree (q + j)
    values_alike tree = value_shifted trace reply p q n answers_alike tree

-- ---- the row across two windows

module _ (numbers : AuditNumbers) (pair : Pair) (rule : ℕ) (undecided : Bool) (xs ys : List Sighting) (x y len back n : ℕ) (in_x : x + n + 1 < length xs) (in_y : y + n + 1 < length ys)
    (subject : (k : ℕ) → k ≤ n + 1 → seen_state_at xs pair.subject (x + k) ≡ seen_state_at ys pair.subject (y + k))
    (other : (k : ℕ) → k ≤ n + 1 → seen_state_at xs pair.other (x + k) ≡ seen_state_at ys pair.other (y + k))
    (subject_rank : (k : ℕ) → k ≤ n + 1 → rank_in pair.subject (sighting_at xs (x + k)) ≡ rank_in pair.subject (sighting_at ys (y + k)))
    (other_rank : (k : ℕ) → k ≤ n + 1 → rank_in pair.other (sighting_at xs (x + k)) ≡ rank_in pair.other (sighting_at ys (y + k)))
    (anew_x : BeginsAnew numbers xs pair x) (anew_y : BeginsAnew numbers ys pair y)
    (met_x : (i : ℕ) × ((i ≤ x) × IsContactAt (seen_state_at xs pair.subject) (seen_state_at xs pair.other) numbers.detect.watch i))
    (met_y : (i : ℕ) × ((i ≤ y) × IsContactAt (seen_state_at ys pair.subject) (seen_state_at ys pair.other) numbers.detect.watch i))
    (first_x last_x first_y last_y : ℕ) (begin_x : first_x ≡ x + back) (end_x : last_x ≡ x + back + len) (begin_y : first_y ≡ y + back) (end_y : last_y ≡ y + back + len)
    (looks : lookback_of (rule_at numbers.rules rule).tree < back) (far : back + len + 1 + reach_of (rule_at numbers.rules rule).tree ≤ n)
    (t : VerdictTrack (over xs numbers) xs pair rule undecided first_x last_x) where
  tree : FormulaTree
  tree = (rule_at numbers.rules rule).tree

  since_x : t.start ≤ x
  since_x =
      let (i, (le, near)) = met_x in
      elim (early i t.start) [ inl before ↦ absurd (t.are.of.begins.begins.least i before near) | inr since ↦ omega arith ]

  begun_y : FirstContact (seen_state_at ys pair.subject) (seen_state_at ys pair.other) numbers.detect.watch met_y.0
  begun_y = first_contact (seen_state_at ys pair.subject) (seen_state_at ys pair.other) numbers.detect.watch met_y.0 met_y.1.1

  module _ (sy : ℕ) (since_y : sy ≤ y) (begins_y : Begins (over ys numbers) ys pair sy) where
    p : ℕ
    p = x - t.start

    q : ℕ
    q = y - sy

    at_x : t.start + p ≡ x
    unfolding p
    at_x = let since = since_x in omega arith

    at_y : sy + q ≡ y
    unfolding q
    at_y = omega arith

    reply : Trace
    reply = (some_rows (terms_of numbers) (trace_ranks ys pair sy) (trace_steps numbers ys pair sy)).0

    is_y : IsTraceOf (over ys numbers) ys pair sy reply
    unfolding reply
    is_y = record { begins = begins_y; rows = (some_rows (terms_of numbers) (trace_ranks ys pair sy) (trace_steps numbers ys pair sy)).1 }

    count_y : length reply ≡ length ys - 1 - sy
    count_y = is_y.rows.count ∙ steps_from-length (seen_state_at ys pair.subject) (seen_state_at ys pair.other) sy (length ys - 1 - sy)

    count_x : length t.marks ≡ length xs - 1 - t.start
    count_x = t.are.count ∙ (t.are.of.rows.count ∙ steps_from-length (seen_state_at xs pair.subject) (seen_state_at xs pair.other) t.start (length xs - 1 - t.start))

    from_is : t.from ≡ p + back
    from_is = let at = at_x in let first = t.tells.first in omega arith

    to_is : t.to ≡ p + back + len
    to_is = let at = at_x in let last = t.tells.last in omega arith

    module _ (marks : List Mark) (count : length marks ≡ length reply) (each : (i : ℕ) → i < length marks → mark_at marks i ≡ mark_of (value_in reply (rule_at numbers.rules rule).tree i)) where
      same_mark : (j : ℕ) → lookback_of (rule_at numbers.rules rule).tree ≤ j → j ≤ back + len + 1 → mark_at marks (q + j) ≡ mark_at t.marks (p + j)
      same_mark j from to =
          let long_x = count_x in
          let long_y = count_y in
          let is_at_x = at_x in
          let is_at_y = at_y in
          each (q + j) (omega arith)
          ∙ (ap mark_of (sym (values_alike numbers pair xs ys x y n in_x in_y subject other subject_rank other_rank anew_x anew_y t.start sy p q at_x at_y t.are.of.begins begins_y
          t.are.trace reply t.are.of is_y (rule_at numbers.rules rule).tree j from (omega arith)))
          ∙ sym (t.are.each (p + j) (omega arith)))

      -- the same at any index behind q
      same_at : (k : ℕ) → q + lookback_of (rule_at numbers.rules rule).tree ≤ k → k ≤ q + (back + len + 1) → mark_at marks k ≡ mark_at t.marks (p + (k - q))
      same_at k from to =
          let there : k ≡ q + (k - q) = omega arith in
          ap (mark_at marks) there ∙ same_mark (k - q) (omega arith) (omega arith)

      are_y : AreRuleMarks (over ys numbers) ys pair rule sy marks
      are_y = record { within = t.are.within; trace = reply; of = is_y; count = count; each = each }

      first_is : first_y ≡ sy + (q + back)
      first_is = let at = at_y in omega arith

      last_is : last_y ≡ sy + (q + back + len)
      last_is = let at = at_y in omega arith

      long_enough : q + back + len < length marks
      long_enough = let long = count_y in let at = at_y in omega arith

      tells_y : TellsStretch (record { topic = OfVerdict pair rule; first = sy; marks = marks }) (row.Verdict pair rule undecided first_y last_y) (q + back) (q + back + len)
      tells_y =
          let from = from_is in
          let to = to_is in
          record {
            topic = refl;
            first = first_is;
            last = last_is;
            stretch = record {
              ordered = omega arith;
              within = long_enough;
              each = λ k lower upper. same_at k (omega arith) (omega arith) ∙ t.tells.stretch.each (p + (k - q)) (omega arith) (omega arith);
              before = λ lt is.
                  let there : p + ((q + back - 1) - q) ≡ t.from - 1 = omega arith in
                  t.tells.stretch.before (omega arith) (ap (mark_at t.marks) (sym there) ∙ (sym (same_at (q + back - 1) (omega arith) (omega arith)) ∙ is));
              after = λ lt is.
                  let there : p + ((q + back + len + 1) - q) ≡ t.to + 1 = omega arith in
                  let long_x = count_x in
                  let at = at_x in
                  t.tells.stretch.after (omega arith) (ap (mark_at t.marks) (sym there) ∙ (sym (same_at (q + back + len + 1) (omega arith) (omega arith)) ∙ is));
            };
            measures = tt;
          }

    row_y : IsAuditRow (over ys numbers) ys (row.Verdict pair rule undecided first_y last_y)
    row_y =
        let more = go_on (λ i mark. mark ≡ mark_of (value_in reply (rule_at numbers.rules rule).tree i)) (λ i. (mark_of (value_in reply (rule_at numbers.rules rule).tree i), refl))
        [] (length reply) (omega arith) (λ i lt. absurd (omega arith)) in (
          record { topic = OfVerdict pair rule; first = sy; marks = [] ++ more.rest },
          (are_y ([] ++ more.rest) more.count more.each, (q + back, q + back + len, tells_y ([] ++ more.rest) more.count more.each)),
        )

  pub verdict_there : IsAuditRow (over ys numbers) ys (row.Verdict pair rule undecided first_y last_y)
  verdict_there =
      let begin = begun_y in
      let by = begin.by in
      let within = met_y.1.0 in
      row_y begin.start (omega arith)
      (record { audited = t.are.of.begins.audited; begins = record { before_end = omega arith; contact = begin.contact; least = begin.least } })

-- ---- the law

verdicts : (numbers : AuditNumbers) (behind : ℕ) (earlier later : List Sighting) (step : ℕ) (pair : Pair) (rule : ℕ) (undecided : Bool) (first last : ℕ)
    → IsSeenAlike behind earlier later pair.subject → IsSeenAlike behind earlier later pair.other
    → IsRankedAlike behind earlier later pair.subject → IsRankedAlike behind earlier later pair.other
    → HaveMetBy numbers later pair step → BeginsAnew numbers earlier pair (behind + step)
    → step + lookback_of (rule_at numbers.rules rule).tree < first
    → last + audit_reach numbers + 2 < length later → behind + last + audit_reach numbers + 2 < length earlier
    → IsAuditRow (over earlier numbers) earlier (row.Verdict pair rule undecided (behind + first) (behind + last))
    ↔ IsAuditRow (over later numbers) later (row.Verdict pair rule undecided first last)
verdicts numbers behind earlier later step pair rule undecided first last subject other subject_rank other_rank (i, (le, near)) anew looks in_later in_earlier = (
  (λ is.
      let t = verdict_track (over earlier numbers) earlier pair rule undecided (behind + first) (behind + last) is in
      let reach = reach_within numbers.rules rule t.are.within in
      let ordered = t.tells.stretch.ordered in
      let begins = t.tells.first in
      let ends = t.tells.last in
      let fits : first ≤ last = omega arith in
      let back : ℕ = first - step in
      let len : ℕ = last - first in
      let n : ℕ = last - step + 1 + audit_reach numbers in
      let e = λ (k : ℕ). shift behind step k in
      verdict_there numbers pair rule undecided earlier later (behind + step) step len back n (omega arith) (omega arith)
      (λ k below. ap (seen_state_at earlier pair.subject) (e k) ∙ subject (step + k) (omega arith) (omega arith))
      (λ k below. ap (seen_state_at earlier pair.other) (e k) ∙ other (step + k) (omega arith) (omega arith))
      (λ k below. ap (λ (j : ℕ). rank_in pair.subject (sighting_at earlier j)) (e k) ∙ subject_rank (step + k) (omega arith) (omega arith))
      (λ k below. ap (λ (j : ℕ). rank_in pair.other (sighting_at earlier j)) (e k) ∙ other_rank (step + k) (omega arith) (omega arith))
      anew (anew_later numbers behind earlier later pair subject other step last (omega arith) (omega arith) (omega arith) anew)
      (behind + i, (omega arith, contact_same numbers.detect.watch (sym (subject i (omega arith) (omega arith))) (sym (other i (omega arith) (omega arith))) near)) (i, (le, near))
      (behind + first) (behind + last) first last (omega arith) (omega arith) (omega arith) (omega arith) (omega arith) (omega arith) t),
  (λ is.
      let t = verdict_track (over later numbers) later pair rule undecided first last is in
      let reach = reach_within numbers.rules rule t.are.within in
      let ordered = t.tells.stretch.ordered in
      let begins = t.tells.first in
      let ends = t.tells.last in
      let fits : first ≤ last = omega arith in
      let back : ℕ = first - step in
      let len : ℕ = last - first in
      let n : ℕ = last - step + 1 + audit_reach numbers in
      let e = λ (k : ℕ). shift behind step k in
      verdict_there numbers pair rule undecided later earlier step (behind + step) len back n (omega arith) (omega arith)
      (λ k below. sym (subject (step + k) (omega arith) (omega arith)) ∙ ap (seen_state_at earlier pair.subject) (sym (e k)))
      (λ k below. sym (other (step + k) (omega arith) (omega arith)) ∙ ap (seen_state_at earlier pair.other) (sym (e k)))
      (λ k below. sym (subject_rank (step + k) (omega arith) (omega arith)) ∙ ap (λ (j : ℕ). rank_in pair.subject (sighting_at earlier j)) (sym (e k)))
      (λ k below. sym (other_rank (step + k) (omega arith) (omega arith)) ∙ ap (λ (j : ℕ). rank_in pair.other (sighting_at earlier j)) (sym (e k)))
      (anew_later numbers behind earlier later pair subject other step last (omega arith) (omega arith) (omega arith) anew) anew
      (i, (le, near)) (behind + i, (omega arith, contact_same numbers.detect.watch (sym (subject i (omega arith) (omega arith))) (sym (other i (omega arith) (omega arith))) near))
      first last (behind + first) (behind + last) (omega arith) (omega arith) (omega arith) (omega arith) (omega arith) (omega arith) t),
)
  where
    shift : (b s k : ℕ) → b + s + k ≡ b + (s + k)
    shift b s k = omega arith

pub verdicts_of_windows : (numbers : AuditNumbers) (behind : ℕ) (earlier later : List Sighting) (step : ℕ) (r : Row)
    → IsSeenAlike behind earlier later (pair_of r).subject → IsSeenAlike behind earlier later (pair_of r).other
    → IsRankedAlike behind earlier later (pair_of r).subject → IsRankedAlike behind earlier later (pair_of r).other
    → HaveMetBy numbers later (pair_of r) step → BeginsAnew numbers earlier (pair_of r) (behind + step) → LooksBackTo numbers step r
    → last_step_of r + audit_reach numbers + 2 < length later → behind + last_step_of r + audit_reach numbers + 2 < length earlier
    → IsAuditRow (over earlier numbers) earlier (moved behind r) ↔ IsAuditRow (over later numbers) later r
verdicts_of_windows numbers behind earlier later step (row.Meeting pair kind first last least) subject other subject_rank other_rank met anew looks in_later in_earlier = absurd looks
verdicts_of_windows numbers behind earlier later step (row.Verdict pair rule undecided first last) subject other subject_rank other_rank met anew looks in_later in_earlier =
    verdicts numbers behind earlier later step pair rule undecided first last subject other subject_rank other_rank met anew looks in_later in_earlier
