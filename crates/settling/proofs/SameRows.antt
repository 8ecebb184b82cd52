-- Whether a row is an audit's depends on the ticks alone up to the farthest rule's reach and two behind its last step.
use Rattle.std.proofs.Common.{◌≡◌, ℕ, zero, suc, ◌+◌, ◌-◌, ◌<◌, ◌≤◌, List, [], ◌∷◌, ◌++◌, length, length-take, take, drop, map, refl, sym, ap, ap₂, subst, ◌∙◌, arith}
use Rattle.std.specs.Prelude.{Option, None, Some, IsSomeAnd, slice_get}
use Rattle.std.proofs.lemmas.List.{get_or-take, take-append-drop}
use Rattle.motion.specs.declared.leg.TickState.{TickState}
use Rattle.mtl_formulas.specs.FormulaTree.{FormulaTree}
use Rattle.mtl_formulas.specs.FormulaMeasures.{reach_of as reach_of_tree}
use Rattle.mtl_formulas.specs.declared.atom.Atom.{Atom}
use Rattle.mtl_formulas.specs.declared.verdict.Verdict.{Verdict}
use Rattle.mtl_formulas.proofs.ReachLaw.{equal-AgreeAt, value_of-same}
use Rattle.mtl_monitor.specs.Reaches.{greatest_reach}
use Rattle.mtl_formulas.specs.Traces.{Trace, value_in}
use Rattle.rule_set.specs.NamedTrees.{NamedTree, rule_at}
use Rattle.encounters.specs.Engagement.{seen_at}
use Rattle.encounters.specs.declared.detect.Detect.{Detect}
use Rattle.encounters.specs.declared.pair_step.PairStep.{PairStep}
use Rattle.encounters.proofs.ForCallers.{Agree, agree_back, agree_front, engaged_of-agree, engagement_of-agree, seen_at-front}
use Rattle.meetings.specs.Atoms.{IsRankedRow}
use Rattle.meetings.specs.Terms.{Terms}
use Rattle.meetings.specs.Traces.{AreInContact, step_at, steps_from}
use Rattle.meetings.specs.declared.pair.Pair.{Pair}
use Rattle.meetings.proofs.ForCallers.{row_over_less, row_over_more, row_same_ranks, same_answers, steps_from-length, steps_from-split}
use Rattle.meetings.proofs.SomeRows.{some_rows}
use Rattle.meetings.specs.declared.by_rank.ByRank.{ByRank}
use Rattle.audit_rows.specs.Order.{first_step_of, last_step_of}
use Rattle.audit_rows.specs.Rows.{IsRowOf}
use Rattle.audit_rows.specs.Stretches.{mark_at}
use Rattle.audit_rows.specs.Tracks.{Track, next_step}
use Rattle.audit_rows.specs.declared.mark.Mark.{Mark}
use Rattle.audit_rows.specs.declared.mark.Mark.TheVariants.{Nothing, Broken, Undecided, Engaged}
use Rattle.audit_rows.specs.declared.row.Row.{Row}
use Rattle.audit_rows.specs.declared.topic.Topic.{Topic}
use Rattle.audit_rows.specs.declared.topic.Topic.TheVariants.{Meeting, Verdict as OfVerdict}
use Rattle.audit_rows.proofs.ForCallers.{row_stays, row_was, row_within}
use Rattle.auditor.specs.AuditTracks.{AreMarksOf, AreMeetingMarks, AreRuleMarks, IsLeastSeparation, IsMeetingMark, IsTraceOf}
use Rattle.traces.specs.Audited.{Begins, AuditNumbers, Sighting, rank_in, seen_state_at, sighting_at, state_in, step_of, terms_of, trace_ranks, trace_steps}
use Rattle.traces.specs.PairRanks.{by_rank_of}
use Rattle.auditor.specs.ValueMarks.{mark_of}
use Rattle.auditor.specs.AuditRows.{IsAuditRow}
use Rattle.auditor.specs.SettledRows.{audit_reach}
use Rattle.settling.proofs.MoreMarks.{go_on}
use Rattle.settling.proofs.SomeMarks.{some_mark}

-- ---- no rule looks further than the farthest

reach_within : (rules : List NamedTree) (rule : ℕ) → rule < length rules → reach_of_tree (rule_at rules rule).tree ≤ greatest_reach (map (λ (r : NamedTree). r.tree) rules)
reach_within [] rule lt = absurd (omega arith)
reach_within (r ∷ rs) zero lt = omega arith
reach_within (r ∷ rs) (suc rule) lt = let rest = reach_within rs rule (omega arith) in omega arith

-- ---- what is known at a step of a front, whatever steps come after

agreed_mark : (detect : Detect) (steps others : List (Option PairStep)) (i : ℕ) (mark : Mark) → Agree steps others i → seen_at steps i ≡ seen_at others i
    → IsMeetingMark detect steps i mark → IsMeetingMark detect others i mark
agreed_mark detect steps others i Nothing agree seen h = λ engaged. h (engaged_of-agree detect others steps i (agree_back steps others i agree) engaged)
agreed_mark detect steps others i Broken agree seen h = absurd h
agreed_mark detect steps others i Undecided agree seen h = absurd h
agreed_mark detect steps others i (Engaged kind least) agree seen ((now, (is, of)), measures) =
    ((now, (engagement_of-agree detect steps others i now agree is, of)), subst (λ (o : Option PairStep). IsSomeAnd o (λ pair. IsLeastSeparation least pair.step)) seen measures)

front_mark : (detect : Detect) (front rest others : List (Option PairStep)) (i : ℕ) (mark : Mark) → i < length front
    → IsMeetingMark detect (front ++ rest) i mark → IsMeetingMark detect (front ++ others) i mark
front_mark detect front rest others i mark lt h =
    agreed_mark detect front (front ++ others) i mark (agree_front front others i lt) (sym (seen_at-front front others i lt))
    (agreed_mark detect (front ++ rest) front i mark (agree_back front (front ++ rest) i (agree_front front rest i lt)) (seen_at-front front rest i lt) h)

steps_agree : (a b c d : ℕ → Option TickState) (i count : ℕ) → ((k : ℕ) → k < i + count → step_at a b k ≡ step_at c d k) → steps_from a b i count ≡ steps_from c d i count
steps_agree a b c d i zero same = refl
steps_agree a b c d i (suc count) same =
    ap₂ (λ (x : Option PairStep) (xs : List (Option PairStep)). x ∷ xs) (same i (omega arith)) (steps_agree a b c d (i + 1) count (λ k lt. same k (omega arith)))

-- Two steps' answers, where the one step's are also the other's.
same_answered : (terms : Terms) (ranks told : ℕ → ByRank) (steps others : List (Option PairStep)) (k : ℕ) (o p : Option (Atom → Verdict))
    → ((answers : Atom → Verdict) → IsRankedRow terms ranks steps k answers → IsRankedRow terms told others k answers)
    → IsSomeAnd o (IsRankedRow terms ranks steps k) → IsSomeAnd p (IsRankedRow terms told others k) → o ≡ p
same_answered terms ranks told steps others k None p too row other = absurd row
same_answered terms ranks told steps others k (Some answers) None too row other = absurd other
same_answered terms ranks told steps others k (Some answers) (Some replies) too row other =
    ap Some (same_answers terms told others k answers replies (too answers row) other)

-- ---- ticks that agree up to one

module _ (numbers : AuditNumbers) (ticks others : List Sighting) (until : ℕ) (here : until < length ticks) (there : until < length others)
    (agree : (k : ℕ) → k ≤ until → sighting_at ticks k ≡ sighting_at others k) where
  module _ (pair : Pair) (start : ℕ) (begun : start ≤ until) where
    pub begins_too : Begins numbers ticks pair start → Begins numbers others pair start
    begins_too h = record {
      audited = h.audited;
      begins = record {
        before_end = h.begins.before_end;
        contact = subst (λ (s : Sighting). AreInContact numbers.detect.watch (state_in pair.subject s.vessels) (state_in pair.other s.vessels)) (agree start begun) h.begins.contact;
        least = λ i lt near. h.begins.least i lt
            (subst (λ (s : Sighting). AreInContact numbers.detect.watch (state_in pair.subject s.vessels) (state_in pair.other s.vessels)) (sym (agree i (omega arith))) near);
      };
    }

    -- the steps up to the tick, and those after
    front_of : List Sighting → List (Option PairStep)
    front_of seen = steps_from (seen_state_at seen pair.subject) (seen_state_at seen pair.other) start (until - start)

    rest_of : List Sighting → List (Option PairStep)
    rest_of seen = steps_from (seen_state_at seen pair.subject) (seen_state_at seen pair.other) (start + (until - start)) (length seen - 1 - until)

    split : (seen : List Sighting) → until < length seen → trace_steps numbers seen pair start ≡ front_of seen ++ rest_of seen
    unfolding front_of rest_of
    split seen within =
        let a : ℕ → Option TickState = seen_state_at seen pair.subject in
        let b : ℕ → Option TickState = seen_state_at seen pair.other in
        let count : length seen - 1 - start ≡ (until - start) + (length seen - 1 - until) = omega arith in
        ap (steps_from a b start) count ∙ steps_from-split a b start (until - start) (length seen - 1 - until)

    same_front : front_of others ≡ front_of ticks
    unfolding front_of
    same_front =
        steps_agree (seen_state_at others pair.subject) (seen_state_at others pair.other) (seen_state_at ticks pair.subject) (seen_state_at ticks pair.other) start (until - start)
        (λ k lt. ap₂ (λ (s t : Sighting). step_of pair s.vessels t.vessels) (sym (agree k (omega arith))) (sym (agree (k + 1) (omega arith))))

    split_others : trace_steps numbers others pair start ≡ front_of ticks ++ rest_of others
    split_others = split others there ∙ ap (λ (steps : List (Option PairStep)). steps ++ rest_of others) same_front

    front_length : length (front_of ticks) ≡ until - start
    unfolding front_of
    front_length = steps_from-length (seen_state_at ticks pair.subject) (seen_state_at ticks pair.other) start (until - start)

    pub steps_length : (seen : List Sighting) → length (trace_steps numbers seen pair start) ≡ length seen - 1 - start
    steps_length seen = steps_from-length (seen_state_at seen pair.subject) (seen_state_at seen pair.other) start (length seen - 1 - start)

    mark_too : (i : ℕ) (mark : Mark) → start + i < until → IsMeetingMark numbers.detect (trace_steps numbers ticks pair start) i mark
        → IsMeetingMark numbers.detect (trace_steps numbers others pair start) i mark
    mark_too i mark lt h =
        let long = front_length in
        subst (λ (steps : List (Option PairStep)). IsMeetingMark numbers.detect steps i mark) (sym split_others)
        (front_mark numbers.detect (front_of ticks) (rest_of ticks) (rest_of others) i mark (omega arith)
        (subst (λ (steps : List (Option PairStep)). IsMeetingMark numbers.detect steps i mark) (split ticks here) h))

    -- what the ranks say at its steps, by these ticks and by the others
    ranks_here : ℕ → ByRank
    ranks_here = trace_ranks ticks pair start

    ranks_there : ℕ → ByRank
    ranks_there = trace_ranks others pair start

    same_ranks : (k : ℕ) → start + k ≤ until → ranks_here k ≡ ranks_there k
    unfolding ranks_here ranks_there
    same_ranks k le = ap (λ (s : Sighting). by_rank_of (rank_in pair.subject s) (rank_in pair.other s)) (agree (start + k) le)

    row_too : (i : ℕ) (answers : Atom → Verdict) → start + i < until → IsRankedRow (terms_of numbers) ranks_here (trace_steps numbers ticks pair start) i answers
        → IsRankedRow (terms_of numbers) ranks_there (trace_steps numbers others pair start) i answers
    row_too i answers lt h =
        let long = front_length in
        subst (λ (steps : List (Option PairStep)). IsRankedRow (terms_of numbers) ranks_there steps i answers) (sym split_others)
        (row_over_more (terms_of numbers) ranks_there (front_of ticks) (rest_of others) i answers (omega arith)
        (row_same_ranks (terms_of numbers) ranks_here ranks_there (front_of ticks) i answers (λ k le. same_ranks k (omega arith))
        (row_over_less (terms_of numbers) ranks_here (front_of ticks) (rest_of ticks) i answers (omega arith)
        (subst (λ (steps : List (Option PairStep)). IsRankedRow (terms_of numbers) ranks_here steps i answers) (split ticks here) h))))

    pub answers_too : (trace other : Trace) → IsTraceOf numbers ticks pair start trace → IsTraceOf numbers others pair start other → (k : ℕ) → start + k < until
        → slice_get trace k ≡ slice_get other k
    unfolding ranks_here ranks_there
    answers_too trace other h g k lt =
        let long = steps_length ticks in
        let other_long = steps_length others in
        same_answered (terms_of numbers) ranks_here ranks_there (trace_steps numbers ticks pair start) (trace_steps numbers others pair start) k
        (slice_get trace k) (slice_get other k) (λ answers row. row_too k answers lt row) (h.rows.each k (omega arith)) (g.rows.each k (omega arith))

    value_too : (trace other : Trace) → IsTraceOf numbers ticks pair start trace → IsTraceOf numbers others pair start other → (tree : FormulaTree) (i : ℕ)
        → start + i + reach_of_tree tree < until → value_in trace tree i ≡ value_in other tree i
    value_too trace other h g tree i lt =
        value_of-same (λ row. row) trace (λ row. row) other tree i
        (λ k below. equal-AgreeAt (λ row. row) trace other k (answers_too trace other h g k (omega arith)))

    -- The first marks of a track are those of one by the other ticks.
    meeting_too : (marks : List Mark) (n : ℕ) → start + n ≤ until → AreMeetingMarks numbers ticks pair start marks
        → (rest : List Mark) × AreMeetingMarks numbers others pair start (take n marks ++ rest)
    meeting_too marks n le h =
        let count = h.count in
        let long = steps_length ticks in
        let other_long = steps_length others in
        let taken = length-take n marks in
        let more = go_on (IsMeetingMark numbers.detect (trace_steps numbers others pair start)) (some_mark numbers.detect (trace_steps numbers others pair start))
        (take n marks) (length (trace_steps numbers others pair start)) (omega arith)
        (λ i lt. subst (IsMeetingMark numbers.detect (trace_steps numbers others pair start) i) (sym (get_or-take n marks i Nothing (omega arith)))
        (mark_too i (mark_at marks i) (omega arith) (h.each i (omega arith)))) in
        (more.rest, record { begins = begins_too h.begins; count = more.count; each = more.each })

    rule_too : (rule : ℕ) (marks : List Mark) (n : ℕ) → start + n + audit_reach numbers ≤ until → AreRuleMarks numbers ticks pair rule start marks
        → (rest : List Mark) × AreRuleMarks numbers others pair rule start (take n marks ++ rest)
    rule_too rule marks n le h =
        let tree : FormulaTree = (rule_at numbers.rules rule).tree in
        let rows = some_rows (terms_of numbers) (trace_ranks others pair start) (trace_steps numbers others pair start) in
        let other : Trace = rows.0 in
        let is : IsTraceOf numbers others pair start other = record { begins = begins_too h.of.begins; rows = rows.1 } in
        let count = h.count in
        let steps = h.of.rows.count in
        let long = steps_length ticks in
        let other_steps = is.rows.count in
        let other_long = steps_length others in
        let taken = length-take n marks in
        let reach = reach_within numbers.rules rule h.within in
        let more = go_on (λ i mark. mark ≡ mark_of (value_in other tree i)) (λ i. (mark_of (value_in other tree i), refl)) (take n marks) (length other) (omega arith)
        (λ i lt. get_or-take n marks i Nothing (omega arith) ∙ (h.each i (omega arith) ∙ ap mark_of (value_too h.trace other h.of is tree i (omega arith)))) in
        (more.rest, record { within = h.within; trace = other; of = is; count = more.count; each = more.each })

    meeting_count : (marks : List Mark) → AreMeetingMarks numbers ticks pair start marks → length marks ≡ length ticks - 1 - start
    meeting_count marks h = h.count ∙ steps_length ticks

    rule_count : (rule : ℕ) (marks : List Mark) → AreRuleMarks numbers ticks pair rule start marks → length marks ≡ length ticks - 1 - start
    rule_count rule marks h = h.count ∙ (h.of.rows.count ∙ steps_length ticks)

  marks_too : (topic : Topic) (first : ℕ) (marks : List Mark) (n : ℕ) → first + n + audit_reach numbers ≤ until → AreMarksOf numbers ticks topic first marks
      → (rest : List Mark) × AreMarksOf numbers others topic first (take n marks ++ rest)
  marks_too (Meeting pair) first marks n le h = meeting_too pair first (omega arith) marks n (omega arith) h
  marks_too (OfVerdict pair rule) first marks n le h = rule_too pair first (omega arith) rule marks n le h

  marks_count : (topic : Topic) (first : ℕ) (marks : List Mark) → first ≤ until → AreMarksOf numbers ticks topic first marks → length marks ≡ length ticks - 1 - first
  marks_count (Meeting pair) first marks le h = meeting_count pair first le marks h
  marks_count (OfVerdict pair rule) first marks le h = rule_count pair first le rule marks h

-- A row of the audit of ticks is one of the audit of other ticks that agree up to the farthest rule's reach and two behind its last step.
pub same_row : (numbers : AuditNumbers) (ticks others : List Sighting) (row : Row)
    → last_step_of row + audit_reach numbers + 2 < length ticks → last_step_of row + audit_reach numbers + 2 < length others
    → ((k : ℕ) → k ≤ last_step_of row + audit_reach numbers + 2 → sighting_at ticks k ≡ sighting_at others k)
    → IsAuditRow numbers ticks row → IsAuditRow numbers others row
same_row numbers ticks others row here there agree (track, (is, of)) =
    let until : ℕ = last_step_of row + audit_reach numbers + 2 in
    let within : (track.first ≤ first_step_of row) × (first_step_of row ≤ last_step_of row) × (last_step_of row < next_step track) = row_within track row of in
    let from = within.0 in
    let ordered = within.1 in
    let n : ℕ = (last_step_of row + 2) - track.first in
    let count = marks_count numbers ticks others until here there agree track.topic track.first track.marks (omega arith) is in
    let more = marks_too numbers ticks others until here there agree track.topic track.first track.marks n (omega arith) is in
    let front : Track = record track { marks = take n track.marks } in
    let taken = length-take n track.marks in
    let known : last_step_of row + 1 < track.first + length (take n track.marks) = omega arith in
    let whole : IsRowOf (record front { marks = front.marks ++ drop n track.marks }) row =
    subst (λ (marks : List Mark). IsRowOf (record track { marks = marks }) row) (sym (take-append-drop n track.marks)) of in
    let told : IsRowOf front row = row_was front (drop n track.marks) row known whole in
    (record front { marks = front.marks ++ more.0 }, (more.1, row_stays front more.0 row known told))
