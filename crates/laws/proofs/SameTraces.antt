-- If a pair first comes into contact after two windows have begun, its rows are the same in both.
use Rattle.std.proofs.Common.{◌≡◌, ℕ, zero, suc, ◌+◌, ◌-◌, ◌<◌, ◌≤◌, ◌⊎◌, inl, inr, List, [], ◌∷◌, ◌++◌, length, length-take, take, drop, map, refl, sym, ap, ap₂, subst, ◌∙◌, arith}
use Rattle.std.specs.Prelude.{◌↔◌, Option, None, Some, IsSomeAnd, slice_get}
use Rattle.std.proofs.lemmas.List.{get_or-take, take-append-drop}
use Rattle.motion.specs.declared.leg.TickState.{TickState}
use Rattle.mtl_formulas.specs.FormulaTree.{FormulaTree}
use Rattle.mtl_formulas.specs.FormulaMeasures.{reach_of as reach_of_tree}
use Rattle.mtl_formulas.specs.declared.atom.Atom.{Atom}
use Rattle.mtl_formulas.specs.declared.verdict.Verdict.{Verdict}
use Rattle.mtl_formulas.proofs.ReachLaw.{equal-AgreeAt, value_of-same}
use Rattle.mtl_monitor.specs.Reaches.{greatest_reach}
use Rattle.mtl_formulas.specs.Traces.{Trace, value_in}
use Rattle.rule_set.specs.NamedTrees.{NamedTree, rule_at}
use Rattle.encounters.specs.Engagement.{seen_at}
use Rattle.encounters.specs.declared.detect.Detect.{Detect}
use Rattle.encounters.specs.declared.pair_step.PairStep.{PairStep}
use Rattle.encounters.proofs.ForCallers.{Agree, agree_back as agree_swapped, agree_front, engaged_of-agree, engagement_of-agree, seen_at-front}
use Rattle.meetings.specs.Atoms.{IsRankedRow}
use Rattle.meetings.specs.Terms.{Terms}
use Rattle.meetings.specs.Traces.{IsContactAt, step_at, steps_from}
use Rattle.meetings.specs.declared.by_rank.ByRank.{ByRank}
use Rattle.meetings.specs.declared.pair.Pair.{Pair}
use Rattle.meetings.proofs.ForCallers.{row_over_less, row_over_more, row_same_ranks, same_answers, steps_from-length, steps_from-split}
use Rattle.meetings.proofs.SomeRows.{some_rows}
use Rattle.audit_rows.specs.Order.{first_step_of, last_step_of}
use Rattle.audit_rows.specs.Rows.{IsRowOf}
use Rattle.audit_rows.specs.Stretches.{mark_at}
use Rattle.audit_rows.specs.Tracks.{Track, next_step}
use Rattle.audit_rows.specs.declared.mark.Mark.{Mark}
use Rattle.audit_rows.specs.declared.mark.Mark.TheVariants.{Nothing, Broken, Undecided, Engaged}
use Rattle.audit_rows.specs.declared.row.Row.{Row}
use Rattle.audit_rows.specs.declared.row.Row.TheVariants as row
use Rattle.audit_rows.specs.declared.topic.Topic.{Topic}
use Rattle.audit_rows.specs.declared.topic.Topic.TheVariants.{Meeting, Verdict as OfVerdict}
use Rattle.audit_rows.proofs.ForCallers.{row_stays, row_was, row_within}
use Rattle.auditor.specs.AuditRows.{IsAuditRow}
use Rattle.auditor.specs.AuditTracks.{AreMarksOf, AreMeetingMarks, AreRuleMarks, IsLeastSeparation, IsMeetingMark, IsTraceOf}
use Rattle.auditor.specs.SettledRows.{audit_reach}
use Rattle.auditor.specs.Tallies.{pair_of as topic_pair}
use Rattle.auditor.specs.ValueMarks.{mark_of}
use Rattle.traces.specs.Audited.{AuditNumbers, Begins, Sighting, rank_in, seen_state_at, sighting_at, terms_of, trace_ranks, trace_steps}
use Rattle.traces.specs.PairRanks.{by_rank_of}
use Rattle.settling.proofs.ForCallers.{go_on, some_mark}
use Rattle.laws.specs.Reported.{pair_of}
use Rattle.laws.specs.Windows.{IsRankedAlike, IsSeenAlike, ComeIntoContactBehind, moved, over}
use Rattle.laws.proofs.Contacts.{contact_same, step_same}
use Rattle.laws.proofs.OtherSubjects.{same_pair}

-- ---- no rule looks further than the farthest

pub reach_within : (rules : List NamedTree) (rule : ℕ) → rule < length rules → reach_of_tree (rule_at rules rule).tree ≤ greatest_reach (map (λ (r : NamedTree). r.tree) rules)
reach_within [] rule lt = absurd (omega arith)
reach_within (r ∷ rs) zero lt = omega arith
reach_within (r ∷ rs) (suc rule) lt = let rest = reach_within rs rule (omega arith) in omega arith

-- ---- what is known at a step of a front, whatever steps come after it

agreed_mark : (detect : Detect) (steps others : List (Option PairStep)) (i : ℕ) (mark : Mark) → Agree steps others i → seen_at steps i ≡ seen_at others i
    → IsMeetingMark detect steps i mark → IsMeetingMark detect others i mark
agreed_mark detect steps others i Nothing agree seen h = λ engaged. h (engaged_of-agree detect others steps i (agree_swapped steps others i agree) engaged)
agreed_mark detect steps others i Broken agree seen h = absurd h
agreed_mark detect steps others i Undecided agree seen h = absurd h
agreed_mark detect steps others i (Engaged kind least) agree seen ((now, (is, of)), measures) =
    ((now, (engagement_of-agree detect steps others i now agree is, of)), subst (λ (o : Option PairStep). IsSomeAnd o (λ pair. IsLeastSeparation least pair.step)) seen measures)

front_mark : (detect : Detect) (front rest others : List (Option PairStep)) (i : ℕ) (mark : Mark) → i < length front
    → IsMeetingMark detect (front ++ rest) i mark → IsMeetingMark detect (front ++ others) i mark
front_mark detect front rest others i mark lt h =
    agreed_mark detect front (front ++ others) i mark (agree_front front others i lt) (sym (seen_at-front front others i lt))
    (agreed_mark detect (front ++ rest) front i mark (agree_swapped front (front ++ rest) i (agree_front front rest i lt)) (seen_at-front front rest i lt) h)

steps_agree : (a b c d : ℕ → Option TickState) (i j count : ℕ) → ((k : ℕ) → k < count → step_at a b (i + k) ≡ step_at c d (j + k)) → steps_from a b i count ≡ steps_from c d j count
steps_agree a b c d i j zero same = refl
steps_agree a b c d i j (suc count) same =
    let i0 : i ≡ i + 0 = omega arith in
    let j0 : j + 0 ≡ j = omega arith in
    ap₂ (λ (x : Option PairStep) (xs : List (Option PairStep)). x ∷ xs) (ap (step_at a b) i0 ∙ (same 0 (omega arith) ∙ ap (step_at c d) j0))
    (steps_agree a b c d (i + 1) (j + 1) count
    (λ k lt. let i1 : (i + 1) + k ≡ i + suc k = omega arith in let j1 : j + suc k ≡ (j + 1) + k = omega arith in
    ap (step_at a b) i1 ∙ (same (suc k) (omega arith) ∙ ap (step_at c d) j1)))

-- Two steps' answers, where the one step's are also the other's.
same_answered : (terms : Terms) (ranks told : ℕ → ByRank) (steps others : List (Option PairStep)) (k : ℕ) (o p : Option (Atom → Verdict))
    → ((answers : Atom → Verdict) → IsRankedRow terms ranks steps k answers → IsRankedRow terms told others k answers)
    → IsSomeAnd o (IsRankedRow terms ranks steps k) → IsSomeAnd p (IsRankedRow terms told others k) → o ≡ p
same_answered terms ranks told steps others k None p too row other = absurd row
same_answered terms ranks told steps others k (Some answers) None too row other = absurd other
same_answered terms ranks told steps others k (Some answers) (Some replies) too row other =
    ap Some (same_answers terms told others k answers replies (too answers row) other)

early : (m n : ℕ) → (m < n) ⊎ (n ≤ m)
early m n = grind arith

-- ---- ticks of two windows that agree up to one: tick dx + k of the one is tick dy + k of the other

module _ (numbers : AuditNumbers) (xs ys : List Sighting) (pair : Pair) (dx dy until : ℕ) (in_x : dx + until < length xs) (in_y : dy + until < length ys)
    (subject : (k : ℕ) → k ≤ until → seen_state_at xs pair.subject (dx + k) ≡ seen_state_at ys pair.subject (dy + k))
    (other : (k : ℕ) → k ≤ until → seen_state_at xs pair.other (dx + k) ≡ seen_state_at ys pair.other (dy + k))
    (subject_rank : (k : ℕ) → k ≤ until → rank_in pair.subject (sighting_at xs (dx + k)) ≡ rank_in pair.subject (sighting_at ys (dy + k)))
    (other_rank : (k : ℕ) → k ≤ until → rank_in pair.other (sighting_at xs (dx + k)) ≡ rank_in pair.other (sighting_at ys (dy + k)))
    (apart_y : (i : ℕ) → i < dy → ¬ IsContactAt (seen_state_at ys pair.subject) (seen_state_at ys pair.other) numbers.detect.watch i) where
  module _ (s : ℕ) (begun : s < until) where
    begins_too : Begins (over xs numbers) xs pair (dx + s) → Begins (over ys numbers) ys pair (dy + s)
    begins_too h = record {
      audited = h.audited;
      begins = record {
        before_end = omega arith;
        contact = contact_same numbers.detect.watch (subject s (omega arith)) (other s (omega arith)) h.begins.contact;
        least = λ i lt near. elim (early i dy) [
          | inl before ↦ apart_y i before near
          | inr since ↦ (let there : i ≡ dy + (i - dy) = omega arith in
              let here : IsContactAt (seen_state_at ys pair.subject) (seen_state_at ys pair.other) numbers.detect.watch (dy + (i - dy)) =
              subst (IsContactAt (seen_state_at ys pair.subject) (seen_state_at ys pair.other) numbers.detect.watch) there near in
              h.begins.least (dx + (i - dy)) (omega arith)
              (contact_same numbers.detect.watch (sym (subject (i - dy) (omega arith))) (sym (other (i - dy) (omega arith))) here))
        ];
      };
    }

    -- the steps up to the tick, and those after it
    front_of : List Sighting → ℕ → List (Option PairStep)
    front_of seen d = steps_from (seen_state_at seen pair.subject) (seen_state_at seen pair.other) (d + s) (until - s)

    rest_of : List Sighting → ℕ → List (Option PairStep)
    rest_of seen d = steps_from (seen_state_at seen pair.subject) (seen_state_at seen pair.other) (d + s + (until - s)) (length seen - 1 - d - until)

    split : (seen : List Sighting) (d : ℕ) → d + until < length seen → trace_steps numbers seen pair (d + s) ≡ front_of seen d ++ rest_of seen d
    unfolding front_of rest_of
    split seen d within =
        let a : ℕ → Option TickState = seen_state_at seen pair.subject in
        let b : ℕ → Option TickState = seen_state_at seen pair.other in
        let count : length seen - 1 - (d + s) ≡ (until - s) + (length seen - 1 - d - until) = omega arith in
        ap (steps_from a b (d + s)) count ∙ steps_from-split a b (d + s) (until - s) (length seen - 1 - d - until)

    same_front : front_of ys dy ≡ front_of xs dx
    unfolding front_of
    same_front =
        steps_agree (seen_state_at ys pair.subject) (seen_state_at ys pair.other) (seen_state_at xs pair.subject) (seen_state_at xs pair.other) (dy + s) (dx + s) (until - s)
        (λ k lt.
        let y0 : dy + s + k ≡ dy + (s + k) = omega arith in
        let y1 : dy + s + k + 1 ≡ dy + (s + k + 1) = omega arith in
        let x0 : dx + (s + k) ≡ dx + s + k = omega arith in
        let x1 : dx + (s + k + 1) ≡ dx + s + k + 1 = omega arith in
        step_same
        (ap (seen_state_at ys pair.subject) y0 ∙ (sym (subject (s + k) (omega arith)) ∙ ap (seen_state_at xs pair.subject) x0))
        (ap (seen_state_at ys pair.other) y0 ∙ (sym (other (s + k) (omega arith)) ∙ ap (seen_state_at xs pair.other) x0))
        (ap (seen_state_at ys pair.subject) y1 ∙ (sym (subject (s + k + 1) (omega arith)) ∙ ap (seen_state_at xs pair.subject) x1))
        (ap (seen_state_at ys pair.other) y1 ∙ (sym (other (s + k + 1) (omega arith)) ∙ ap (seen_state_at xs pair.other) x1)))

    split_x : trace_steps numbers xs pair (dx + s) ≡ front_of xs dx ++ rest_of xs dx
    split_x = split xs dx in_x

    split_y : trace_steps numbers ys pair (dy + s) ≡ front_of xs dx ++ rest_of ys dy
    split_y = split ys dy in_y ∙ ap (λ (steps : List (Option PairStep)). steps ++ rest_of ys dy) same_front

    front_length : length (front_of xs dx) ≡ until - s
    unfolding front_of
    front_length = steps_from-length (seen_state_at xs pair.subject) (seen_state_at xs pair.other) (dx + s) (until - s)

    steps_length : (seen : List Sighting) (d : ℕ) → length (trace_steps numbers seen pair (d + s)) ≡ length seen - 1 - (d + s)
    steps_length seen d = steps_from-length (seen_state_at seen pair.subject) (seen_state_at seen pair.other) (d + s) (length seen - 1 - (d + s))

    mark_too : (i : ℕ) (mark : Mark) → s + i < until → IsMeetingMark numbers.detect (trace_steps numbers xs pair (dx + s)) i mark
        → IsMeetingMark numbers.detect (trace_steps numbers ys pair (dy + s)) i mark
    mark_too i mark lt h =
        let long = front_length in
        subst (λ (steps : List (Option PairStep)). IsMeetingMark numbers.detect steps i mark) (sym split_y)
        (front_mark numbers.detect (front_of xs dx) (rest_of xs dx) (rest_of ys dy) i mark (omega arith)
        (subst (λ (steps : List (Option PairStep)). IsMeetingMark numbers.detect steps i mark) split_x h))

    -- what the ranks say at its steps
    ranks_x : ℕ → ByRank
    ranks_x = trace_ranks xs pair (dx + s)

    ranks_y : ℕ → ByRank
    ranks_y = trace_ranks ys pair (dy + s)

    same_ranks : (k : ℕ) → s + k ≤ until → ranks_x k ≡ ranks_y k
    unfolding ranks_x ranks_y
    same_ranks k le =
        let x0 : dx + s + k ≡ dx + (s + k) = omega arith in
        let y0 : dy + (s + k) ≡ dy + s + k = omega arith in
        ap₂ by_rank_of
        (ap (λ (n : ℕ). rank_in pair.subject (sighting_at xs n)) x0 ∙ (subject_rank (s + k) le ∙ ap (λ (n : ℕ). rank_in pair.subject (sighting_at ys n)) y0))
        (ap (λ (n : ℕ). rank_in pair.other (sighting_at xs n)) x0 ∙ (other_rank (s + k) le ∙ ap (λ (n : ℕ). rank_in pair.other (sighting_at ys n)) y0))

    row_too : (i : ℕ) (answers : Atom → Verdict) → s + i < until → IsRankedRow (terms_of numbers) ranks_x (trace_steps numbers xs pair (dx + s)) i answers
        → IsRankedRow (terms_of numbers) ranks_y (trace_steps numbers ys pair (dy + s)) i answers
    row_too i answers lt h =
        let long = front_length in
        subst (λ (steps : List (Option PairStep)). IsRankedRow (terms_of numbers) ranks_y steps i answers) (sym split_y)
        (row_over_more (terms_of numbers) ranks_y (front_of xs dx) (rest_of ys dy) i answers (omega arith)
        (row_same_ranks (terms_of numbers) ranks_x ranks_y (front_of xs dx) i answers (λ k le. same_ranks k (omega arith))
        (row_over_less (terms_of numbers) ranks_x (front_of xs dx) (rest_of xs dx) i answers (omega arith)
        (subst (λ (steps : List (Option PairStep)). IsRankedRow (terms_of numbers) ranks_x steps i answers) split_x h))))

    answers_too : (trace reply : Trace) → IsTraceOf (over xs numbers) xs pair (dx + s) trace → IsTraceOf (over ys numbers) ys pair (dy + s) reply → (k : ℕ) → s + k < until
        → slice_get trace k ≡ slice_get reply k
    unfolding ranks_x ranks_y
    answers_too trace reply h g k lt =
        let long_x = steps_length xs dx in
        let long_y = steps_length ys dy in
        same_answered (terms_of numbers) ranks_x ranks_y (trace_steps numbers xs pair (dx + s)) (trace_steps numbers ys pair (dy + s)) k
        (slice_get trace k) (slice_get reply k) (λ answers row. row_too k answers lt row) (h.rows.each k (omega arith)) (g.rows.each k (omega arith))

    value_too : (trace reply : Trace) → IsTraceOf (over xs numbers) xs pair (dx + s) trace → IsTraceOf (over ys numbers) ys pair (dy + s) reply → (tree : FormulaTree) (i : ℕ)
        → s + i + reach_of_tree tree < until → value_in trace tree i ≡ value_in reply tree i
    value_too trace reply h g tree i lt =
        value_of-same (λ row. row) trace (λ row. row) reply tree i
        (λ k below. equal-AgreeAt (λ row. row) trace reply k (answers_too trace reply h g k (omega arith)))

    -- The first marks of a track are those of one in the other window.
    meeting_too : (marks : List Mark) (n : ℕ) → s + n ≤ until → AreMeetingMarks (over xs numbers) xs pair (dx + s) marks
        → (rest : List Mark) × AreMeetingMarks (over ys numbers) ys pair (dy + s) (take n marks ++ rest)
    meeting_too marks n le h =
        let count = h.count in
        let long_x = steps_length xs dx in
        let long_y = steps_length ys dy in
        let taken = length-take n marks in
        let more = go_on (IsMeetingMark numbers.detect (trace_steps numbers ys pair (dy + s))) (some_mark numbers.detect (trace_steps numbers ys pair (dy + s)))
        (take n marks) (length (trace_steps numbers ys pair (dy + s))) (omega arith)
        (λ i lt. subst (IsMeetingMark numbers.detect (trace_steps numbers ys pair (dy + s)) i) (sym (get_or-take n marks i Nothing (omega arith)))
        (mark_too i (mark_at marks i) (omega arith) (h.each i (omega arith)))) in
        (more.rest, record { begins = begins_too h.begins; count = more.count; each = more.each })

    rule_too : (rule : ℕ) (marks : List Mark) (n : ℕ) → s + n + audit_reach numbers ≤ until → AreRuleMarks (over xs numbers) xs pair rule (dx + s) marks
        → (rest : List Mark) × AreRuleMarks (over ys numbers) ys pair rule (dy + s) (take n marks ++ rest)
    rule_too rule marks n le h =
        let tree : FormulaTree = (rule_at numbers.rules rule).tree in
        let rows = some_rows (terms_of numbers) (trace_ranks ys pair (dy + s)) (trace_steps numbers ys pair (dy + s)) in
        let reply : Trace = rows.0 in
        let is : IsTraceOf (over ys numbers) ys pair (dy + s) reply = record { begins = begins_too h.of.begins; rows = rows.1 } in
        let count = h.count in
        let steps = h.of.rows.count in
        let long_x = steps_length xs dx in
        let reply_steps = is.rows.count in
        let long_y = steps_length ys dy in
        let taken = length-take n marks in
        let reach = reach_within numbers.rules rule h.within in
        let more = go_on (λ i mark. mark ≡ mark_of (value_in reply tree i)) (λ i. (mark_of (value_in reply tree i), refl)) (take n marks) (length reply) (omega arith)
        (λ i lt. get_or-take n marks i Nothing (omega arith) ∙ (h.each i (omega arith) ∙ ap mark_of (value_too h.trace reply h.of is tree i (omega arith)))) in
        (more.rest, record { within = h.within; trace = reply; of = is; count = more.count; each = more.each })

    meeting_count : (marks : List Mark) → AreMeetingMarks (over xs numbers) xs pair (dx + s) marks → length marks ≡ length xs - 1 - (dx + s)
    meeting_count marks h = h.count ∙ steps_length xs dx

    rule_count : (rule : ℕ) (marks : List Mark) → AreRuleMarks (over xs numbers) xs pair rule (dx + s) marks → length marks ≡ length xs - 1 - (dx + s)
    rule_count rule marks h = h.count ∙ (h.of.rows.count ∙ steps_length xs dx)

  -- A trace of the one window begins no earlier than the part that both have.
  since_x : ((i : ℕ) → i < dx → ¬ IsContactAt (seen_state_at xs pair.subject) (seen_state_at xs pair.other) numbers.detect.watch i)
      → (start : ℕ) → Begins (over xs numbers) xs pair start → dx ≤ start
  since_x apart start h = elim (early start dx) [ inl before ↦ absurd (apart start before h.begins.contact) | inr since ↦ since ]

  begun_x : (topic : Topic) (start : ℕ) (marks : List Mark) → topic_pair topic ≡ pair → AreMarksOf (over xs numbers) xs topic start marks → Begins (over xs numbers) xs pair start
  begun_x (Meeting p) start marks e h = subst (λ (q : Pair). Begins (over xs numbers) xs q start) e h.begins
  begun_x (OfVerdict p rule) start marks e h = subst (λ (q : Pair). Begins (over xs numbers) xs q start) e h.of.begins

  marks_too : (topic : Topic) (s : ℕ) (marks : List Mark) (n : ℕ) → topic_pair topic ≡ pair → s < until → s + n + audit_reach numbers ≤ until
      → AreMarksOf (over xs numbers) xs topic (dx + s) marks → (rest : List Mark) × AreMarksOf (over ys numbers) ys topic (dy + s) (take n marks ++ rest)
  marks_too (Meeting p) s marks n e lt le h =
      let (rest, are) = meeting_too s lt marks n (omega arith) (subst (λ (q : Pair). AreMeetingMarks (over xs numbers) xs q (dx + s) marks) e h) in
      (rest, subst (λ (q : Pair). AreMeetingMarks (over ys numbers) ys q (dy + s) (take n marks ++ rest)) (sym e) are)
  marks_too (OfVerdict p rule) s marks n e lt le h =
      let (rest, are) = rule_too s lt rule marks n (omega arith) (subst (λ (q : Pair). AreRuleMarks (over xs numbers) xs q rule (dx + s) marks) e h) in
      (rest, subst (λ (q : Pair). AreRuleMarks (over ys numbers) ys q rule (dy + s) (take n marks ++ rest)) (sym e) are)

  marks_count : (topic : Topic) (s : ℕ) (marks : List Mark) → topic_pair topic ≡ pair → s < until → AreMarksOf (over xs numbers) xs topic (dx + s) marks
      → length marks ≡ length xs - 1 - (dx + s)
  marks_count (Meeting p) s marks e lt h = meeting_count s lt marks (subst (λ (q : Pair). AreMeetingMarks (over xs numbers) xs q (dx + s) marks) e h)
  marks_count (OfVerdict p rule) s marks e lt h = rule_count s lt rule marks (subst (λ (q : Pair). AreRuleMarks (over xs numbers) xs q rule (dx + s) marks) e h)

-- ---- a row, counted from two windows' beginnings

pair_moved : (d : ℕ) (r : Row) → pair_of (moved d r) ≡ pair_of r
pair_moved d (row.Meeting pair kind first last least) = refl
pair_moved d (row.Verdict pair rule undecided first last) = refl

last_moved : (d : ℕ) (r : Row) → last_step_of (moved d r) ≡ d + last_step_of r
last_moved d (row.Meeting pair kind first last least) = refl
last_moved d (row.Verdict pair rule undecided first last) = refl

first_moved : (d : ℕ) (r : Row) → first_step_of (moved d r) ≡ d + first_step_of r
first_moved d (row.Meeting pair kind first last least) = refl
first_moved d (row.Verdict pair rule undecided first last) = refl

-- a row of a track is one of the track that begins so much later, counted from a beginning so much earlier
row_moved : (topic : Topic) (dx dy s : ℕ) (marks : List Mark) (r : Row) → IsRowOf (record { topic = topic; first = dx + s; marks = marks }) (moved dx r)
    → IsRowOf (record { topic = topic; first = dy + s; marks = marks }) (moved dy r)
row_moved topic dx dy s marks (row.Meeting pair kind first last least) (from, to, t) =
    let begins = t.first in
    let ends = t.last in
    (from, to, record { topic = t.topic; first = omega arith; last = omega arith; stretch = t.stretch; measures = t.measures })
row_moved topic dx dy s marks (row.Verdict pair rule undecided first last) (from, to, t) =
    let begins = t.first in
    let ends = t.last in
    (from, to, record { topic = t.topic; first = omega arith; last = omega arith; stretch = t.stretch; measures = t.measures })

-- A row in the one window is one in the other.
row_across : (numbers : AuditNumbers) (xs ys : List Sighting) (r : Row) (dx dy : ℕ) → dx + last_step_of r + audit_reach numbers + 2 < length xs
    → dy + last_step_of r + audit_reach numbers + 2 < length ys
    → ((k : ℕ) → dx + k < length xs → dy + k < length ys → seen_state_at xs (pair_of r).subject (dx + k) ≡ seen_state_at ys (pair_of r).subject (dy + k))
    → ((k : ℕ) → dx + k < length xs → dy + k < length ys → seen_state_at xs (pair_of r).other (dx + k) ≡ seen_state_at ys (pair_of r).other (dy + k))
    → ((k : ℕ) → dx + k < length xs → dy + k < length ys → rank_in (pair_of r).subject (sighting_at xs (dx + k)) ≡ rank_in (pair_of r).subject (sighting_at ys (dy + k)))
    → ((k : ℕ) → dx + k < length xs → dy + k < length ys → rank_in (pair_of r).other (sighting_at xs (dx + k)) ≡ rank_in (pair_of r).other (sighting_at ys (dy + k)))
    → ((i : ℕ) → i < dx → ¬ IsContactAt (seen_state_at xs (pair_of r).subject) (seen_state_at xs (pair_of r).other) numbers.detect.watch i)
    → ((i : ℕ) → i < dy → ¬ IsContactAt (seen_state_at ys (pair_of r).subject) (seen_state_at ys (pair_of r).other) numbers.detect.watch i)
    → IsAuditRow (over xs numbers) xs (moved dx r) → IsAuditRow (over ys numbers) ys (moved dy r)
row_across numbers xs ys r dx dy in_x in_y subject other subject_rank other_rank apart_x apart_y (track, (is, of)) =
    let until : ℕ = last_step_of r + audit_reach numbers + 2 in
    let here : dx + until < length xs = omega arith in
    let there : dy + until < length ys = omega arith in
    let a = λ (k : ℕ) (le : k ≤ until). subject k (omega arith) (omega arith) in
    let b = λ (k : ℕ) (le : k ≤ until). other k (omega arith) (omega arith) in
    let c = λ (k : ℕ) (le : k ≤ until). subject_rank k (omega arith) (omega arith) in
    let d = λ (k : ℕ) (le : k ≤ until). other_rank k (omega arith) (omega arith) in
    let topic : topic_pair track.topic ≡ pair_of r = ap topic_pair (sym of.2.topic) ∙ (same_pair (moved dx r) ∙ pair_moved dx r) in
    let within : (track.first ≤ first_step_of (moved dx r)) × (first_step_of (moved dx r) ≤ last_step_of (moved dx r)) × (last_step_of (moved dx r) < next_step track) =
    row_within track (moved dx r) of in
    let from = within.0 in
    let ordered = within.1 in
    let before = within.2 in
    let last = last_moved dx r in
    let since : dx ≤ track.first = since_x numbers xs ys (pair_of r) dx dy until here there a b c d apart_y apart_x track.first
    (begun_x numbers xs ys (pair_of r) dx dy until here there a b c d apart_y track.topic track.first track.marks topic is) in
    let s : ℕ = track.first - dx in
    let at : track.first ≡ dx + s = omega arith in
    let n : ℕ = (last_step_of r + 2) - s in
    let are : AreMarksOf (over xs numbers) xs track.topic (dx + s) track.marks = subst (λ (k : ℕ). AreMarksOf (over xs numbers) xs track.topic k track.marks) at is in
    let count = marks_count numbers xs ys (pair_of r) dx dy until here there a b c d apart_y track.topic s track.marks topic (omega arith) are in
    let more = marks_too numbers xs ys (pair_of r) dx dy until here there a b c d apart_y track.topic s track.marks n topic (omega arith) (omega arith) are in
    let taken = length-take n track.marks in
    let front : Track = record { topic = track.topic; first = dx + s; marks = take n track.marks } in
    let known : last_step_of (moved dx r) + 1 < dx + s + length (take n track.marks) = omega arith in
    let whole : IsRowOf (record front { marks = front.marks ++ drop n track.marks }) (moved dx r) =
    subst (λ (marks : List Mark). IsRowOf (record { topic = track.topic; first = dx + s; marks = marks }) (moved dx r)) (sym (take-append-drop n track.marks))
    (subst (λ (k : ℕ). IsRowOf (record { topic = track.topic; first = k; marks = track.marks }) (moved dx r)) at of) in
    let told : IsRowOf front (moved dx r) = row_was front (drop n track.marks) (moved dx r) known whole in
    let shifted : Track = record { topic = track.topic; first = dy + s; marks = take n track.marks } in
    let retold : IsRowOf shifted (moved dy r) = row_moved track.topic dx dy s (take n track.marks) r told in
    let end = last_moved dy r in
    let beyond : last_step_of (moved dy r) + 1 < dy + s + length (take n track.marks) = omega arith in
    (record shifted { marks = shifted.marks ++ more.0 }, (more.1, row_stays shifted more.0 (moved dy r) beyond retold))

same_step : (k : ℕ) → 0 + k ≡ k
same_step k = omega arith

not_moved : (r : Row) → moved 0 r ≡ r
not_moved (row.Meeting pair kind first last least) = λ i. row.Meeting pair kind (same_step first i) (same_step last i) least
not_moved (row.Verdict pair rule undecided first last) = λ i. row.Verdict pair rule undecided (same_step first i) (same_step last i)

pub rows_behind : (numbers : AuditNumbers) (behind : ℕ) (earlier later : List Sighting) (r : Row)
    → IsSeenAlike behind earlier later (pair_of r).subject → IsSeenAlike behind earlier later (pair_of r).other
    → IsRankedAlike behind earlier later (pair_of r).subject → IsRankedAlike behind earlier later (pair_of r).other
    → ComeIntoContactBehind behind numbers earlier (pair_of r)
    → last_step_of r + audit_reach numbers + 2 < length later → behind + last_step_of r + audit_reach numbers + 2 < length earlier
    → IsAuditRow (over earlier numbers) earlier (moved behind r) ↔ IsAuditRow (over later numbers) later r
rows_behind numbers behind earlier later r subject other subject_rank other_rank apart in_later in_earlier = (
  (λ is. subst (IsAuditRow (over later numbers) later) (not_moved r)
      (row_across numbers earlier later r behind 0 in_earlier (omega arith)
      (λ k in_e in_l. subject k (omega arith) in_e ∙ ap (seen_state_at later (pair_of r).subject) (sym (same_step k)))
      (λ k in_e in_l. other k (omega arith) in_e ∙ ap (seen_state_at later (pair_of r).other) (sym (same_step k)))
      (λ k in_e in_l. subject_rank k (omega arith) in_e ∙ ap (λ (n : ℕ). rank_in (pair_of r).subject (sighting_at later n)) (sym (same_step k)))
      (λ k in_e in_l. other_rank k (omega arith) in_e ∙ ap (λ (n : ℕ). rank_in (pair_of r).other (sighting_at later n)) (sym (same_step k)))
      apart (λ i lt near. omega arith) is)),
  (λ is. row_across numbers later earlier r 0 behind (omega arith) in_earlier
      (λ k in_l in_e. ap (seen_state_at later (pair_of r).subject) (same_step k) ∙ sym (subject k (omega arith) in_e))
      (λ k in_l in_e. ap (seen_state_at later (pair_of r).other) (same_step k) ∙ sym (other k (omega arith) in_e))
      (λ k in_l in_e. ap (λ (n : ℕ). rank_in (pair_of r).subject (sighting_at later n)) (same_step k) ∙ sym (subject_rank k (omega arith) in_e))
      (λ k in_l in_e. ap (λ (n : ℕ). rank_in (pair_of r).other (sighting_at later n)) (same_step k) ∙ sym (other_rank k (omega arith) in_e))
      (λ i lt near. omega arith) apart (subst (IsAuditRow (over later numbers) later) (sym (not_moved r)) is)),
)
