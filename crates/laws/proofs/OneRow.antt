-- At one place of their order an audit has one row: a pair has one track of each topic, and a track has one maximal stretch of a sort that ends at a step.
use Rattle.std.proofs.Common.{ℕ, ◌≡◌, ◌∙◌, ◌-◌, ◌<◌, ◌≤◌, Bool, true, false, List, length, Option, ext_get_or, inl, inr, sym, ap, subst, arith}
use Rattle.std.specs.Option.{IfSome}
use Rattle.std.proofs.lemmas.Bool.{cases_lt}
use Rattle.std.proofs.lemmas.Option.{same_Some}
use Rattle.sectors.specs.declared.class.Class.{Class}
use Rattle.mtl_formulas.specs.Traces.{Trace, value_in}
use Rattle.rule_set.specs.NamedTrees.{rule_at}
use Rattle.meetings.specs.declared.pair.Pair.{Pair}
use Rattle.meetings.proofs.ForCallers.{one_list as one_trace}
use Rattle.audit_rows.specs.Order.{last_step_of, sort_key_of, topic_of}
use Rattle.audit_rows.specs.Rows.{IsRowOf, TellsStretch, verdict_mark}
use Rattle.audit_rows.specs.Stretches.{HasKindAndLeast, IsStretch, MarksEngagement, mark_at}
use Rattle.audit_rows.specs.Tracks.{Track}
use Rattle.audit_rows.specs.declared.mark.Mark.{Mark}
use Rattle.audit_rows.specs.declared.mark.Mark.TheVariants.{Nothing}
use Rattle.audit_rows.specs.declared.row.Row.{Row}
use Rattle.audit_rows.specs.declared.row.Row.TheVariants as row
use Rattle.audit_rows.specs.declared.sort_key.SortKey.{SortKey}
use Rattle.audit_rows.specs.declared.topic.Topic.{Topic}
use Rattle.audit_rows.specs.declared.topic.Topic.TheVariants.{Meeting, Verdict}
use Rattle.auditor.specs.AuditRows.{IsAuditRow}
use Rattle.auditor.specs.AuditTracks.{AreMarksOf, AreMeetingMarks, AreRuleMarks, IsTrack}
use Rattle.auditor.specs.ValueMarks.{mark_of}
use Rattle.auditor.proofs.ForCallers.{one_meeting_mark}
use Rattle.traces.specs.Audited.{AuditNumbers, Begins, Sighting, terms_of, trace_ranks, trace_steps}
use Rattle.traces.proofs.ForCallers.{one_beginning}

-- ---- a track has one row of a sort that ends at a step

-- A maximal stretch begins no later than another one that ends where it does.
no_later : (P : Mark → Type 0) (marks : List Mark) (from other to : ℕ) → IsStretch P marks from to → IsStretch P marks other to → other < from → ⊥
no_later P marks from other to h k lt =
    let ordered = h.ordered in
    h.before (omega arith) (k.each (from - 1) (omega arith) (omega arith))

one_from : (P : Mark → Type 0) (marks : List Mark) (from other to : ℕ) → IsStretch P marks from to → IsStretch P marks other to → from ≡ other
one_from P marks from other to h k = elim (cases_lt from other) [
  | inl less ↦ absurd (no_later P marks other from to k h less)
  | inr ge ↦ elim (cases_lt other from) [
    | inl less ↦ absurd (no_later P marks from other to h k less)
    | inr le ↦ omega arith
  ]
]

no_more : (marks : List Mark) (from to : ℕ) (kind same : Class) (least other : ℕ) → HasKindAndLeast marks from to kind least → HasKindAndLeast marks from to same other → least ≤ other
no_more marks from to kind same least other h k =
    let (i, ge, le, is) = k.reached in
    subst (λ (o : Option ℕ). IfSome o (λ distance. least ≤ distance)) is (h.at_least i ge le)

of_one_mark : (mark : Mark) (undecided other : Bool) → mark ≡ verdict_mark undecided → mark ≡ verdict_mark other → undecided ≡ other
of_one_mark mark true true h k = cc
of_one_mark mark true false h k = absurd (cc (h, k))
of_one_mark mark false true h k = absurd (cc (h, k))
of_one_mark mark false false h k = cc

module _ (track : Track) where
  one_end : (a b : Row) (from to other end : ℕ) → TellsStretch track a from to → TellsStretch track b other end → last_step_of a ≡ last_step_of b → to ≡ end
  one_end a b from to other end h k same = let x = h.last in let y = k.last in omega arith

  one_meeting : (pair mate : Pair) (kind sort : Class) (first last least begin end nearest : ℕ) (from to other to' : ℕ)
      → TellsStretch track (row.Meeting pair kind first last least) from to → TellsStretch track (row.Meeting mate sort begin end nearest) other to' → last ≡ end
      → row.Meeting pair kind first last least ≡ row.Meeting mate sort begin end nearest
  one_meeting pair mate kind sort first last least begin end nearest from to other to' h k same =
      let e : to ≡ to' = one_end (row.Meeting pair kind first last least) (row.Meeting mate sort begin end nearest) from to other to' h k same in
      let there : IsStretch MarksEngagement track.marks other to = subst (IsStretch MarksEngagement track.marks other) (sym e) k.stretch in
      let f : from ≡ other = one_from MarksEngagement track.marks from other to h.stretch there in
      let measured : HasKindAndLeast track.marks from to sort nearest =
      subst (λ (n : ℕ). HasKindAndLeast track.marks n to sort nearest) (sym f) (subst (λ (n : ℕ). HasKindAndLeast track.marks other n sort nearest) (sym e) k.measures) in
      let kinds : kind ≡ sort = same_Some kind sort (sym h.measures.of_first ∙ measured.of_first) in
      let le = no_more track.marks from to kind sort least nearest h.measures measured in
      let ge = no_more track.marks from to sort kind nearest least measured h.measures in
      let leasts : least ≡ nearest = omega arith in
      let x = h.first in
      let y = k.first in
      let firsts : first ≡ begin = omega (arith, f) in
      let topics : Meeting pair ≡ Meeting mate = h.topic ∙ sym k.topic in
      cc (topics, kinds, firsts, same, leasts)

  one_verdict : (pair mate : Pair) (rule law : ℕ) (undecided unsure : Bool) (first last begin end : ℕ) (from to other to' : ℕ)
      → TellsStretch track (row.Verdict pair rule undecided first last) from to → TellsStretch track (row.Verdict mate law unsure begin end) other to' → last ≡ end
      → row.Verdict pair rule undecided first last ≡ row.Verdict mate law unsure begin end
  one_verdict pair mate rule law undecided unsure first last begin end from to other to' h k same =
      let e : to ≡ to' = one_end (row.Verdict pair rule undecided first last) (row.Verdict mate law unsure begin end) from to other to' h k same in
      let there : IsStretch (λ mark. mark ≡ verdict_mark unsure) track.marks other to = subst (IsStretch (λ mark. mark ≡ verdict_mark unsure) track.marks other) (sym e) k.stretch in
      let sorts : undecided ≡ unsure = of_one_mark (mark_at track.marks to) undecided unsure (h.stretch.each to h.stretch.ordered (omega arith)) (there.each to there.ordered (omega arith)) in
      let there' : IsStretch (λ mark. mark ≡ verdict_mark undecided) track.marks other to = subst (λ (b : Bool). IsStretch (λ mark. mark ≡ verdict_mark b) track.marks other to) (sym sorts) there in
      let f : from ≡ other = one_from (λ mark. mark ≡ verdict_mark undecided) track.marks from other to h.stretch there' in
      let x = h.first in
      let y = k.first in
      let firsts : first ≡ begin = omega (arith, f) in
      let topics : Verdict pair rule ≡ Verdict mate law = h.topic ∙ sym k.topic in
      cc (topics, sorts, firsts, same)

  one_row_of : (a b : Row) → IsRowOf track a → IsRowOf track b → last_step_of a ≡ last_step_of b → a ≡ b
  one_row_of (row.Meeting pair kind first last least) (row.Meeting mate sort begin end nearest) h k same =
      one_meeting pair mate kind sort first last least begin end nearest h.0 h.1 k.0 k.1 h.2 k.2 same
  one_row_of (row.Meeting pair kind first last least) (row.Verdict mate law unsure begin end) h k same =
      let topics : Meeting pair ≡ Verdict mate law = h.2.topic ∙ sym k.2.topic in absurd (cc topics)
  one_row_of (row.Verdict pair rule undecided first last) (row.Meeting mate sort begin end nearest) h k same =
      let topics : Verdict pair rule ≡ Meeting mate = h.2.topic ∙ sym k.2.topic in absurd (cc topics)
  one_row_of (row.Verdict pair rule undecided first last) (row.Verdict mate law unsure begin end) h k same =
      one_verdict pair mate rule law undecided unsure first last begin end h.0 h.1 k.0 k.1 h.2 k.2 same

-- ---- there is one track of a topic

module _ (numbers : AuditNumbers) (ticks : List Sighting) where
  same_meeting : (pair : Pair) (start other : ℕ) (marks others : List Mark) → start ≡ other → AreMeetingMarks numbers ticks pair start marks → AreMeetingMarks numbers ticks pair other others
      → marks ≡ others
  same_meeting pair start other marks others same h k' =
      let k : AreMeetingMarks numbers ticks pair start others = subst (λ (n : ℕ). AreMeetingMarks numbers ticks pair n others) (sym same) k' in
      let x = h.count in
      let y = k.count in
      ext_get_or Nothing marks others (omega arith) (λ i lt.
      one_meeting_mark numbers.detect (trace_steps numbers ticks pair start) i (mark_at marks i) (mark_at others i) (h.each i lt) (k.each i (omega arith)))

  same_rule : (pair : Pair) (rule start other : ℕ) (marks others : List Mark) → start ≡ other → AreRuleMarks numbers ticks pair rule start marks
      → AreRuleMarks numbers ticks pair rule other others → marks ≡ others
  same_rule pair rule start other marks others same h k' =
      let k : AreRuleMarks numbers ticks pair rule start others = subst (λ (n : ℕ). AreRuleMarks numbers ticks pair rule n others) (sym same) k' in
      let traces : h.trace ≡ k.trace = one_trace (terms_of numbers) (trace_ranks ticks pair start) (trace_steps numbers ticks pair start) h.trace k.trace h.of.rows k.of.rows in
      let x = h.count in
      let y = k.count in
      let long = ap length traces in
      ext_get_or Nothing marks others (omega arith) (λ i lt.
      h.each i lt ∙ (ap (λ (t : Trace). mark_of (value_in t (rule_at numbers.rules rule).tree i)) traces ∙ sym (k.each i (omega arith))))

  began : (topic : Topic) (first : ℕ) (marks : List Mark) → AreMarksOf numbers ticks topic first marks → (pair : Pair) × Begins numbers ticks pair first
  began (Meeting pair) first marks h = (pair, h.begins)
  began (Verdict pair rule) first marks h = (pair, h.of.begins)

  one_track_of : (topic : Topic) (first other : ℕ) (marks others : List Mark) → AreMarksOf numbers ticks topic first marks → AreMarksOf numbers ticks topic other others
      → (first ≡ other) × (marks ≡ others)
  one_track_of (Meeting pair) first other marks others h k =
      let same = one_beginning numbers ticks pair first other h.begins k.begins in (same, same_meeting pair first other marks others same h k)
  one_track_of (Verdict pair rule) first other marks others h k =
      let same = one_beginning numbers ticks pair first other h.of.begins k.of.begins in (same, same_rule pair rule first other marks others same h k)

  one_track : (a b : Track) → IsTrack numbers ticks a → IsTrack numbers ticks b → a.topic ≡ b.topic → a ≡ b
  one_track a b h k same =
      let is : AreMarksOf numbers ticks b.topic a.first a.marks = subst (λ (t : Topic). AreMarksOf numbers ticks t a.first a.marks) same h in
      let parts = one_track_of b.topic a.first b.first a.marks b.marks is k in
      λ i. record { topic = same i; first = parts.0 i; marks = parts.1 i }

  -- Two rows of an audit at one place are one.
  pub one_row_at : (a b : Row) → IsAuditRow numbers ticks a → IsAuditRow numbers ticks b → sort_key_of a ≡ sort_key_of b → a ≡ b
  one_row_at a b (track, (is, of)) (other, (is', of')) same =
      let topics : topic_of a ≡ topic_of b = ap (λ (k : SortKey). k.topic) same in
      let tracks : track ≡ other = one_track track other is is' (sym of.2.topic ∙ (topics ∙ of'.2.topic)) in
      one_row_of track a b of (subst (λ (t : Track). IsRowOf t b) (sym tracks) of') (ap (λ (k : SortKey). k.last) same)
