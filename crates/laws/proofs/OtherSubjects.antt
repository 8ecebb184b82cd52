-- Whether a row is an audit's hangs on the subjects only in whether its pair is audited.
use Rattle.std.proofs.Common.{◌≡◌, ℕ, List, [], inl, inr, refl, sym, ap, subst, ◌∙◌}
use Rattle.std.specs.Prelude.{◌↔◌, Option, Some, None, IsSome}
use Rattle.std.specs.List.{Contains}
use Rattle.meetings.specs.Traces.{AreInContact}
use Rattle.meetings.specs.declared.pair.Pair.{Pair}
use Rattle.motion.specs.declared.leg.TickState.{TickState}
use Rattle.audit_rows.specs.Order.{topic_of}
use Rattle.audit_rows.specs.declared.mark.Mark.{Mark}
use Rattle.audit_rows.specs.declared.row.Row.{Row}
use Rattle.audit_rows.specs.declared.row.Row.TheVariants as row
use Rattle.audit_rows.specs.declared.topic.Topic.{Topic}
use Rattle.audit_rows.specs.declared.topic.Topic.TheVariants.{Meeting, Verdict as OfVerdict}
use Rattle.auditor.specs.AuditRows.{IsAuditRow}
use Rattle.auditor.specs.AuditTracks.{AreMarksOf, AreMeetingMarks, AreRuleMarks}
use Rattle.auditor.specs.Tallies.{pair_of as topic_pair}
use Rattle.traces.specs.Audited.{Begins, IsAudited, AuditNumbers, Sighting, seen_state_at}
use Rattle.laws.specs.Reported.{pair_of}
use Rattle.laws.specs.Subjects.{for_subjects}

-- ---- the pair of a row, and of its topic

pub same_pair : (row : Row) → topic_pair (topic_of row) ≡ pair_of row
same_pair (row.Meeting pair kind first last least) = refl
same_pair (row.Verdict pair rule undecided first last) = refl

-- ---- the same tracks

module _ (numbers : AuditNumbers) (ticks : List Sighting) (subjects others : List ℕ) where
  begins_for : (pair : Pair) (start : ℕ) → IsAudited others pair → Begins (for_subjects subjects numbers) ticks pair start → Begins (for_subjects others numbers) ticks pair start
  begins_for pair start audited h = record { audited = audited; begins = h.begins }

  meeting_for : (pair : Pair) (start : ℕ) (marks : List Mark) → IsAudited others pair → AreMeetingMarks (for_subjects subjects numbers) ticks pair start marks
      → AreMeetingMarks (for_subjects others numbers) ticks pair start marks
  meeting_for pair start marks audited h = record { begins = begins_for pair start audited h.begins; count = h.count; each = h.each }

  rule_for : (pair : Pair) (rule start : ℕ) (marks : List Mark) → IsAudited others pair → AreRuleMarks (for_subjects subjects numbers) ticks pair rule start marks
      → AreRuleMarks (for_subjects others numbers) ticks pair rule start marks
  rule_for pair rule start marks audited h = record {
    within = h.within;
    trace = h.trace;
    of = record { begins = begins_for pair start audited h.of.begins; rows = h.of.rows };
    count = h.count;
    each = h.each;
  }

  marks_for : (topic : Topic) (start : ℕ) (marks : List Mark) → IsAudited others (topic_pair topic) → AreMarksOf (for_subjects subjects numbers) ticks topic start marks
      → AreMarksOf (for_subjects others numbers) ticks topic start marks
  marks_for (Meeting pair) start marks audited h = meeting_for pair start marks audited h
  marks_for (OfVerdict pair rule) start marks audited h = rule_for pair rule start marks audited h

  pub row_for : (row : Row) → IsAudited others (pair_of row) → IsAuditRow (for_subjects subjects numbers) ticks row → IsAuditRow (for_subjects others numbers) ticks row
  row_for row audited (track, (is, of)) =
      let same : topic_pair track.topic ≡ pair_of row = ap topic_pair (sym of.2.topic) ∙ same_pair row in
      (track, (marks_for track.topic track.first track.marks (subst (IsAudited others) (sym same) audited) is, of))

-- ---- the pair of a row is audited, and both vessels are seen where its trace begins

module _ (numbers : AuditNumbers) (ticks : List Sighting) where
  began : (topic : Topic) (start : ℕ) (marks : List Mark) → AreMarksOf numbers ticks topic start marks → Begins numbers ticks (topic_pair topic) start
  began (Meeting pair) start marks h = h.begins
  began (OfVerdict pair rule) start marks h = h.of.begins

  pub row_began : (row : Row) → IsAuditRow numbers ticks row → (start : ℕ) × Begins numbers ticks (pair_of row) start
  row_began row (track, (is, of)) =
      let same : topic_pair track.topic ≡ pair_of row = ap topic_pair (sym of.2.topic) ∙ same_pair row in
      (track.first, subst (λ (pair : Pair). Begins numbers ticks pair track.first) same (began track.topic track.first track.marks is))

first_seen : (watch : ℕ) (a b : Option TickState) → AreInContact watch a b → IsSome a
first_seen watch None b h = absurd h
first_seen watch (Some a) None h = absurd h
first_seen watch (Some a) (Some b) h = refl

pub subject_seen : (numbers : AuditNumbers) (ticks : List Sighting) (pair : Pair) (start : ℕ) → Begins numbers ticks pair start → IsSome (seen_state_at ticks pair.subject start)
subject_seen numbers ticks pair start h =
    first_seen numbers.detect.watch (seen_state_at ticks pair.subject start) (seen_state_at ticks pair.other start) h.begins.contact

-- ---- rows whose subject is in a group

pub rows_of_a_subject : (numbers : AuditNumbers) (ticks : List Sighting) (group : List ℕ) (row : Row) → Contains group (pair_of row).subject
    → IsAuditRow (for_subjects group numbers) ticks row ↔ IsAuditRow (for_subjects [] numbers) ticks row
rows_of_a_subject numbers ticks group row inside = (
  (λ is. row_for numbers ticks group [] row (record { two = (row_began (for_subjects group numbers) ticks row is).1.audited.two; chosen = inl refl }) is),
  (λ is. row_for numbers ticks [] group row (record { two = (row_began (for_subjects [] numbers) ticks row is).1.audited.two; chosen = inr (inl inside) }) is),
)
