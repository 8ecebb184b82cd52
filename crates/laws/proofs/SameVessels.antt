-- A row of a pair hangs on where its two vessels are seen, and on their ranks there.
use Rattle.std.proofs.Common.{◌≡◌, ℕ, ◌+◌, ◌-◌, List, length, sym, ap, subst, ◌∙◌}
use Rattle.std.specs.Prelude.{◌↔◌, Option}
use Rattle.encounters.specs.declared.pair_step.PairStep.{PairStep}
use Rattle.motion.specs.declared.leg.TickState.{TickState}
use Rattle.meetings.specs.Atoms.{AreRankedRows}
use Rattle.meetings.specs.Traces.{BeginsTrace, steps_from}
use Rattle.meetings.specs.declared.by_rank.ByRank.{ByRank}
use Rattle.meetings.specs.declared.pair.Pair.{Pair}
use Rattle.audit_rows.specs.Stretches.{mark_at}
use Rattle.audit_rows.specs.declared.mark.Mark.{Mark}
use Rattle.audit_rows.specs.declared.row.Row.{Row}
use Rattle.audit_rows.specs.declared.topic.Topic.{Topic}
use Rattle.audit_rows.specs.declared.topic.Topic.TheVariants.{Meeting, Verdict as OfVerdict}
use Rattle.auditor.specs.AuditRows.{IsAuditRow}
use Rattle.auditor.specs.AuditTracks.{AreMarksOf, AreMeetingMarks, AreRuleMarks, IsMeetingMark}
use Rattle.auditor.specs.Tallies.{pair_of as topic_pair}
use Rattle.traces.specs.Audited.{AuditNumbers, Begins, Sighting, seen_state_at, terms_of, trace_ranks, trace_steps}
use Rattle.traces.specs.PairRanks.{by_rank_of}
use Rattle.laws.specs.Reported.{pair_of}
use Rattle.laws.specs.Vessels.{IsSeenAs}
use Rattle.laws.proofs.OtherSubjects.{same_pair}

pub seen_back : (ticks others : List Sighting) (mmsi : ℕ) → IsSeenAs ticks others mmsi → IsSeenAs others ticks mmsi
seen_back ticks others mmsi h = record { state = λ k. sym (h.state k); rank = λ k. sym (h.rank k) }

module _ (numbers : AuditNumbers) (ticks others : List Sighting) (long : length ticks ≡ length others) (pair : Pair)
    (subject : IsSeenAs ticks others pair.subject) (other : IsSeenAs ticks others pair.other) where
  states_a : seen_state_at ticks pair.subject ≡ seen_state_at others pair.subject
  states_a = λ i k. subject.state k i

  states_b : seen_state_at ticks pair.other ≡ seen_state_at others pair.other
  states_b = λ i k. other.state k i

  begins_as : (start : ℕ) → Begins numbers ticks pair start → Begins numbers others pair start
  begins_as start h = record {
    audited = h.audited;
    begins = subst (λ (b : ℕ → Option TickState). BeginsTrace (seen_state_at others pair.subject) b numbers.detect.watch numbers.last_tick start) states_b
        (subst (λ (a : ℕ → Option TickState). BeginsTrace a (seen_state_at ticks pair.other) numbers.detect.watch numbers.last_tick start) states_a h.begins);
  }

  same_steps : (start : ℕ) → trace_steps numbers ticks pair start ≡ trace_steps numbers others pair start
  same_steps start = λ i. steps_from (states_a i) (states_b i) start (long i - 1 - start)

  same_ranks : (start : ℕ) → trace_ranks ticks pair start ≡ trace_ranks others pair start
  same_ranks start = λ i k. by_rank_of (subject.rank (start + k) i) (other.rank (start + k) i)

  meeting_as : (start : ℕ) (marks : List Mark) → AreMeetingMarks numbers ticks pair start marks → AreMeetingMarks numbers others pair start marks
  meeting_as start marks h = record {
    begins = begins_as start h.begins;
    count = h.count ∙ ap length (same_steps start);
    each = λ i lt. subst (λ (steps : List (Option PairStep)). IsMeetingMark numbers.detect steps i (mark_at marks i)) (same_steps start) (h.each i lt);
  }

  rule_as : (rule start : ℕ) (marks : List Mark) → AreRuleMarks numbers ticks pair rule start marks → AreRuleMarks numbers others pair rule start marks
  rule_as rule start marks h = record {
    within = h.within;
    trace = h.trace;
    of = record {
      begins = begins_as start h.of.begins;
      rows = subst (λ (ranks : ℕ → ByRank). AreRankedRows (terms_of numbers) ranks (trace_steps numbers others pair start) h.trace) (same_ranks start)
          (subst (λ (steps : List (Option PairStep)). AreRankedRows (terms_of numbers) (trace_ranks ticks pair start) steps h.trace) (same_steps start) h.of.rows);
    };
    count = h.count;
    each = h.each;
  }

module _ (numbers : AuditNumbers) (ticks others : List Sighting) (long : length ticks ≡ length others) where
  marks_as : (topic : Topic) (start : ℕ) (marks : List Mark) → IsSeenAs ticks others (topic_pair topic).subject → IsSeenAs ticks others (topic_pair topic).other
      → AreMarksOf numbers ticks topic start marks → AreMarksOf numbers others topic start marks
  marks_as (Meeting pair) start marks subject other h = meeting_as numbers ticks others long pair subject other start marks h
  marks_as (OfVerdict pair rule) start marks subject other h = rule_as numbers ticks others long pair subject other rule start marks h

  pub row_as : (row : Row) → IsSeenAs ticks others (pair_of row).subject → IsSeenAs ticks others (pair_of row).other → IsAuditRow numbers ticks row → IsAuditRow numbers others row
  row_as row subject other (track, (is, of)) =
      let same : topic_pair track.topic ≡ pair_of row = ap topic_pair (sym of.2.topic) ∙ same_pair row in (
        track,
        (
          marks_as track.topic track.first track.marks
              (subst (λ (pair : Pair). IsSeenAs ticks others pair.subject) (sym same) subject)
              (subst (λ (pair : Pair). IsSeenAs ticks others pair.other) (sym same) other) is,
          of,
        ),
      )

pub rows_of_two : (numbers : AuditNumbers) (ticks others : List Sighting) (row : Row) → length ticks ≡ length others → IsSeenAs ticks others (pair_of row).subject
    → IsSeenAs ticks others (pair_of row).other → IsAuditRow numbers ticks row ↔ IsAuditRow numbers others row
rows_of_two numbers ticks others row long subject other = (
  row_as numbers ticks others long row subject other,
  row_as numbers others ticks (sym long) row (seen_back ticks others (pair_of row).subject subject) (seen_back ticks others (pair_of row).other other),
)
