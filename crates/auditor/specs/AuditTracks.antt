-- The mark at each position of a trace: for its meeting, and for each rule.
use Rattle.std.specs.Prelude.{ℕ, ◌≡◌, ◌≤◌, ◌<◌, ◌↔◌, List, length, Option, Some, IsSomeAnd}
use Rattle.closest_approach.specs.Separation.{IsSeparated}
use Rattle.sectors.specs.declared.class.Class.{Class}
use Rattle.mtl_formulas.specs.Traces.{Trace, value_in}
use Rattle.rule_set.specs.NamedTrees.{rule_at}
use Rattle.encounters.specs.Engagement.{IsEngaged, IsState, seen_at}
use Rattle.encounters.specs.declared.detect.Detect.{Detect}
use Rattle.encounters.specs.declared.engagement_state.EngagementState.{EngagementState}
use Rattle.encounters.specs.declared.pair_step.PairStep.{PairStep}
use Rattle.motion.specs.Steps.{RelativeMove}
use Rattle.meetings.specs.Atoms.{AreRankedRows}
use Rattle.meetings.specs.SinceBeginning.{kind_of}
use Rattle.meetings.specs.declared.pair.Pair.{Pair}
use Rattle.audit_rows.specs.Stretches.{mark_at}
use Rattle.audit_rows.specs.Tracks.{Track}
use Rattle.audit_rows.specs.declared.mark.Mark.{Mark}
use Rattle.audit_rows.specs.declared.mark.Mark.TheVariants.{Nothing, Broken, Undecided, Engaged}
use Rattle.audit_rows.specs.declared.topic.Topic.{Topic}
use Rattle.audit_rows.specs.declared.topic.Topic.TheVariants.{Meeting, Verdict as OfVerdict}
use Rattle.auditor.specs.ValueMarks.{mark_of}
use Rattle.traces.specs.Audited.{Begins, AuditNumbers, Sighting, terms_of, trace_ranks, trace_steps}

-- ---- a position of a trace with these steps

-- The step is separated by this distance, and by no greater one.
abbrev pub IsLeastSeparation : ℕ → RelativeMove → Type 0
IsLeastSeparation least step = (m : ℕ) → IsSeparated step m ↔ (m ≤ least)

-- They are engaged there with this kind.
abbrev pub IsKind : Detect → List (Option PairStep) → ℕ → Class → Type 0
IsKind detect steps i kind = (state : EngagementState) × (IsState detect steps i state × (kind_of state ≡ Some kind))

-- If they are engaged, the mark has the kind and the least distance of the step.
abbrev pub IsMeetingMark : Detect → List (Option PairStep) → ℕ → Mark → Type 0
IsMeetingMark detect steps i Nothing = ¬ IsEngaged detect steps i
IsMeetingMark detect steps i Broken = ⊥
IsMeetingMark detect steps i Undecided = ⊥
IsMeetingMark detect steps i (Engaged kind least) =
    IsKind detect steps i kind × IsSomeAnd (seen_at steps i) (λ pair. IsLeastSeparation least pair.step)

-- ---- the tracks of all traces

module _ (numbers : AuditNumbers) (ticks : List Sighting) where
  -- the marks of a meeting, one for each step of the trace
  pub record AreMeetingMarks (pair : Pair) (start : ℕ) (marks : List Mark) : Type 0 where
    pub begins : Begins numbers ticks pair start
    pub count : length marks ≡ length (trace_steps numbers ticks pair start)
    pub each : (i : ℕ) → i < length marks → IsMeetingMark numbers.detect (trace_steps numbers ticks pair start) i (mark_at marks i)

  -- the values of the atoms at each step of the trace, by the ranks at the tick at which the engagement there began
  pub record IsTraceOf (pair : Pair) (start : ℕ) (trace : Trace) : Type 0 where
    pub begins : Begins numbers ticks pair start
    pub rows : AreRankedRows (terms_of numbers) (trace_ranks ticks pair start) (trace_steps numbers ticks pair start) trace

  -- the marks of a rule, one for each step of the trace: the values of its formula there
  pub record AreRuleMarks (pair : Pair) (rule start : ℕ) (marks : List Mark) : Type 0 where
    pub within : rule < length numbers.rules
    pub trace : Trace
    pub of : IsTraceOf pair start trace
    pub count : length marks ≡ length trace
    pub each : (i : ℕ) → i < length marks → mark_at marks i ≡ mark_of (value_in trace (rule_at numbers.rules rule).tree i)

  abbrev pub AreMarksOf : Topic → ℕ → List Mark → Type 0
  AreMarksOf (Meeting pair) start marks = AreMeetingMarks pair start marks
  AreMarksOf (OfVerdict pair rule) start marks = AreRuleMarks pair rule start marks

  abbrev pub IsTrack : Track → Type 0
  IsTrack track = AreMarksOf track.topic track.first track.marks
