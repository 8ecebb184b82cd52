-- The state of one trace so far, and its tracks.
use Rattle.std.specs.Prelude.{ℕ, ◌≡◌, ◌+◌, ◌-◌, ◌<◌, List, [], ◌∷◌, ◌++◌, length, Option}
use Rattle.mtl_formulas.specs.FormulaTree.{FormulaTree}
use Rattle.mtl_formulas.specs.FormulaMeasures.{reach_of}
use Rattle.mtl_formulas.specs.declared.atom.Atom.{Atom}
use Rattle.mtl_formulas.specs.declared.verdict.Verdict.{Verdict}
use Rattle.mtl_formulas.specs.Traces.{Trace, value_in}
use Rattle.mtl_monitor.specs.Following as monitor
use Rattle.mtl_monitor.specs.declared.program.Program.{Program}
use Rattle.encounters.specs.declared.pair_step.PairStep.{PairStep}
use Rattle.audit_rows.specs.Stretches.{mark_at}
use Rattle.audit_rows.specs.Tracks.{Track}
use Rattle.audit_rows.specs.declared.mark.Mark.{Mark}
use Rattle.audit_rows.specs.declared.topic.Topic.TheVariants as topic
use Rattle.traces.specs.Audited.{AuditNumbers}
use Rattle.traces.specs.Known.{Known, watched}
use Rattle.auditor.specs.SettledRows.{formulas_of}
use Rattle.auditor.specs.AuditTracks.{IsMeetingMark}
use Rattle.auditor.specs.ValueMarks.{mark_of}
use Rattle.audit_rows.specs.declared.row.Row.{Row}
use Rattle.audit_rows.specs.Standing.{QueueStandsFor}
use Rattle.audit_rows.specs.declared.row_queue.RowQueue.{RowQueue}
use Rattle.auditor.specs.declared.trace.AuditTrace.{AuditTrace}

-- ---- its tracks

-- One mark per step.
pub record AreMeetingMarksSoFar (numbers : AuditNumbers) (steps : List (Option PairStep)) (marks : List Mark) : Type 0 where
  pub count : length marks ≡ length steps
  pub each : (i : ℕ) → i < length marks → IsMeetingMark numbers.detect steps i (mark_at marks i)

-- The marks of a rule at the positions whose values no further step changes.
pub record AreRuleMarksSoFar (tree : FormulaTree) (trace : Trace) (marks : List Mark) : Type 0 where
  pub count : length marks ≡ length trace - reach_of tree
  pub each : (i : ℕ) → i < length marks → (more : Trace) → mark_at marks i ≡ mark_of (value_in (trace ++ more) tree i)

-- The marks of a rule at all positions.
pub record AreRuleMarksWhole (tree : FormulaTree) (trace : Trace) (marks : List Mark) : Type 0 where
  pub count : length marks ≡ length trace
  pub each : (i : ℕ) → i < length marks → mark_at marks i ≡ mark_of (value_in trace tree i)

-- A track per rule, from the rule at this index.
module _ (AreMarks : FormulaTree → Trace → List Mark → Type 0) (known : Known) where
  pub record IsRuleTrack (rule : ℕ) (tree : FormulaTree) (track : Track) : Type 0 where
    pub topic : track.topic ≡ topic.Verdict known.pair rule
    pub first : track.first ≡ known.start
    pub marks : AreMarks tree known.trace track.marks

  abbrev pub AreRuleTracks : ℕ → List FormulaTree → List Track → Type 0
  AreRuleTracks rule [] [] = Unit {0}
  AreRuleTracks rule (tree ∷ trees) (track ∷ tracks) = IsRuleTrack rule tree track × AreRuleTracks (rule + 1) trees tracks
  AreRuleTracks rule _ _ = ⊥

-- Its tracks: the meeting's, and then one for each rule.
pub record IsMeetingTrack (numbers : AuditNumbers) (known : Known) (track : Track) : Type 0 where
  pub topic : track.topic ≡ topic.Meeting known.pair
  pub first : track.first ≡ known.start
  pub marks : AreMeetingMarksSoFar numbers known.steps track.marks

abbrev pub AreTracks : (FormulaTree → Trace → List Mark → Type 0) → AuditNumbers → Known → List Track → Type 0
AreTracks AreMarks numbers known [] = ⊥
AreTracks AreMarks numbers known (meeting ∷ rules) =
    IsMeetingTrack numbers known meeting × AreRuleTracks AreMarks known 0 (formulas_of numbers) rules

abbrev pub AreTracksSoFar : AuditNumbers → Known → List Track → Type 0
AreTracksSoFar = AreTracks AreRuleMarksSoFar

abbrev pub AreTracksWhole : AuditNumbers → Known → List Track → Type 0
AreTracksWhole = AreTracks AreRuleMarksWhole

-- ---- its state

-- It continues with this program: no row has passed beyond its end.
pub record IsReady (program : Program) (trace : AuditTrace) : Type 0 where
  pub fits : monitor.Fits program trace.values
  pub unended : monitor.past_of trace.values ≡ 0

-- the number of its steps
abbrev pub steps_of : AuditTrace → ℕ
steps_of trace = monitor.fed_of trace.values

pub record StandsFor (program : Program) (numbers : AuditNumbers) (trace : AuditTrace) (known : Known) : Type 0 where
  pub start : trace.start ≡ known.start
  pub rows : length known.trace ≡ length known.steps
  pub values : monitor.Follows program trace.values (formulas_of numbers) known.trace

-- ---- the effect of a step and of the end, among the tracks of other traces

-- After the next step and its values, the trace has these tracks.
pub record Steps (program : Program) (numbers : AuditNumbers) (trace : AuditTrace) (known : Known) (seen : Option PairStep) (answers : Atom → Verdict) (queue : RowQueue)
    (before after : List Track) (bound : ℕ) (given : List Row) : Type 0 where
  pub stands : StandsFor program numbers trace (watched known seen answers)
  pub mine : List Track
  pub tracks : AreTracksSoFar numbers (watched known seen answers) mine
  pub keeps : QueueStandsFor queue (before ++ mine ++ after) bound given

-- At its end it has marks at all positions.
pub record HasTracksOf (numbers : AuditNumbers) (known : Known) (queue : RowQueue) (before after : List Track) (bound : ℕ) (given : List Row) : Type 0 where
  pub mine : List Track
  pub tracks : AreTracksWhole numbers known mine
  pub keeps : QueueStandsFor queue (before ++ mine ++ after) bound given
