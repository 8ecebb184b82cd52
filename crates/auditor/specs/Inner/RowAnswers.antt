-- What the answers to one row bring to the tracks of a trace's rules.
use Rattle.std.specs.Prelude.{ℕ, ◌≡◌, ◌+◌, List, [], ◌∷◌, ◌++◌, length, Option, Some, None}
use Rattle.mtl_formulas.specs.FormulaTree.{FormulaTree}
use Rattle.mtl_formulas.specs.declared.verdict.Verdict.{Verdict}
use Rattle.mtl_monitor.specs.Following.{Closes, Follows, IsEnded, IsFed, formula_at, past_of}
use Rattle.mtl_formulas.specs.Traces.{Trace}
use Rattle.mtl_monitor.specs.declared.program.Program.{Program}
use Rattle.mtl_monitor.specs.declared.trace_state.TraceState.{TraceState}
use Rattle.audit_rows.specs.Tracks.{Track, longer, next_step}
use Rattle.audit_rows.specs.declared.row.Row.{Row}
use Rattle.auditor.specs.ValueMarks.{mark_of}
use Rattle.audit_rows.specs.Standing.{QueueStandsFor}
use Rattle.audit_rows.specs.declared.row_queue.RowQueue.{RowQueue}
use Rattle.auditor.specs.declared.trace.AuditTrace.{AuditTrace}

-- a position and its value, where there is one
abbrev pub Answer : Type 0
Answer = Option (ℕ × Verdict)

-- The formula of this index answers so to the last row.
pub record IsAnswer (program : Program) (values : TraceState) (rule : ℕ) (answer : Answer) : Type 0 where
  pub fed : (formulas : List FormulaTree) (rows : Trace) → Follows program values formulas rows → IsFed answer (formula_at formulas rule) rows
  pub ended : (formulas : List FormulaTree) (rows : Trace) → Closes program values formulas rows
      → IsEnded answer (formula_at formulas rule) rows (past_of values)

-- So do the formulas from this index on.
abbrev pub AreAnswers : Program → TraceState → ℕ → List Answer → Type 0
AreAnswers program values rule [] = Unit {0}
AreAnswers program values rule (answer ∷ answers) = IsAnswer program values rule answer × AreAnswers program values (rule + 1) answers

-- ---- the tracks with the marks of their answers

abbrev pub answered : Answer → Track → Track
answered None track = track
answered (Some answer) track = longer track (mark_of answer.1)

abbrev pub answered_all : List Answer → List Track → List Track
answered_all [] tracks = tracks
answered_all (answer ∷ answers) [] = []
answered_all (answer ∷ answers) (track ∷ tracks) = answered answer track ∷ answered_all answers tracks

-- The answer is for the next position of the track, in a trace that begins at this step.
abbrev pub Awaits : ℕ → Answer → Track → Type 0
Awaits start None track = Unit {0}
Awaits start (Some answer) track = start + answer.0 ≡ next_step track

abbrev pub AwaitAll : ℕ → List Answer → List Track → Type 0
AwaitAll start [] [] = Unit {0}
AwaitAll start [] (track ∷ tracks) = ⊥
AwaitAll start (answer ∷ answers) [] = ⊥
AwaitAll start (answer ∷ answers) (track ∷ tracks) = Awaits start answer track × AwaitAll start answers tracks

-- ---- what marking brings to the queue

-- The track at the index has the mark of its rule's answer.
pub record MarksRule (program : Program) (trace : AuditTrace) (index rule : ℕ) (old new : RowQueue) : Type 0 where
  pub answer : Answer
  pub is : IsAnswer program trace.values rule answer
  pub keeps : (bound : ℕ) (before : List Track) (track : Track) (after : List Track) (given : List Row) → index ≡ length before
      → Awaits trace.start answer track → QueueStandsFor old (before ++ track ∷ after) bound given
      → QueueStandsFor new (before ++ answered answer track ∷ after) bound given

-- So have the tracks of so many rules, from the index on.
pub record MarksRules (program : Program) (trace : AuditTrace) (first count : ℕ) (old new : RowQueue) : Type 0 where
  pub answers : List Answer
  pub many : length answers ≡ count
  pub are : AreAnswers program trace.values 0 answers
  pub keeps : (bound : ℕ) (before mine after : List Track) (given : List Row) → first ≡ length before
      → AwaitAll trace.start answers mine → QueueStandsFor old (before ++ (mine ++ after)) bound given
      → QueueStandsFor new (before ++ (answered_all answers mine ++ after)) bound given
