-- What a window of traces stands for: the vessels seen at the ticks that it took, what is known of each trace, and what was given.
use Rattle.std.specs.Prelude.{ℕ, ◌≡◌, ◌-◌, ◌≤◌, List, [], ◌∷◌, ◌++◌, length, get_or, set, All}
use Rattle.std.specs.List.{AllZip}
use Rattle.mtl_formulas.specs.declared.atom.Atom.{Atom}
use Rattle.mtl_formulas.specs.declared.verdict.Verdict.{Verdict}
use Rattle.meetings.specs.Atoms.{IsRankedRow}
use Rattle.traces.specs.Audited.{AuditNumbers, SeenVessels, Sighting, terms_of, trace_ranks}
use Rattle.traces.specs.Keeping.{Keeper}
use Rattle.traces.specs.Known.{AreKnown, AreOpened, IsFollowed, Known, next_step_of, watched}
use Rattle.traces.specs.Standing.{IsSound, StandsFor, given_of, traces_of}
use Rattle.traces.specs.declared.all_traces.AllTraces.{AllTraces}
use Rattle.traces.specs.declared.trace_window.TraceWindow.{TraceWindow}

-- ---- what a window is asked

-- its traces, and what is kept of each
abbrev pub traces_in : {K Kept : Type 0} → TraceWindow K Kept → AllTraces
traces_in window = window.traces

abbrev pub kept_in : {K Kept : Type 0} → TraceWindow K Kept → List Kept
kept_in window = window.kept.items

-- What is kept of a trace goes on, and the trace has no more than this number of steps.
pub record IsReadyFor {Kept Given : Type 0} (keeper : Keeper Kept Given) (most : ℕ) (kept : Kept) : Type 0 where
  pub ready : keeper.Ready kept
  pub few : keeper.steps kept ≤ most

-- ---- what each call finds and leaves, whatever the window stands for

pub record IsSoundWindow {K Kept Given : Type 0} (keeper : Keeper Kept Given) (window : TraceWindow K Kept) : Type 0 where
  pub traces : IsSound (traces_in window)
  pub goes_on : keeper.Sound
  pub many : length (kept_in window) ≡ traces_of (traces_in window)
  pub ready : All (IsReadyFor keeper (given_of (traces_in window))) (kept_in window)

-- ---- what it stands for

pub record WindowStandsFor {K Kept Given : Type 0} (keeper : Keeper Kept Given) (window : TraceWindow K Kept) (numbers : AuditNumbers) (ticks : List Sighting)
    (knowns : List Known) (given : Given) : Type 0 where
  pub are_known : AreKnown numbers ticks knowns
  pub stands : StandsFor (traces_in window) numbers ticks knowns
  pub keeps : keeper.Stands numbers (length ticks - 1) (kept_in window) [] knowns given

-- The trace with this index has taken its next step, and so has what is kept of it.
pub record TakesStep {Kept Given : Type 0} (old new : Keeper Kept Given) (numbers : AuditNumbers) (ticks : List Sighting) (seen : SeenVessels) (step : ℕ) (traces : AllTraces) (index : ℕ)
    (was is : Kept) (front : List Known) (known : Known) (back : List Known) : Type 0 where
  pub answers : Atom → Verdict
  pub row : IsRankedRow (terms_of numbers) (trace_ranks ticks known.pair known.start) (known.steps ++ next_step_of ticks seen known ∷ []) (length known.steps) answers
  pub stands : StandsFor traces numbers ticks (front ++ watched known (next_step_of ticks seen known) answers ∷ back)
  pub keeps : (kept : List Kept) (other : Kept) (given : Given) → old.Stands numbers step kept front (known ∷ back) given → get_or kept index other ≡ was
      → new.Stands numbers step (set kept index is) (front ++ watched known (next_step_of ticks seen known) answers ∷ []) back given

-- All traces have taken their step to the tick at which these vessels are seen.
pub record AreStepped {Kept Given : Type 0} (keeper : Keeper Kept Given) (numbers : AuditNumbers) (ticks : List Sighting) (seen : SeenVessels) (step : ℕ) (traces : AllTraces)
    (kept : List Kept) (knowns : List Known) (given : Given) : Type 0 where
  pub after : List Known
  pub followed : AllZip (IsFollowed numbers ticks seen) knowns after
  pub stands : StandsFor traces numbers ticks after
  pub keeps : keeper.Stands numbers step kept after [] given

-- The window took this tick: all traces have taken their step to it, and after them stand those that begin at it. They are all traces
-- of the ticks up to it.
pub record HasTakenTick {K Kept Given : Type 0} (keeper : Keeper Kept Given) (window : TraceWindow K Kept) (numbers : AuditNumbers) (ticks : List Sighting) (seen : Sighting)
    (knowns : List Known) (given : Given) : Type 0 where
  pub after : List Known
  pub followed : AllZip (IsFollowed numbers ticks seen.vessels) knowns after
  pub new : List Known
  pub opened : AreOpened (length ticks) new
  pub are_known : AreKnown numbers (ticks ++ seen ∷ []) (after ++ new)
  pub stands : StandsFor (traces_in window) numbers (ticks ++ seen ∷ []) (after ++ new)
  pub keeps : keeper.Stands numbers (length ticks - 1) (kept_in window) after new given
