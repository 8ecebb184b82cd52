-- What is known of the traces so far.
use Rattle.std.specs.Prelude.{ℕ, ◌≡◌, ◌≢◌, ◌+◌, ◌-◌, List, [], ◌∷◌, ◌++◌, length, map, Option}
use Rattle.std.specs.List.{AllByRecursion, AllPairs, Contains}
use Rattle.mtl_formulas.specs.declared.atom.Atom.{Atom}
use Rattle.mtl_formulas.specs.declared.verdict.Verdict.{Verdict}
use Rattle.mtl_formulas.specs.Traces.{Trace}
use Rattle.encounters.specs.declared.pair_step.PairStep.{PairStep}
use Rattle.meetings.specs.Atoms.{AreRankedRows, IsRankedRow}
use Rattle.meetings.specs.declared.pair.Pair.{Pair}
use Rattle.traces.specs.Audited.{Begins, AuditNumbers, SeenVessels, Sighting, last_sighting, step_of, terms_of, trace_ranks, trace_steps}

-- a trace by its steps so far, and what they answer to the atoms
pub record Known : Type 0 where
  pub pair : Pair
  pub start : ℕ
  pub steps : List (Option PairStep)
  pub trace : Trace

abbrev pub pairs_of : List Known → List Pair
pairs_of knowns = map (λ known. known.pair) knowns

-- a trace of no steps yet
abbrev pub opened : Pair → ℕ → Known
opened pair start = record { pair = pair; start = start; steps = []; trace = [] }

-- the same with its next step
abbrev pub watched : Known → Option PairStep → (Atom → Verdict) → Known
watched known seen answers = record { pair = known.pair; start = known.start; steps = known.steps ++ seen ∷ []; trace = known.trace ++ answers ∷ [] }

-- ---- the traces of these ticks

-- The trace is one of these ticks, with its steps so far and what they answer.
pub record IsKnown (numbers : AuditNumbers) (ticks : List Sighting) (known : Known) : Type 0 where
  pub begins : Begins numbers ticks known.pair known.start
  pub steps : known.steps ≡ trace_steps numbers ticks known.pair known.start
  pub rows : AreRankedRows (terms_of numbers) (trace_ranks ticks known.pair known.start) known.steps known.trace

-- The list holds each trace that these ticks have begun, once.
pub record AreKnown (numbers : AuditNumbers) (ticks : List Sighting) (knowns : List Known) : Type 0 where
  pub each : (known : Known) → Contains knowns known → IsKnown numbers ticks known
  pub all : (pair : Pair) (start : ℕ) → Begins numbers ticks pair start → Contains (pairs_of knowns) pair
  pub once : AllPairs ◌≢◌ (pairs_of knowns)

-- ---- their next steps

-- It has its steps up to the last of these ticks.
abbrev pub IsUpTo : List Sighting → Known → Type 0
IsUpTo ticks known = known.start + length known.steps ≡ length ticks - 1

-- its step from the last of these ticks to the one at which these vessels are seen
abbrev pub next_step_of : List Sighting → SeenVessels → Known → Option PairStep
next_step_of ticks seen known = step_of known.pair (last_sighting ticks).vessels seen

-- The trace is the same with this step.
pub record IsFollowed (numbers : AuditNumbers) (ticks : List Sighting) (seen : SeenVessels) (known after : Known) : Type 0 where
  pub answers : Atom → Verdict
  pub is : after ≡ watched known (next_step_of ticks seen known) answers
  pub row : IsRankedRow (terms_of numbers) (trace_ranks ticks known.pair known.start) (known.steps ++ next_step_of ticks seen known ∷ []) (length known.steps) answers

-- Each of the traces begins at this tick, and has no steps yet.
abbrev pub AreOpened : ℕ → List Known → Type 0
AreOpened start knowns = AllByRecursion (λ (known : Known). known ≡ opened known.pair start) knowns
