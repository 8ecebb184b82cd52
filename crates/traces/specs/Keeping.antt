-- What is done with the traces of a window, one trace after the other.
use Rattle.std.specs.Prelude.{ℕ, ◌≡◌, ◌+◌, ◌<◌, ◌≤◌, List, [], ◌∷◌, ◌++◌, length, get_or, set, Option}
use Rattle.std.specs.List.{Contains}
use Rattle.std.specs.Option.{option_copied}
use Rattle.encounters.specs.Standing.{IsStateAfter}
use Rattle.encounters.specs.declared.engagement_state.EngagementState.TheVariants.{Apart}
use Rattle.encounters.specs.declared.pair_step.PairStep.{PairStep}
use Rattle.mtl_formulas.specs.Glances.{IsTold}
use Rattle.mtl_formulas.specs.declared.atom.Atom.{Atom}
use Rattle.mtl_formulas.specs.declared.glance.Glance.{Glance}
use Rattle.mtl_formulas.specs.declared.verdict.Verdict.{Verdict}
use Rattle.meetings.specs.Answers.{answer_of}
use Rattle.meetings.specs.Atoms.{IsRankedRow}
use Rattle.meetings.specs.declared.by_rank.ByRank.{ByRank}
use Rattle.meetings.specs.declared.pair.Pair.{Pair}
use Rattle.traces.specs.Audited.{AuditNumbers, terms_of}
use Rattle.traces.specs.Known.{Known, opened, pairs_of, watched}
use Rattle.traces.specs.declared.next_row.NextRow.{NextRow}

-- The row is that of this step of the trace, where the ranks say this at its steps, with the state of the engagement before the step
-- and at it.
pub record IsNextRow (numbers : AuditNumbers) (ranks : ℕ → ByRank) (known : Known) (step : Option PairStep) (next : NextRow) : Type 0 where
  pub seen : option_copied next.seen ≡ step
  pub was : IsStateAfter numbers.detect known.steps next.was.now
  pub is : IsStateAfter numbers.detect (known.steps ++ step ∷ []) next.is.now
  pub row : IsRankedRow (terms_of numbers) ranks (known.steps ++ step ∷ []) (length known.steps) (answer_of next.row.now)

-- The row is that of this step of the trace. The vessels are apart before the step and at it, and a glance at the row shows this.
pub record IsApartRow (numbers : AuditNumbers) (ranks : ℕ → ByRank) (known : Known) (step : Option PairStep) (glance : Glance) (answers : Atom → Verdict) : Type 0 where
  pub was : IsStateAfter numbers.detect known.steps Apart
  pub is : IsStateAfter numbers.detect (known.steps ++ step ∷ []) Apart
  pub row : IsRankedRow (terms_of numbers) ranks (known.steps ++ step ∷ []) (length known.steps) answers
  pub shows : IsTold glance answers

-- The next step of the trace is the one with this number.
abbrev pub IsAtStep : ℕ → Known → Type 0
IsAtStep step known = (step ≡ known.start + length known.steps) × (known.start ≤ step)

-- What a keeper of traces is: when it goes on, also with what is kept of one trace; how many steps that trace has; and what it stands
-- for. `Stands` relates the numbers, the number of the step and what is kept of each trace to the traces that have taken the step, to
-- those that have not, and to what was given before. `Ends` does the same for the traces that have ended and those that have not.
pub record Keeper (Kept Given : Type 0) : Type 1 where
  pub Sound : Type 0
  pub Ready : Kept → Type 0
  pub steps : Kept → ℕ
  pub Stands : AuditNumbers → ℕ → List Kept → List Known → List Known → Given → Type 0
  pub Ends : AuditNumbers → ℕ → List Kept → List Known → List Known → Given → Type 0

-- It goes on, and leaves what is kept of the other traces.
pub record GoesOn {Kept Given : Type 0} (old new : Keeper Kept Given) : Type 0 where
  pub sound : new.Sound
  pub ready : (kept : Kept) → old.Ready kept → new.Ready kept
  pub steps : (kept : Kept) → new.steps kept ≡ old.steps kept

-- The trace of a pair has begun at a step.
pub record HasBegunTrace {Kept Given : Type 0} (old new : Keeper Kept Given) (pair : Pair) (start : ℕ) (begun : Kept) : Type 0 where
  pub goes_on : GoesOn old new
  pub ready : new.Ready begun
  pub none : new.steps begun ≡ 0
  pub stands : (numbers : AuditNumbers) (step : ℕ) (kept : List Kept) (done rest : List Known) (given : Given) → old.Stands numbers step kept done rest given
      → step ≤ start → (Contains (pairs_of (done ++ rest)) pair → ⊥)
      → new.Stands numbers step (kept ++ begun ∷ []) done (rest ++ opened pair start ∷ []) given

-- The trace with this index has taken its next step.
pub record HasTakenStep {Kept Given : Type 0} (old new : Keeper Kept Given) (index step : ℕ) (next : NextRow) (was is : Kept) : Type 0 where
  pub goes_on : GoesOn old new
  pub ready : new.Ready is
  pub one_more : new.steps is ≡ old.steps was + 1
  pub stands : (numbers : AuditNumbers) (ranks : ℕ → ByRank) (kept : List Kept) (other : Kept) (done rest : List Known) (known : Known) (seen : Option PairStep) (given : Given)
      → old.Stands numbers step kept done (known ∷ rest) given → index ≡ length done → get_or kept index other ≡ was
      → IsAtStep step known → IsNextRow numbers ranks known seen next
      → new.Stands numbers step (set kept index is) (done ++ watched known seen (answer_of next.row.now) ∷ []) rest given

-- The trace with this index has taken its next step without its row: the vessels are apart there, as a glance shows.
pub record HasRested {Kept Given : Type 0} (keeper : Keeper Kept Given) (index step : ℕ) (glance : Glance) (was is : Kept) : Type 0 where
  pub ready : keeper.Ready is
  pub one_more : keeper.steps is ≡ keeper.steps was + 1
  pub stands : (numbers : AuditNumbers) (ranks : ℕ → ByRank) (kept : List Kept) (other : Kept) (done rest : List Known) (known : Known) (seen : Option PairStep) (answers : Atom → Verdict) (given : Given)
      → keeper.Stands numbers step kept done (known ∷ rest) given → index ≡ length done → get_or kept index other ≡ was
      → IsAtStep step known → IsApartRow numbers ranks known seen glance answers
      → keeper.Stands numbers step (set kept index is) (done ++ watched known seen answers ∷ []) rest given

-- The trace with this index has ended.
pub record HasEndedTrace {Kept Given : Type 0} (old new : Keeper Kept Given) (index : ℕ) (was is : Kept) : Type 0 where
  pub goes_on : GoesOn old new
  pub ends : (numbers : AuditNumbers) (step : ℕ) (kept : List Kept) (other : Kept) (ended rest : List Known) (known : Known) (given : Given)
      → old.Ends numbers step kept ended (known ∷ rest) given → index ≡ length ended → index < length kept → get_or kept index other ≡ was
      → new.Ends numbers step (set kept index is) (ended ++ known ∷ []) rest given
