-- The trace of an ordered pair of vessels (A, B): its steps from the first tick at which they are near each other.
use Rattle.std.specs.Prelude.{ℕ, zero, suc, ◌≡◌, ◌+◌, ◌-◌, ◌*◌, ◌^◌, ◌<◌, List, [], ◌∷◌, Option, Some, None, IfSome, pos, ◌≤ℤ◌, ⊤}
use Rattle.fixed_geometry.specs.Plane.{norm2_of}
use Rattle.fixed_geometry.specs.Sizes.{IsBelow}
use Rattle.motion.specs.Displacement.{displacement}
use Rattle.motion.specs.declared.leg.TickState.{TickState}
use Rattle.encounters.specs.declared.pair_step.PairStep.{PairStep}

-- A and B are at most `watch` apart.
abbrev pub IsContact : ℕ → TickState → TickState → Type 0
IsContact watch a b = norm2_of (displacement a.point b.point) ≤ℤ pos (watch * watch)

-- Both are seen, and in contact.
abbrev pub AreInContact : ℕ → Option TickState → Option TickState → Type 0
AreInContact watch (Some a) (Some b) = IsContact watch a b
AreInContact watch _ _ = ⊥

-- the step from one tick, at which A is seen as a0 and B as b0, to the next, as a1 and b1: it is seen if both are at both
abbrev pub step_between : Option TickState → Option TickState → Option TickState → Option TickState → Option PairStep
step_between (Some a0) (Some b0) (Some a1) (Some b1) = Some (record {
  step = record { p = displacement a0.point b0.point; w = displacement (displacement a0.point b0.point) (displacement a1.point b1.point) };
  a = a0;
  b = b0;
})
step_between _ _ _ _ = None

-- If a vessel is seen, her point is one that a step may have.
abbrev pub IsPlaced : Option TickState → Type 0
IsPlaced seen = IfSome seen (λ state. IsBelow (2 ^ 33) state.point)

-- If she is seen at two ticks, her move is within the limits of a step.
abbrev pub IsShortMove : Option TickState → Option TickState → Type 0
IsShortMove (Some before) (Some after) = IsBelow (2 ^ 25) (displacement before.point after.point)
IsShortMove _ _ = ⊤

-- Both vessels by their states at each tick, if they are seen.
module _ (a b : ℕ → Option TickState) where
  abbrev pub step_at : ℕ → Option PairStep
  step_at i = step_between (a i) (b i) (a (i + 1)) (b (i + 1))

  -- this many steps from tick i
  abbrev pub steps_from : ℕ → ℕ → List (Option PairStep)
  steps_from i zero = []
  steps_from i (suc count) = step_at i ∷ steps_from (i + 1) count

  -- Both are seen at tick i, at most `watch` apart.
  abbrev pub IsContactAt : ℕ → ℕ → Type 0
  IsContactAt watch i = AreInContact watch (a i) (b i)

  -- The trace begins at the least tick before the last, `end`, at which they are in contact.
  pub record BeginsTrace (watch end start : ℕ) : Type 0 where
    pub before_end : start < end
    pub contact : IsContactAt watch start
    pub least : (i : ℕ) → i < start → ¬ IsContactAt watch i

  -- The steps of the trace are those from there. A pair without such a tick has none.
  pub record IsTrace (watch end start : ℕ) (steps : List (Option PairStep)) : Type 0 where
    pub begins : BeginsTrace watch end start
    pub are_steps : steps ≡ steps_from start (end - start)
