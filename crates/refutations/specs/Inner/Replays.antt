-- What is kept from one entry of a list to the next: own ship's path under the latest plan, and for each target the rows of her trace so far.
use Rattle.std.specs.Prelude.{ℕ, ◌≡◌, ◌+◌, ◌*◌, ◌≤◌, ◌<◌, List, length, get_or, map, slice_index}
use Rattle.lattice.specs.Grids.{choices_of, positions_of}
use Rattle.lattice.specs.OwnMotion.{choice_in_force}
use Rattle.lattice.specs.PlanNumbers.{IsPlan}
use Rattle.lattice.specs.declared.under_way.UnderWay.{UnderWay}
use Rattle.meetings.specs.Answers.{answer_of}
use Rattle.meetings.specs.Standing.{Follows, Following}
use Rattle.meetings.specs.Traces.{steps_from}
use Rattle.plan_situations.specs.FailingPlans.{AreTraceRows, BeginsAt}
use Rattle.plan_situations.specs.Paths.{HasReached, IsPath, IsTrack}
use Rattle.plan_situations.specs.Situations.{end_of, own_at, target_at, terms_of, IsSituation}
use Rattle.plan_situations.specs.declared.situation.Situation.{Situation}
use Rattle.plan_situations.specs.declared.situation.Target.{Target}
use Rattle.refutations.specs.declared.course.Course.{Course}
use Rattle.refutations.specs.declared.replay.Replay.{Replay}
use Rattle.refutations.specs.declared.trace_so_far.TraceSoFar.{TraceSoFar}

-- the situation of a course
abbrev pub situation_in : Course → Situation
situation_in course = course.situation.now

-- Two plans give own ship the same orders in this many steps from now.
pub record AreSteeredAlike (situation : Situation) (plan other : List ℕ) (steps : ℕ) : Type 0 where
  pub orders : (step : ℕ) → step < steps → choice_in_force situation.lattice plan step ≡ choice_in_force situation.lattice other step

-- The first of a list are where own ship is as each leg of a plan begins.
pub record AreBeginnings (situation : Situation) (plan : List ℕ) (known : ℕ) (beginnings : List UnderWay) : Type 0 where
  pub reached : (leg : ℕ) (d : UnderWay) → leg < known → HasReached situation plan (leg * situation.lattice.leg_ticks) (get_or beginnings leg d)

-- A course is a plan of its situation, with own ship's whole path under it, and where the first legs begin.
pub record IsCourse (course : Course) : Type 0 where
  pub situation : IsSituation (situation_in course)
  pub plan : IsPlan (choices_of (situation_in course).lattice) (situation_in course).lattice.legs course.plan
  pub whole : length course.path.items ≡ positions_of (situation_in course).lattice + 1
  pub path : IsPath (situation_in course) course.plan 0 course.path.items
  pub track : IsTrack course.path.items
  pub legs : length course.beginnings.items ≡ (situation_in course).lattice.legs
  pub known : course.known ≤ (situation_in course).lattice.legs
  pub beginnings : AreBeginnings (situation_in course) course.plan course.known course.beginnings.items

-- Two plans have this many first legs in common.
pub record HaveInCommon (plan other : List ℕ) (legs : ℕ) : Type 0 where
  pub alike : (leg : ℕ) → leg < legs → slice_index plan leg ≡ slice_index other leg

-- the tick up to which a trace has rows
abbrev pub told_to : TraceSoFar → ℕ
told_to trace = trace.start + length trace.rows.items

-- A trace of own ship and a target has the rows of the steps up to a tick, and what follows both after each. If it has none it has not begun.
pub record IsTraceSoFar (situation : Situation) (plan : List ℕ) (target : Target) (trace : TraceSoFar) : Type 0 where
  pub within : told_to trace ≤ end_of situation
  pub begins : 0 < length trace.rows.items → BeginsAt situation plan (told_to trace) target trace.start
  pub rows : AreTraceRows situation plan (told_to trace) target trace.start (map answer_of trace.rows.items)
  pub as_many : length trace.followers.items ≡ length trace.rows.items
  pub followers : (j : ℕ) (d : Following) → j < length trace.followers.items
      → Follows (get_or trace.followers.items j d) (terms_of situation) (steps_from (own_at situation plan) (target_at situation target) trace.start (j + 1))

-- What is kept of each target is her trace so far under the plan for which it was computed.
pub record IsReplay (replay : Replay) : Type 0 where
  pub course : IsCourse replay.course
  pub as_many : length replay.traces.items ≡ length (situation_in replay.course).targets
  pub traces : (k : ℕ) (T : Target) (trace : TraceSoFar) → k < length replay.traces.items
      → IsTraceSoFar (situation_in replay.course) (get_or replay.traces.items k trace).plan (get_or (situation_in replay.course).targets k T) (get_or replay.traces.items k trace)
