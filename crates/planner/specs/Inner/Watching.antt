-- What is kept of a target stands for the steps so far.
use Rattle.std.specs.Prelude.{ℕ, ◌≡◌, ◌+◌, ◌-◌, ◌<◌, ◌≤◌, ◌↔◌, Bool, IsTrue, List, [], length, take, true, false, Option, All}
use Rattle.encounters.specs.declared.pair_step.PairStep.{PairStep}
use Rattle.meetings.specs.Standing as meetings
use Rattle.meetings.specs.Traces.{IsContactAt, step_at, steps_from}
use Rattle.mtl_monitor.specs.Following as monitor
use Rattle.mtl_formulas.specs.Traces.{Trace}
use Rattle.mtl_monitor.specs.declared.program.Program.{Program}
use Rattle.plan_situations.specs.FailingPlans.{AreTraceRows, BeginsAt, BreaksARule}
use Rattle.rule_program.specs.Lags.{IsNoLast}
use Rattle.planner.specs.Inner.Breaking.{IsCalm, IsNewlyBrokenAt, Tells, formulas_of}
use Rattle.plan_situations.specs.Situations.{now_of, own_at, target_at, terms_of, IsSituation, IsTarget}
use Rattle.plan_situations.specs.declared.situation.Situation.{Situation}
use Rattle.plan_situations.specs.declared.situation.Target.{Target}
use Rattle.planner.specs.declared.towards.Towards.{Towards}
use Rattle.planner.specs.declared.watched.Watched.{Watched}

-- It continues by this program, and has the places that it takes. If it says that it is calm, so it is.
pub record IsReady (program : Program) (watched : Watched) : Type 0 where
  pub fits : monitor.Fits program watched.values
  pub room : monitor.HasRoom program watched.values
  pub unended : monitor.past_of watched.values ≡ 0
  pub calm : watched.calm ≡ true → IsCalm program watched.values

-- It was fed at most this many rows.
pub record IsEarly (at : ℕ) (watched : Watched) : Type 0 where
  pub fed : monitor.fed_of watched.values ≤ at
  pub since : watched.since_now ≤ at

module _ (program : Program) (situation : Situation) (plan : List ℕ) (target : Target) where
  -- The vessels were not in contact before this tick.
  pub record HasNotBegun (at : ℕ) (watched : Watched) : Type 0 where
    pub apart : (k : ℕ) → k < at → ¬ IsContactAt (own_at situation plan) (target_at situation target) situation.detect.watch k
    pub follows : meetings.Follows watched.follower (terms_of situation) []
    pub values : monitor.Follows program watched.values (formulas_of situation) []

  -- Their trace has these rows up to this tick.
  pub record HasBegun (at : ℕ) (watched : Watched) : Type 0 where
    pub start : ℕ
    pub rows : Trace
    pub begins : BeginsAt situation plan at target start
    pub are_rows : AreTraceRows situation plan at target start rows
    pub follows : meetings.Follows watched.follower (terms_of situation) (steps_from (own_at situation plan) (target_at situation target) start (at - start))
    pub values : monitor.Follows program watched.values (formulas_of situation) rows

  pub record StandsFor (at : ℕ) (watched : Watched) : Type 0 where
    pub begun : watched.begun ≡ true → HasBegun at watched
    pub waits : watched.begun ≡ false → HasNotBegun at watched

-- If a trace towards the target is cut at now, under any plan, it has these rows.
pub record IsCutAtNow (situation : Situation) (target : Target) (cut : Trace) : Type 0 where
  pub some : (plan : List ℕ) (at start : ℕ) (rows : Trace) → now_of situation ≤ at → BeginsAt situation plan at target start
      → AreTraceRows situation plan at target start rows → take (now_of situation - start) rows ≡ cut
  pub none : (plan : List ℕ) → ((k : ℕ) → k < now_of situation → ¬ IsContactAt (own_at situation plan) (target_at situation target) situation.detect.watch k) → cut ≡ []

-- No row from now to this tick has decided a position as newly broken.
abbrev pub IsUnbroken : Situation → List ℕ → Target → Trace → ℕ → Type 0
IsUnbroken situation plan target cut at = (start : ℕ) (rows : Trace) → BeginsAt situation plan at target start → AreTraceRows situation plan at target start rows
    → (passed : ℕ) → length cut < passed → passed ≤ length rows → ¬ IsNewlyBrokenAt (formulas_of situation) cut rows passed

-- What is kept stands for the steps up to a tick that is not before now, in which nothing was newly broken.
pub record Stands (program : Program) (situation : Situation) (plan : List ℕ) (target : Target) (cut : Trace) (at : ℕ) (watched : Watched) : Type 0 where
  pub stands : StandsFor program situation plan target at watched
  pub counted : monitor.fed_of watched.values ≡ length cut + watched.since_now
  pub unbroken : IsUnbroken situation plan target cut at

-- One took over what the other stands for.
pub record IsCopyOf (copy other : Watched) : Type 0 where
  pub ready : (program : Program) → IsReady program other → IsReady program copy
  pub stands : (program : Program) (situation : Situation) (plan : List ℕ) (target : Target) (cut : Trace) (at : ℕ)
      → Stands program situation plan target cut at other → Stands program situation plan target cut at copy
  pub fed : monitor.fed_of copy.values ≡ monitor.fed_of other.values
  pub since : copy.since_now ≡ other.since_now

-- A situation and a target of it, the program of its rules, whether a No needs all rows that its rule reaches, and what is known to be
-- broken at now, for the number of rules.
pub record IsTowards (towards : Towards) : Type 0 where
  pub is_situation : IsSituation towards.situation.now
  pub is_target : IsTarget towards.situation.now towards.target.now
  pub of_rules : monitor.IsProgramOf towards.program.now (formulas_of towards.situation.now)
  pub few : monitor.count_of towards.program.now ≤ 17
  pub no_last : towards.no_last ≡ true → All IsNoLast (formulas_of towards.situation.now)
  pub rules : towards.already.now.rules ≤ 17

-- Her trace that is cut at now has these rows, and what is broken in it is known.
pub record IsCut (towards : Towards) (cut : Trace) : Type 0 where
  pub is_cut : IsCutAtNow towards.situation.now towards.target.now cut
  pub tells : Tells (formulas_of towards.situation.now) cut towards.already.now

-- Under a plan both are in contact at a tick, or are not, if her trace has not begun; and this is their step from it on.
pub record IsStepAt (situation : Situation) (plan : List ℕ) (target : Target) (at : ℕ) (begun in_contact : Bool) (seen : Option PairStep) : Type 0 where
  pub contact : begun ≡ false → (IsTrue in_contact ↔ IsContactAt (own_at situation plan) (target_at situation target) situation.detect.watch at)
  pub step : seen ≡ step_at (own_at situation plan) (target_at situation target) at

-- She was followed from a tick to another under a plan. If nothing was newly broken, what is kept stands there again; otherwise a rule is broken by then.
pub record IsFollowed (towards : Towards) (plan : List ℕ) (from to : ℕ) (old new : Watched) (told : Bool) : Type 0 where
  pub stands : told ≡ false → (cut : Trace) → IsCut towards cut → Stands towards.program.now towards.situation.now plan towards.target.now cut from old
      → Stands towards.program.now towards.situation.now plan towards.target.now cut to new
  pub breaks : told ≡ true → (cut : Trace) → IsCut towards cut → Stands towards.program.now towards.situation.now plan towards.target.now cut from old
      → BreaksARule towards.situation.now plan to towards.target.now
