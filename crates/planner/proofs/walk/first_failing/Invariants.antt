use Rattle.std.proofs.Common.{◌≡◌, ℕ, ◌+◌, ◌<◌, length, get_or}
use Rattle.std.specs.List.{All}
use Rattle.mtl_monitor.specs.Following.{Fits, HasRoom}
use Rattle.mtl_formulas.specs.Traces.{Trace}
use Rattle.planner.specs.Inner.Breaking.{Tells, formulas_of}
use Rattle.planner.specs.Inner.Watching.{IsCutAtNow, IsEarly, IsReady, Stands}
use Rattle.plan_situations.specs.FailingPlans.{FailsTowards}
use Rattle.plan_situations.specs.Prefixes.{reached}
use Rattle.planner.specs.declared.already.Already.{Already}
use Rattle.plan_situations.specs.declared.situation.Target.{Target}
use Rattle.planner.specs.declared.watched.Watched.{Watched}
use Rattle.planner.proofs.walk.first_failing.Given as goal

abbrev pub invariant-loop-k : goal.invariant-loop-k
invariant-loop-k l = record {
  count : length l.watched ≡ length l.fn.watched;
  ready : All (IsReady l.basis.program) l.watched;
  fits : Fits l.basis.program l.ending;
  room : HasRoom l.basis.program l.ending;
  early : (j : ℕ) (w : Watched) → j < l.k → IsEarly (reached l.situation (l.leg.index + 1)) (get_or l.watched j w);
  stands : (j : ℕ) (t : Target) (a : Already) (w : Watched) (cut : Trace) → j < l.k → IsCutAtNow l.situation (get_or l.situation.targets j t) cut
      → Tells (formulas_of l.situation) cut (get_or l.basis.already.items j a)
      → Stands l.basis.program l.situation l.leg.plan (get_or l.situation.targets j t) cut (reached l.situation (l.leg.index + 1)) (get_or l.watched j w);
  before : (j : ℕ) (t : Target) → j < l.k → ¬ FailsTowards l.situation l.leg.plan (reached l.situation (l.leg.index + 1)) (get_or l.situation.targets j t);
}
