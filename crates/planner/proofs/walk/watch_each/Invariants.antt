use Rattle.std.proofs.Common.{◌≡◌, ℕ, ◌<◌, ◌≤◌, [], true, length, get_or}
use Rattle.std.specs.List.{All}
use Rattle.mtl_monitor.specs.Following.{count_of, Fits, HasRoom, IsProgramOf}
use Rattle.rule_program.specs.Lags.{IsNoLast}
use Rattle.planner.specs.Inner.Breaking.{formulas_of}
use Rattle.planner.specs.Inner.Levels.{IsToldAtNow}
use Rattle.planner.specs.Inner.Watching.{IsEarly, IsReady, StandsFor}
use Rattle.plan_situations.specs.Situations.{now_of}
use Rattle.planner.specs.declared.already.Already.{Already}
use Rattle.plan_situations.specs.declared.situation.Target.{Target}
use Rattle.planner.specs.declared.watched.Watched.{Watched}
use Rattle.planner.proofs.walk.watch_each.Given as goal

abbrev pub invariant-loop-target : goal.invariant-loop-target
invariant-loop-target l = record {
  of_rules : IsProgramOf l.basis.program (formulas_of l.situation);
  few : count_of l.basis.program ≤ 17;
  no_last : l.basis.no_last ≡ true → All IsNoLast (formulas_of l.situation);
  told_count : length l.basis.already.items ≡ l.target-index;
  count : length l.start.watched.items ≡ l.target-index;
  fits : Fits l.basis.program l.start.ending;
  room : HasRoom l.basis.program l.start.ending;
  ready : All (IsReady l.basis.program) l.start.watched.items;
  early : All (IsEarly (now_of l.situation)) l.start.watched.items;
  told : (k : ℕ) (a : Already) → k < length l.basis.already.items → (t : Target) → IsToldAtNow l.situation (get_or l.situation.targets k t) (get_or l.basis.already.items k a);
  stands : (k : ℕ) (w : Watched) → k < length l.start.watched.items → (t : Target) → StandsFor l.basis.program l.situation [] (get_or l.situation.targets k t) (now_of l.situation) (get_or l.start.watched.items k w);
  since : All (λ (w : Watched). w.since_now ≡ 0) l.start.watched.items;
}
