use Rattle.std.proofs.Common.{◌≡◌, ◌≤◌, []}
use Rattle.mtl_monitor.specs.Following.{fed_of}
use Rattle.planner.specs.Inner.Watching.{IsReady, StandsFor}
use Rattle.planner.proofs.basis.watched_at_now.Given as goal

abbrev pub invariant-loop-k : goal.invariant-loop-k
invariant-loop-k l = record {
  ready : IsReady l.program l.watched;
  fed : fed_of l.watched.values ≤ l.k;
  since : l.watched.since_now ≡ 0;
  stands : StandsFor l.program l.situation [] l.target l.k l.watched;
}
