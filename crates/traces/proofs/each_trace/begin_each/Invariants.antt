use Rattle.std.proofs.Common.{◌≡◌, ◌≢◌, ℕ, [], ◌+◌, ◌≤◌, List, ◌++◌, length}
use Rattle.std.specs.Prelude.{All}
use Rattle.std.specs.List.{AllPairs}
use Rattle.traces.specs.Audited.{AuditNumbers, Sighting}
use Rattle.traces.specs.Known.{AreOpened, Known, pairs_of}
use Rattle.traces.specs.Standing.{StandsFor}
use Rattle.traces.specs.Window.{IsReadyFor}
use Rattle.traces.proofs.UnderWay.{AreBeginning}
use Rattle.traces.proofs.each_trace.begin_each.Given as goal

abbrev pub invariant-loop-index : goal.invariant-loop-index
invariant-loop-index g l = record {
  many : length l.kept.items ≡ l.index;
  goes_on : (g.K.TraceKeeper.keeper l.keeper).Sound;
  ready : All (IsReadyFor (g.K.TraceKeeper.keeper l.keeper) (l.start + 1)) l.kept.items;
  begins : (numbers : AuditNumbers) (ticks : List Sighting) (done new : List Known) (step : ℕ) (given : g.K.TraceKeeper.Given)
      → StandsFor l.traces numbers ticks (done ++ new) → AllPairs ◌≢◌ (pairs_of (done ++ new)) → AreOpened l.start new → step ≤ l.start
      → length l.fn.kept.items ≡ length done → (g.K.TraceKeeper.keeper l.fn.keeper).Stands numbers step l.fn.kept.items done [] given
      → AreBeginning numbers done new l.start step given (g.K.TraceKeeper.keeper l.keeper) l.kept.items;
}
