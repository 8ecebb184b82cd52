use Rattle.std.proofs.Common.{◌≡◌, ℕ, [], ◌<◌, ◌≤◌, List, length, get_or}
use Rattle.traces.specs.Audited.{AuditNumbers}
use Rattle.traces.specs.Known.{Known}
use Rattle.traces.specs.Window.{IsReadyFor}
use Rattle.traces.proofs.UnderWay.{AreEnding}
use Rattle.traces.proofs.each_trace.end_each.Given as goal

abbrev pub invariant-loop-index : goal.invariant-loop-index
invariant-loop-index g l = record {
  many : length l.kept ≡ length l.fn.kept;
  goes_on : (g.K.TraceKeeper.keeper l.keeper).Sound;
  rest : (k : ℕ) (d : g.row.K-Kept.Denot) → l.index ≤ k → k < length l.kept → IsReadyFor (g.K.TraceKeeper.keeper l.keeper) 20001 (get_or l.kept k d);
  way : (numbers : AuditNumbers) (step : ℕ) (knowns : List Known) (given : g.K.TraceKeeper.Given)
      → length l.fn.kept ≡ length knowns → (g.K.TraceKeeper.keeper l.fn.keeper).Ends numbers step l.fn.kept [] knowns given
      → AreEnding numbers step knowns given (g.K.TraceKeeper.keeper l.keeper) l.kept l.index;
}
