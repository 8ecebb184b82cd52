use Rattle.std.proofs.Common.{◌≡◌, ℕ, [], ◌+◌, ◌-◌, ◌<◌, ◌≤◌, List, length, get_or}
use Rattle.traces.specs.Audited.{AuditNumbers, Sighting}
use Rattle.traces.specs.Known.{AreKnown, Known}
use Rattle.traces.specs.Standing.{IsSound, StandsFor, given_of, last_tick_of, latest_vessels, traces_of}
use Rattle.traces.specs.Window.{IsReadyFor}
use Rattle.traces.proofs.UnderWay.{IsUnderWay}
use Rattle.traces.proofs.each_trace.follow_each.Given as goal

abbrev pub invariant-loop-index : goal.invariant-loop-index
invariant-loop-index g l = record {
  sound : IsSound l.traces;
  given : given_of l.traces ≡ given_of l.fn.traces;
  last_tick : last_tick_of l.traces ≡ last_tick_of l.fn.traces;
  latest : latest_vessels l.traces ≡ latest_vessels l.fn.traces;
  traces : traces_of l.traces ≡ traces_of l.fn.traces;
  many : length l.kept ≡ length l.fn.kept;
  goes_on : (g.K.TraceKeeper.keeper l.keeper).Sound;
  done : (k : ℕ) (d : g.row.K-Kept.Denot) → k < l.index → IsReadyFor (g.K.TraceKeeper.keeper l.keeper) (given_of l.fn.traces + 1) (get_or l.kept k d);
  rest : (k : ℕ) (d : g.row.K-Kept.Denot) → l.index ≤ k → k < length l.kept → IsReadyFor (g.K.TraceKeeper.keeper l.keeper) (given_of l.fn.traces) (get_or l.kept k d);
  way : (numbers : AuditNumbers) (ticks : List Sighting) (knowns : List Known) (given : g.K.TraceKeeper.Given)
      → AreKnown numbers ticks knowns → StandsFor l.fn.traces numbers ticks knowns → l.step ≡ length ticks - 1
      → (g.K.TraceKeeper.keeper l.fn.keeper).Stands numbers l.step l.fn.kept [] knowns given
      → IsUnderWay numbers ticks l.seen l.step knowns given (g.K.TraceKeeper.keeper l.keeper) l.traces l.kept l.index;
}
