use Rattle.std.proofs.Common.{◌≡◌, ◌⊎◌, ℕ, List, ◌++◌, length}
use Rattle.mtl_formulas.specs.FormulaTree.{FormulaTree}
use Rattle.mtl_monitor.specs.Following.{Closes, Fits, Follows, fed_of, past_of}
use Rattle.mtl_formulas.specs.Traces.{Trace}
use Rattle.audit_rows.specs.Tracks.{Track}
use Rattle.audit_rows.specs.declared.row.Row.{Row}
use Rattle.traces.specs.Audited.{AuditNumbers}
use Rattle.traces.specs.Known.{Known}
use Rattle.audit_rows.specs.Standing.{QueueStandsFor}
use Rattle.auditor.specs.TraceKeeping.{AreTracksSoFar, StandsFor}
use Rattle.auditor.proofs.TraceKeeping.{HasTracksPast}
use Rattle.auditor.proofs.trace.AuditTrace.end.Given as goal

abbrev pub invariant-loop : goal.invariant-loop
invariant-loop l =
    record {
      start : l.self.start ≡ l.fn.self.start;
      fits : Fits l.program l.self.values;
      fed : fed_of l.self.values ≡ fed_of l.fn.self.values;
      past : past_of l.self.values ≡ l.counter;
      follows : (formulas : List FormulaTree) (rows : Trace) → Follows l.program l.fn.self.values formulas rows
          → Follows l.program l.self.values formulas rows ⊎ Closes l.program l.self.values formulas rows;
      tracks : (numbers : AuditNumbers) (known : Known) (before mine after : List Track) (bound : ℕ) (given : List Row) → StandsFor l.program numbers l.fn.self known
          → AreTracksSoFar numbers known mine → l.first ≡ length before → QueueStandsFor l.fn.queue (before ++ mine ++ after) bound given
          → HasTracksPast l.counter numbers known l.queue before after bound given;
    }
