use Rattle.std.proofs.Common.{◌≡◌, ◌+◌}
use Rattle.auditor.specs.TraceKeeping.{IsReady, steps_of}
use Rattle.auditor_rows.proofs.trace_marks.take_all.Given as goal

abbrev pub invariant-loop-step : goal.invariant-loop-step
invariant-loop-step l = record {
  ready : IsReady l.program l.trace;
  steps : steps_of l.trace ≡ steps_of l.fn.trace + l.step-index;
}
