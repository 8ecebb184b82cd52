use Rattle.std.proofs.Common.{refl}
use Rattle.mtl_monitor.proofs.Programs.{Follows-new}
use Rattle.mtl_monitor.proofs.trace_state.TraceState.new.Goals as goal

pub returns-clause-follows : goal.returns-clause-follows
returns-clause-follows c = λ formulas is.
    Follows-new c.args.program.now _ formulas (rw c.deref.ensures.value at c.in_ok-begun.ensures) refl refl refl refl is
