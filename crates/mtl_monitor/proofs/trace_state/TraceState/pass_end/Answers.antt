use Rattle.std.proofs.Common.{◌∙◌}
use Rattle.mtl_monitor.proofs.Feeding.{Closes-Follows, Closes-walked}
use Rattle.mtl_monitor.proofs.trace_state.TraceState.pass_end.Goals as goal

pub returns-clause-goes_on : goal.returns-clause-goes_on
returns-clause-goes_on c = λ formulas rows h.
    let p = c.args.program.now in
    let s = c.args.self.now in
    let read = c.read-marks in
    let e = read.ensures in
    Closes-walked p s c.pass.new.self formulas rows read.new.self.values.items read.result e.reads p.below h
    (c.pass.ensures.fed ∙ e.fed) c.pass.ensures.passed (rw c.pass.ensures.glance e.read) (rw (e.states, e.moving, e.fed) at (c.pass.ensures.walked s.values.items))

pub returns-clause-begins : goal.returns-clause-begins
returns-clause-begins c = λ formulas rows h. returns-clause-goes_on c formulas rows (Closes-Follows c.args.program.now c.args.self.now formulas rows h)

pub returns-clause-room : goal.returns-clause-room
returns-clause-room c = λ h. (c.pass.ensures.walked c.args.self.now.values.items).walk.shapes (rw c.read-marks.ensures.states h)
