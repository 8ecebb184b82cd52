use Rattle.std.proofs.Common.{◌+◌, refl, sym, ◌∙◌, arith}
use Rattle.mtl_monitor.specs.Inner.Quiet.{Walked}
use Rattle.mtl_monitor.proofs.Feeding.{Follows-walked, Walked-still}
use Rattle.mtl_monitor.proofs.trace_state.TraceState.feed.Goals as goal

pub returns-then-self-clause-follows : goal.returns-then-self-clause-follows
returns-then-self-clause-follows g c = λ formulas rows h.
    let p = c.args.program.now in
    let s = c.args.self.now in
    let read = c.read-marks in
    let e = read.ensures in
    let values = read.new.self.values.items in
    let walked : Walked p.nodes.items s.states.items s.values.items values s.moving.items s.passed (s.passed + 1) read.result read.new.self.states.items values read.new.self.moving.items read.new.self.still =
    rw (c.if-marks-eq0.true, e.states, e.moving, c.if-self.true)
    (Walked-still p.nodes.items s.states.items s.values.items values s.moving.items s.passed (s.passed + 1) (h.still (sym e.still ∙ c.if-self.true)) (λ k inside. omega arith) p.below
    c.requires.fits.states e.fits.values c.requires.fits.moving) in
    Follows-walked p s _ formulas rows values read.result e.reads p.below (g.A.Atoms.answer c.args.row.now) h refl refl e.read walked

pub returns-clause-follows : goal.returns-clause-follows
returns-clause-follows g c = λ formulas rows h.
    let p = c.args.program.now in
    let s = c.args.self.now in
    let read = c.read-marks in
    let e = read.ensures in
    Follows-walked p s c.pass.new.self formulas rows read.new.self.values.items read.result e.reads p.below (g.A.Atoms.answer c.args.row.now) h
    c.pass.ensures.fed c.pass.ensures.passed (rw c.pass.ensures.glance e.read) (rw (e.states, e.moving) at (c.pass.ensures.walked s.values.items))

pub returns-clause-room : goal.returns-clause-room
returns-clause-room g c = λ h. (c.pass.ensures.walked c.args.self.now.values.items).walk.shapes (rw c.read-marks.ensures.states h)
