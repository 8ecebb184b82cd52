use Rattle.std.proofs.Common.{◌≡◌, ◌-◌, ◌<◌, [], ◌∷◌, arith}
use Rattle.mtl_formulas.specs.FormulaMeasures.{reach_of}
use Rattle.mtl_monitor.proofs.Feeding.{Closes-Follows, IsNext-ended}
use Rattle.mtl_monitor.proofs.monitor.Monitor.finish_next.Goals as goal

pub returns-then-next-self-clause-begins : goal.returns-then-next-self-clause-begins
returns-then-next-self-clause-begins c = λ t rows h. Closes-Follows c.args.self.now.program c.args.self.now.state (t ∷ []) rows h

pub returns-clause-begins : goal.returns-clause-begins
returns-clause-begins c = λ t rows h.
    c.pass_end_to.ensures.closes (t ∷ []) rows (Closes-Follows c.args.self.now.program c.args.self.now.state (t ∷ []) rows h)

pub returns-clause-answer : goal.returns-clause-answer
returns-clause-answer c = λ t rows h.
    let m = c.args.self.now in
    let next : c.saturating_sub-next.result ≡ m.state.passed - m.program.reach = c.saturating_sub-next.ensures in
    let inside : m.state.passed - m.program.reach < m.state.fed = omega (arith, next, c.if-next-self.false) in
    let reach : m.program.reach ≡ reach_of t = omega (arith, h.of.farthest) in
    let e = c.pass_end_to.ensures in
    let closed = e.closes (t ∷ []) rows h in
    IsNext-ended c.answer.result t rows _ (m.state.passed - m.program.reach)
    (omega (arith, e.fed, e.passed, next, reach, h.all_fed, h.all_passed, inside)) (omega (arith, e.fed, e.passed, next, reach, inside)) (omega (arith, h.all_fed, inside))
    (c.answer.ensures.ended (t ∷ []) rows closed)

pub returns-clause-first : goal.returns-clause-first
returns-clause-first c = λ t rows h.
    let m = c.args.self.now in
    returns-clause-answer c t rows (Closes-Follows m.program m.state (t ∷ []) rows h)
