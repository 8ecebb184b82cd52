use Rattle.std.proofs.Common.{◌∙◌, arith}
use Rattle.mtl_monitor.proofs.trace_state.TraceState.pass_end_to.Goals as goal

pub loop-preserved : goal.loop-preserved
loop-preserved c =
    let before = c.loop.invariant in
    let e = c.pass_end.ensures in
    record {
      fits = e.fits;
      room = λ h. e.room (before.room h);
      fed = e.fed ∙ before.fed;
      passed = omega (arith, e.past, e.fed, before.passed, c.loop.self.in_order, c.loop.auto.counter);
      within = omega (arith, c.loop-test.true);
      closes = λ formulas rows h. e.goes_on formulas rows (before.closes formulas rows h);
    }

pub returns-clause-passed : goal.returns-clause-passed
returns-clause-passed c = omega (arith, c.loop.invariant.passed, c.loop.invariant.within, c.loop.auto.counter, c.loop-test.false)
