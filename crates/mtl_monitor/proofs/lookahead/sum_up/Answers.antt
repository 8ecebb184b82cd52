use Rattle.std.proofs.Common.{◌∙◌, ◌<◌, length, arith}
use Rattle.mtl_monitor.proofs.SumUp.{turned, some_left}
use Rattle.mtl_monitor.proofs.lookahead.sum_up.Goals as goal
use Rattle.mtl_monitor.proofs.lookahead.sum_up.Goals.{in-Some, in_default}

pub loop-preserved : goal.loop-preserved
loop-preserved c =
    let all = c.args.cells.now.items in
    let inside : c.loop.counter < length all = omega (arith, c.loop-test.true, c.len-end.ensures.len) in
    elim c.match-pop_back.branch [
      | in-Some w ↦
          let t = turned all c.loop.counter c.args.cells.now.capacity inside c.requires c.loop.cells c.pop_back.new.self w.push_front.new.self w.in-Some.cell c.loop.after
          c.loop.invariant.cells c.loop.invariant.after w.in-Some.ensures.value c.pop_back.ensures.items (rw w.joined-after.ensures at w.push_front.ensures.items) in
          record { cells = w.cells-is ∙ t.0; after = w.after-is ∙ (w.joined-after.ensures ∙ t.1); fits = omega arith }
      | in_default w ↦
          absurd (w.in_default.not-Some _ (c.pop_back.ensures.value ∙ some_left all c.loop.counter c.args.cells.now.capacity inside c.requires c.loop.cells c.loop.invariant.cells))
    ]
