use Rattle.std.proofs.Common.{◌≡◌, ◌+◌, length, arith, true}
use Rattle.mtl_monitor.proofs.Walks.{Walk-begins, Walk-moves, Walk-reached}
use Rattle.mtl_monitor.proofs.passing.pass_all.Goals as goal

pub loop-k-init : goal.loop-k-init
loop-k-init c =
    let a = c.args in
    let reached = c.next_passed-k.ensures in
    record {
      inside = reached.inside;
      walk = λ before.
          Walk-reached a.nodes.now a.states.now before a.values.now a.moving.now a.i a.end a.marks a.states.now a.values.now a.moving.now a.marks true 0 c.next_passed-k.result reached
          (Walk-begins a.nodes.now a.states.now before a.values.now a.moving.now a.i a.end a.marks c.requires.states c.requires.values c.requires.moving);
    }

pub loop-k-preserved : goal.loop-k-preserved
loop-k-preserved c =
    let a = c.args in
    let l = c.loop-k in
    let n = c.pass_at-changed.new in
    let noted = c.noted-so_far in
    let reached = c.next_passed-k-in-loop-k.ensures in
    record {
      inside = reached.inside;
      walk = λ before.
          Walk-reached a.nodes.now a.states.now before a.values.now a.moving.now a.i a.end a.marks n.states n.values n.moving noted.result c.rests-still.result (l.k + 1)
          c.next_passed-k-in-loop-k.result reached
          (Walk-moves a.nodes.now a.states.now before a.values.now a.moving.now a.i a.end a.marks l.states l.values l.moving l.so_far l.still l.k c.loop-k-test.true
          (l.invariant.walk before) n.states n.values n.moving c.pass_at-changed.result c.pass_at-changed.ensures noted.result noted.ensures.here noted.ensures.others
          c.rests-still.result c.rests-still.ensures);
    }

pub returns : goal.returns
returns c = λ before.
    let all : c.loop-k.k ≡ length c.args.nodes.now = omega (arith, c.loop-k-test.false, c.loop-k.invariant.inside) in
    record { marks' = c.loop-k.so_far; walk = rw all at (c.loop-k.invariant.walk before) }
