use Rattle.std.proofs.Common.{◌≡◌, max, arith}
use Rattle.mtl_monitor.proofs.building.look_until.Goals as goal

pub returns-clause-made : goal.returns-clause-made
returns-clause-made c =
    let late : c.max-late.result ≡ max c.args.a.late c.args.b.late = omega (arith, c.max-late.ensures) in
    let x = c.in_ok-x.ensures.made in
    let y = c.in_ok-y.ensures.made in
    let before = c.in_ok-before.ensures.made in
    rw (before.0, before.1, y.0, y.1, x.0, x.1, c.behind_window.ensures.made, late) at c.put.ensures.made
