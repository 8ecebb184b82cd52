use Rattle.std.proofs.Common.{ap, ◌∙◌, ◌+ℤ◌}
use Rattle.fixed_geometry.specs.declared.point.Point.{Point}
use Rattle.lattice.specs.OwnMotion.{point_by}
use Rattle.lattice.proofs.lattice.Lattice.stepped.Goals as goal

pub returns-clause-point : goal.returns-clause-point
unfolding point_by
returns-clause-point c =
    let from : Point = c.args.passage.vessel.point in
    let led : Point → Point = λ way. record { x = from.x +ℤ way.x; y = from.y +ℤ way.y } in
    c.moved_by.ensures.value ∙ ap led c.steered-steered.ensures.on_her_way.way
