use Rattle.std.proofs.Common.{◌∙◌, ap₂}
use Rattle.fixed_geometry.specs.declared.point.Point.{Point}
use Rattle.hull_domains.specs.Inner.EdgeSides.{side_by}
use Rattle.hull_domains.specs.declared.shape.Edge.{Edge}
use Rattle.hull_domains.proofs.EdgeSides.{sides_agree}
use Rattle.hull_domains.proofs.entering.side_of.Goals as goal

pub returns-clause-value : goal.returns-clause-value
returns-clause-value c = λ direction lt ahead.
    c.side_beside.ensures.value
    ∙ (ap₂ (λ (p : Point) (e : Edge). side_by c.args.step.now p e) ahead c.edge.ensures.value
    ∙ sides_agree c.args.step.now direction c.args.shape.now c.args.k lt)
