use Rattle.std.proofs.Common.{sym, subst}
use Rattle.hull_domains.specs.Inner.EdgeSides.{IsShort}
use Rattle.hull_domains.proofs.Edges.{edge_short}
use Rattle.hull_domains.proofs.shape.short_edge.Goals as goal

pub returns-clause-short : goal.returns-clause-short
returns-clause-short c = subst IsShort (sym c.edge_at.ensures) (edge_short c.args.vertices.now c.args.k c.told-vertices c.requires.k c.requires.near)
