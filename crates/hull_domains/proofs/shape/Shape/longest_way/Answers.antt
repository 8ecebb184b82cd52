use Rattle.std.proofs.Common.{ℕ, ◌≤◌, List, ℤ, ap, arith, sym, subst, ◌∙◌}
use Rattle.hull_domains.specs.Inner.Ways.{longest_way, way_to}
use Rattle.hull_domains.specs.Shapes.{vertex_of}
use Rattle.hull_domains.proofs.Edges.{longest_short, no_longer}
use Rattle.hull_domains.proofs.shape.Shape.longest_way.Goals as goal

pub returns-clause-each : goal.returns-clause-each
returns-clause-each c = λ k lt.
    subst (λ (n : ℕ). way_to (vertex_of c.args.self.now k) ≤ n) (sym (c.self.invariant.1 ∙ ap (λ (vs : List (ℤ × ℤ)). longest_way vs 6) c.self.view_is)) (no_longer c.args.self.now 6 k lt)

pub returns-clause-short : goal.returns-clause-short
returns-clause-short c = subst (λ (n : ℕ). n ≤ 4000) (sym c.self.invariant.1) (longest_short c.self.inside.vertices c.self.invariant.0.count c.self.invariant.0.near 6 (omega arith))
