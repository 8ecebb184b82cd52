use Rattle.std.proofs.Common.{ℕ, ◌≡◌, ◌<◌, pos, ◌<ℤ◌, IsTrue, refl, arith, sym, subst, below_more}
use Rattle.std.specs.Prelude.{Bool, false}
use Rattle.hull_domains.specs.Domains.{side_at, IsInside}
use Rattle.hull_domains.specs.Shapes.{edge_of}
use Rattle.hull_domains.specs.declared.sides.Side.{Side}
use Rattle.hull_domains.proofs.Bounding.{IsInsideEdge}
use Rattle.hull_domains.proofs.SoFar.{inside_edge, on_inside}
use Rattle.hull_domains.proofs.entering.inside.Goals as goal

pub returns-then-not-is_inside : goal.returns-then-not-is_inside
unfolding IsInside IsInsideEdge
returns-then-not-is_inside c =
    let is = c.side_of.ensures.value c.args.direction c.requires.direction c.unit-ahead.ensures.value in (
      λ impossible. absurd (let never : IsTrue false = impossible in cc),
      λ inside.
          let here = subst (λ (l : Side). IsInsideEdge l c.args.moment.now.a c.args.moment.now.b) (sym is)
          (inside_edge c.args.step.now c.args.direction c.args.shape.now c.requires.direction c.args.moment.now.a c.args.moment.now.b c.loop-k.k (inside c.loop-k.k c.loop-k-test.true)) in
          let told = c.is_inside.ensures.1 here in
          subst (λ (answer : Bool). IsTrue answer) c.if-not-is_inside.true told,
    )

pub loop-k-preserved : goal.loop-k-preserved
unfolding IsInsideEdge
loop-k-preserved c =
    let is = c.side_of.ensures.value c.args.direction c.requires.direction c.unit-ahead.ensures.value in
    let told = c.is_inside.ensures.0 (subst (λ (answer : Bool). IsTrue answer) (sym c.if-not-is_inside.false) refl) in
    let here = on_inside c.args.step.now c.args.direction c.args.shape.now c.requires.direction c.args.moment.now.a c.args.moment.now.b c.loop-k.k
    (subst (λ (l : Side). IsInsideEdge l c.args.moment.now.a c.args.moment.now.b) is told) in
    below_more (λ (k : ℕ). side_at c.args.step.now c.args.direction (edge_of c.args.shape.now k) c.args.moment.now.a c.args.moment.now.b <ℤ pos 0) c.loop-k.k c.loop-k.invariant here

pub returns : goal.returns
unfolding IsInside
returns c =
    let six : c.loop-k.k ≡ 6 = omega arith in
    (λ _. subst (λ (n : ℕ). (k : ℕ) → k < n → side_at c.args.step.now c.args.direction (edge_of c.args.shape.now k) c.args.moment.now.a c.args.moment.now.b <ℤ pos 0) six c.loop-k.invariant, λ _. refl)
