-- The side at the beginning and its change decide on which side of an edge own ship is at the instant a / b.
use Rattle.std.proofs.Common.{ℕ, suc, List, ◌≡◌, ◌+◌, ◌*◌, ◌/◌, ◌%◌, ◌<◌, ◌≤◌, ◌⊎◌, inl, inr, ℤ, pos, neg_ℤ, ◌+ℤ◌, ◌-ℤ◌, ◌*ℤ◌, arith, ap, ap₂, sym, ◌∙◌}
use Rattle.std.proofs.lemmas.Int.{ints}
use Rattle.fixed_geometry.proofs.ForCallers.{polynomials, diff_of, diff_same}
use Rattle.fixed_geometry.specs.Compass.{quarter_further, quarter_of, quarters_further, unit_of}
use Rattle.fixed_geometry.specs.declared.point.Point.{Point}
use Rattle.motion.specs.Steps.{RelativeMove}
use Rattle.hull_domains.specs.Crossings.{side_of}
use Rattle.hull_domains.specs.Domains.{side_at}
use Rattle.hull_domains.specs.Shapes.{edge_of}
use Rattle.hull_domains.specs.Inner.EdgeSides.{side_by}
use Rattle.hull_domains.specs.declared.sides.Side.{Side}
use Rattle.hull_domains.specs.declared.shape.Edge.{Edge}

-- ---- a quarter of the circle further

around_again : (z : ℤ) → neg_ℤ (neg_ℤ z) ≡ z
around_again z = omega (arith, ints)

four_quarters : (p : Point) → quarters_further 4 p ≡ p
four_quarters p = ap₂ (λ (x y : ℤ). let q : Point = record { x = x; y = y } in q) (around_again p.x) (around_again p.y)

next_quarter : (d : ℕ) → d < 3600 → (((d + 900) % 3600 / 900 ≡ suc (d / 900)) ⊎ (((d + 900) % 3600 / 900 ≡ 0) × (d / 900 ≡ 3))) × ((d + 900) % 3600 % 900 ≡ d % 900)
next_quarter d lt =
    elim (le_or_lt 2700 d) [
      | inl late ↦ (inr (omega arith, omega arith), omega arith)
      | inr early ↦ (inl (omega arith), omega arith)
    ]
  where
    le_or_lt : (m n : ℕ) → (m ≤ n) ⊎ (n < m)
    le_or_lt m n = grind arith

pub unit_further : (d : ℕ) → d < 3600 → unit_of ((d + 900) % 3600) ≡ quarter_further (unit_of d)
unfolding unit_of
unit_further d lt =
    let h = next_quarter d lt in
    elim h.0 [
      | inl e ↦ ap₂ (λ (n k : ℕ). quarters_further n (quarter_of k)) e h.1
      | inr e ↦ ap₂ (λ (n k : ℕ). quarters_further n (quarter_of k)) e.0 h.1
          ∙ (sym (four_quarters (quarter_of (d % 900))) ∙ ap (λ (n : ℕ). quarter_further (quarters_further n (quarter_of (d % 900)))) (sym e.1))
    ]

-- ---- the identity

module _ (px py wx wy u v e g f s : ℤ) (a b c : ℕ) where
  along_ahead : (pos b *ℤ px +ℤ pos a *ℤ wx) *ℤ u +ℤ (pos b *ℤ py +ℤ pos a *ℤ wy) *ℤ v ≡ pos b *ℤ (px *ℤ u +ℤ py *ℤ v) +ℤ pos a *ℤ (wx *ℤ u +ℤ wy *ℤ v)
  along_ahead = rw (← diff_of px, ← diff_of py, ← diff_of wx, ← diff_of wy, ← diff_of u, ← diff_of v) (simp polynomials (diff_same _ _ _ _ (omega arith)))

  gathered : (p q w x : ℤ) → (neg_ℤ (pos b *ℤ p +ℤ pos a *ℤ w) -ℤ pos (b * c) *ℤ f) *ℤ g -ℤ (neg_ℤ (pos b *ℤ q +ℤ pos a *ℤ x) -ℤ pos (b * c) *ℤ s) *ℤ e
      ≡ pos b *ℤ ((e *ℤ q -ℤ g *ℤ p) -ℤ (f *ℤ g -ℤ s *ℤ e) *ℤ pos c) +ℤ pos a *ℤ (e *ℤ x -ℤ g *ℤ w)
  gathered p q w x = rw (← diff_of p, ← diff_of q, ← diff_of w, ← diff_of x, ← diff_of e, ← diff_of g, ← diff_of f, ← diff_of s) (simp polynomials (diff_same _ _ _ _ (omega arith)))

at_right_angles : (px py u v e g : ℤ) → e *ℤ (px *ℤ v +ℤ py *ℤ neg_ℤ u) -ℤ g *ℤ (px *ℤ u +ℤ py *ℤ v) ≡ px *ℤ (e *ℤ v -ℤ g *ℤ u) +ℤ py *ℤ neg_ℤ (e *ℤ u +ℤ g *ℤ v)
at_right_angles px py u v e g = rw (← diff_of px, ← diff_of py, ← diff_of u, ← diff_of v, ← diff_of e, ← diff_of g) (simp polynomials (diff_same _ _ _ _ (omega arith)))

side_identity : (px py wx wy u v e g f s : ℤ) (a b c : ℕ)
    → (neg_ℤ ((pos b *ℤ px +ℤ pos a *ℤ wx) *ℤ u +ℤ (pos b *ℤ py +ℤ pos a *ℤ wy) *ℤ v) -ℤ pos (b * c) *ℤ f) *ℤ g
    -ℤ (neg_ℤ ((pos b *ℤ px +ℤ pos a *ℤ wx) *ℤ v +ℤ (pos b *ℤ py +ℤ pos a *ℤ wy) *ℤ neg_ℤ u) -ℤ pos (b * c) *ℤ s) *ℤ e
    ≡ pos b *ℤ ((px *ℤ (e *ℤ v -ℤ g *ℤ u) +ℤ py *ℤ neg_ℤ (e *ℤ u +ℤ g *ℤ v)) -ℤ (f *ℤ g -ℤ s *ℤ e) *ℤ pos c)
    +ℤ pos a *ℤ (wx *ℤ (e *ℤ v -ℤ g *ℤ u) +ℤ wy *ℤ neg_ℤ (e *ℤ u +ℤ g *ℤ v))
side_identity px py wx wy u v e g f s a b c =
    ap₂ (λ (y z : ℤ). (neg_ℤ y -ℤ pos (b * c) *ℤ f) *ℤ g -ℤ (neg_ℤ z -ℤ pos (b * c) *ℤ s) *ℤ e)
    (along_ahead px py wx wy u v e g f s a b c) (along_ahead px py wx wy v (neg_ℤ u) e g f s a b c)
    ∙ (gathered px py wx wy u v e g f s a b c (px *ℤ u +ℤ py *ℤ v) (px *ℤ v +ℤ py *ℤ neg_ℤ u) (wx *ℤ u +ℤ wy *ℤ v) (wx *ℤ v +ℤ wy *ℤ neg_ℤ u)
    ∙ ap₂ (λ (y z : ℤ). pos b *ℤ (y -ℤ (f *ℤ g -ℤ s *ℤ e) *ℤ pos c) +ℤ pos a *ℤ z) (at_right_angles px py u v e g) (at_right_angles wx wy u v e g))

pub side_is : (step : RelativeMove) (direction : ℕ) (edge : Edge) (a b : ℕ) → direction < 3600
    → side_at step direction edge a b ≡ pos b *ℤ (side_by step (unit_of direction) edge).start +ℤ pos a *ℤ (side_by step (unit_of direction) edge).change
unfolding side_at side_by
side_is step direction edge a b lt =
    let ahead : Point = unit_of direction in
    ap (λ (abeam : Point). (neg_ℤ ((pos b *ℤ step.p.x +ℤ pos a *ℤ step.w.x) *ℤ ahead.x +ℤ (pos b *ℤ step.p.y +ℤ pos a *ℤ step.w.y) *ℤ ahead.y) -ℤ pos (b * 10000000000) *ℤ edge.from.x) *ℤ edge.along.y
    -ℤ (neg_ℤ ((pos b *ℤ step.p.x +ℤ pos a *ℤ step.w.x) *ℤ abeam.x +ℤ (pos b *ℤ step.p.y +ℤ pos a *ℤ step.w.y) *ℤ abeam.y) -ℤ pos (b * 10000000000) *ℤ edge.from.y) *ℤ edge.along.x)
    (unit_further direction lt)
    ∙ side_identity step.p.x step.p.y step.w.x step.w.y ahead.x ahead.y edge.along.x edge.along.y edge.from.x edge.from.y a b 10000000000

-- ---- the lines of a shape

pub sides_agree : (step : RelativeMove) (direction : ℕ) (shape : List (ℤ × ℤ)) (k : ℕ) → direction < 3600
    → side_by step (unit_of direction) (edge_of shape k) ≡ side_of step direction shape k
unfolding side_of
sides_agree step direction shape k lt =
    let edge : Edge = edge_of shape k in
    let side : Side = side_by step (unit_of direction) edge in
    ap₂ (λ (x y : ℤ). let l : Side = record { start = x; change = y } in l)
    (at_start side.start side.change ∙ sym (side_is step direction edge 0 1 lt))
    (at_end side.start side.change ∙ sym (ap₂ (λ (x y : ℤ). x -ℤ y) (side_is step direction edge 1 1 lt) (side_is step direction edge 0 1 lt)))
  where
    at_start : (x y : ℤ) → x ≡ pos 1 *ℤ x +ℤ pos 0 *ℤ y
    at_start x y = omega (arith, ints)

    at_end : (x y : ℤ) → y ≡ (pos 1 *ℤ x +ℤ pos 1 *ℤ y) -ℤ (pos 1 *ℤ x +ℤ pos 0 *ℤ y)
    at_end x y = omega (arith, ints)

pub side_told : (step : RelativeMove) (direction : ℕ) (shape : List (ℤ × ℤ)) (k a b : ℕ) → direction < 3600
    → side_at step direction (edge_of shape k) a b ≡ pos b *ℤ (side_of step direction shape k).start +ℤ pos a *ℤ (side_of step direction shape k).change
side_told step direction shape k a b lt =
    side_is step direction (edge_of shape k) a b lt ∙ ap (λ (l : Side). pos b *ℤ l.start +ℤ pos a *ℤ l.change) (sides_agree step direction shape k lt)
