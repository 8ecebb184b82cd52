use Rattle.std.proofs.Common.{◌≡◌, ◌∙◌, ℕ, ℤ, pos, ◌+ℤ◌, ◌*ℤ◌, ap, ap₂, arith, rules}
use Rattle.std.specs.Int.{w64}
use Rattle.std.proofs.lemmas.Int.{ints, to_z-of_z}
use Rattle.fixed_geometry.proofs.ForCallers.{read}
use Rattle.fixed_geometry.specs.declared.point.Point.{Point}
use Rattle.closest_approach.proofs.Products.{norm2_of}
use Rattle.closest_approach.proofs.nearest.square_at_tick.Goals as goal

once_more : (x u : ℤ) (n : ℕ) → x +ℤ u *ℤ pos n ≡ pos 1 *ℤ x +ℤ pos n *ℤ u
once_more x u n = omega (arith, ints)

pub returns : goal.returns
returns c =
    let s = c.args.step.now in
    let n = c.args.ticks in
    let px = to_z-of_z w64 c.p-p.result.x (search rules) ∙ ap (λ (p : Point). p.x) c.p-p.ensures.value in
    let py = to_z-of_z w64 c.p-p.result.y (search rules) ∙ ap (λ (p : Point). p.y) c.p-p.ensures.value in
    let wx = to_z-of_z w64 c.w-w.result.x (search rules) ∙ ap (λ (p : Point). p.x) c.w-w.ensures.value in
    let wy = to_z-of_z w64 c.w-w.result.y (search rules) ∙ ap (λ (p : Point). p.y) c.w-w.ensures.value in
    let x = read w64 c.component.result _ (search rules) (c.component.ensures.value ∙ (ap₂ (λ (u v : ℤ). u +ℤ v *ℤ pos n) px wx ∙ once_more s.p.x s.w.x n)) in
    let y = read w64 c.component-2.result _ (search rules) (c.component-2.ensures.value ∙ (ap₂ (λ (u v : ℤ). u +ℤ v *ℤ pos n) py wy ∙ once_more s.p.y s.w.y n)) in
    c.norm2.ensures.value ∙ ap₂ norm2_of x y
