-- The moment that is taken is that of least distance.
use Rattle.std.proofs.Common.{◌≡◌, ℕ, ◌*◌, ◌≤◌, ◌<◌, ℤ, pos, neg_ℤ, ◌+ℤ◌, ◌*ℤ◌, ◌≤ℤ◌, ◌<ℤ◌, unsigned_abs, refl, arith, ap, ap₂, sym, subst, subst₂, ◌∙◌}
use Rattle.std.proofs.lemmas.Int.{ints}
use Rattle.fixed_geometry.specs.Plane.{dot_of, turn_of, norm2_of}
use Rattle.motion.specs.Steps.{RelativeMove}
use Rattle.closest_approach.specs.Separation.{displacement_at, nearest_of}
use Rattle.closest_approach.specs.declared.nearest.Moment.{Moment}
use Rattle.closest_approach.proofs.Products as by_parts
use Rattle.fixed_geometry.proofs.ForCallers.{polynomials, diff_of, diff_same}
use Rattle.closest_approach.proofs.Order.{times-le, once}
use Rattle.closest_approach.proofs.LeastDistance.{norm2-nonneg, least_at_start, least_at_end, square_within, least_within}
use Rattle.closest_approach.proofs.Choice.{by_choice, nearest_of-is, back_is, size_is, some_length, in_time}

-- what is known of the moment of least distance up to this many ticks
pub record IsLeastFor (step : RelativeMove) (ticks : ℕ) (moment : Moment) : Type 0 where
  pub some : 0 < moment.b
  pub within : moment.a ≤ moment.b * ticks
  pub least : (a b : ℕ) → a ≤ b * ticks →
      (pos (b * b) *ℤ norm2_of (displacement_at step moment.a moment.b)) ≤ℤ (pos (moment.b * moment.b) *ℤ norm2_of (displacement_at step a b))
  pub turned : (moment.b ≡ 1 → ⊥) → norm2_of (displacement_at step moment.a moment.b) ≡ pos moment.b *ℤ (turn_of step.p step.w *ℤ turn_of step.p step.w)

at_start : (x u : ℤ) → pos 1 *ℤ x +ℤ pos 0 *ℤ u ≡ x
at_start x u = omega (arith, ints)

at_tick : (n : ℕ) (x u : ℤ) → pos 1 *ℤ x +ℤ pos n *ℤ u ≡ x +ℤ pos n *ℤ u
at_tick n x u = omega (arith, ints)

pub square_at_start : (step : RelativeMove) → norm2_of (displacement_at step 0 1) ≡ norm2_of step.p
square_at_start step = ap₂ by_parts.norm2_of (at_start step.p.x step.w.x) (at_start step.p.y step.w.y)

pub square_at_tick : (step : RelativeMove) (n : ℕ) → norm2_of (displacement_at step n 1) ≡ by_parts.norm2_of (step.p.x +ℤ pos n *ℤ step.w.x) (step.p.y +ℤ pos n *ℤ step.w.y)
square_at_tick step n = ap₂ by_parts.norm2_of (at_tick n step.p.x step.w.x) (at_tick n step.p.y step.w.y)

start_least : (step : RelativeMove) (ticks : ℕ) → pos 0 ≤ℤ dot_of step.p step.w → IsLeastFor step ticks (record { a = 0; b = 1 })
start_least step ticks apart = record {
  some = omega arith;
  within = omega arith;
  least = λ a b _. subst₂ (λ (u v : ℤ). (pos (b * b) *ℤ u) ≤ℤ v) (sym (square_at_start step)) (sym (once (norm2_of (displacement_at step a b))))
      (least_at_start step.p.x step.p.y step.w.x step.w.y apart a b);
  turned = λ other. absurd (other refl);
}

last_least : (step : RelativeMove) (ticks : ℕ) → (pos ticks *ℤ norm2_of step.w) ≤ℤ neg_ℤ (dot_of step.p step.w) → IsLeastFor step ticks (record { a = ticks; b = 1 })
last_least step ticks over = record {
  some = omega arith;
  within = omega arith;
  least = λ a b le. subst₂ (λ (u v : ℤ). (pos (b * b) *ℤ u) ≤ℤ v) (sym (square_at_tick step ticks)) (sym (once (norm2_of (displacement_at step a b))))
      (least_at_end step.p.x step.p.y step.w.x step.w.y ticks (closing (dot_of step.p step.w) (pos ticks *ℤ norm2_of step.w) over) a b le);
  turned = λ other. absurd (other refl);
}
  where
    closing : (d m : ℤ) → m ≤ℤ neg_ℤ d → (d +ℤ m) ≤ℤ pos 0
    closing d m h = omega (arith, ints)

within_least : (step : RelativeMove) (ticks : ℕ) → dot_of step.p step.w <ℤ pos 0 → neg_ℤ (dot_of step.p step.w) <ℤ (pos ticks *ℤ norm2_of step.w)
    → IsLeastFor step ticks (record { a = unsigned_abs (dot_of step.p step.w); b = unsigned_abs (norm2_of step.w) })
within_least step ticks inwards more =
    let along : ℤ = dot_of step.p step.w in
    let length2 : ℤ = norm2_of step.w in
    let t : ℤ = turn_of step.p step.w *ℤ turn_of step.p step.w in
    let k : ℕ = unsigned_abs length2 in
    let sign : pos 0 ≤ℤ length2 = norm2-nonneg step.w.x step.w.y in
    let some : 0 < k = some_length along length2 ticks sign inwards more in
    let length : length2 ≡ pos k = size_is length2 sign in
    let square : norm2_of (displacement_at step (unsigned_abs along) k) ≡ pos k *ℤ t =
    square_within step.p.x step.p.y step.w.x step.w.y (unsigned_abs along) k some length (back_is along inwards) in
    record {
      some = some;
      within = in_time along length2 ticks sign inwards more;
      least = λ a b _. moved k b t (norm2_of (displacement_at step (unsigned_abs along) k)) (norm2_of (displacement_at step a b)) square
          (least_within step.p.x step.p.y step.w.x step.w.y k length a b);
      turned = λ _. square;
    }
  where
    swap : (k m : ℕ) (t : ℤ) → pos k *ℤ (pos (m * m) *ℤ t) ≡ pos (m * m) *ℤ (pos k *ℤ t)
    swap k m t = rw (← diff_of t) (simp polynomials (diff_same _ _ _ _ (omega arith)))

    twice : (k : ℕ) (t : ℤ) → pos k *ℤ (pos k *ℤ t) ≡ pos (k * k) *ℤ t
    twice k t = rw (← diff_of t) (simp polynomials (diff_same _ _ _ _ (omega arith)))

    moved : (k m : ℕ) (t n q : ℤ) → n ≡ pos k *ℤ t → (pos (m * m) *ℤ t) ≤ℤ (pos k *ℤ q) → (pos (m * m) *ℤ n) ≤ℤ (pos (k * k) *ℤ q)
    moved k m t n q e h =
        subst₂ ◌≤ℤ◌ (swap k m t ∙ ap (λ (z : ℤ). pos (m * m) *ℤ z) (sym e)) (twice k q) (times-le k (pos (m * m) *ℤ t) (pos k *ℤ q) h)

pub nearest_least : (step : RelativeMove) (ticks : ℕ) → IsLeastFor step ticks (nearest_of step ticks)
nearest_least step ticks =
    subst (IsLeastFor step ticks) (sym (nearest_of-is step ticks))
    (by_choice (dot_of step.p step.w) (norm2_of step.w) ticks (IsLeastFor step ticks)
    (start_least step ticks) (λ _. last_least step ticks) (within_least step ticks))
