-- Separation over all instants is decided by the two ends and one comparison of squares.
use Rattle.std.proofs.Common.{◌≡◌, ℕ, ◌*◌, ◌<◌, ℤ, pos, neg_ℤ, ◌+ℤ◌, ◌*ℤ◌, ◌≤ℤ◌, ◌<ℤ◌, unsigned_abs, arith, ap, ap₂, sym, subst, subst₂, ◌∙◌}
use Rattle.std.proofs.lemmas.Int.{ints}
use Rattle.fixed_geometry.specs.Plane.{dot_of, norm2_of, turn_of}
use Rattle.motion.specs.Steps.{RelativeMove}
use Rattle.closest_approach.specs.Separation.{displacement_at, nearest_of, IsApart, IsSeparated, IsSeparatedByEnds}
use Rattle.closest_approach.specs.declared.nearest.Moment.{Moment}
use Rattle.closest_approach.proofs.Products as by_parts
use Rattle.closest_approach.proofs.Order.{times-le, times-le_cancel, once}
use Rattle.closest_approach.proofs.LeastDistance.{norm2-nonneg, square_within}
use Rattle.closest_approach.proofs.Choice.{by_choice, nearest_of-is, back_is, size_is, some_length, in_time}
use Rattle.closest_approach.proofs.LeastMoment.{nearest_least, square_at_start}
use Rattle.closest_approach.proofs.Decision.{separated_if, separated_one}

square_at_end : (step : RelativeMove) → norm2_of (displacement_at step 1 1) ≡ norm2_of (record { x = step.p.x +ℤ step.w.x; y = step.p.y +ℤ step.w.y })
square_at_end step = ap₂ by_parts.norm2_of (both step.p.x step.w.x) (both step.p.y step.w.y)
  where
    both : (x u : ℤ) → pos 1 *ℤ x +ℤ pos 1 *ℤ u ≡ x +ℤ u
    both x u = omega (arith, ints)

-- the instant between the ends at which the vessels are nearest
record IsBetween (step : RelativeMove) : Type 0 where
  some : 0 < unsigned_abs (norm2_of step.w)
  length : norm2_of step.w ≡ pos (unsigned_abs (norm2_of step.w))
  square : norm2_of (displacement_at step (unsigned_abs (dot_of step.p step.w)) (unsigned_abs (norm2_of step.w)))
      ≡ pos (unsigned_abs (norm2_of step.w)) *ℤ (turn_of step.p step.w *ℤ turn_of step.p step.w)

one_tick : (z : ℤ) → pos 1 *ℤ z ≡ z
one_tick z = omega (arith, ints)

is_between : (step : RelativeMove) → dot_of step.p step.w <ℤ pos 0 → neg_ℤ (dot_of step.p step.w) <ℤ (pos 1 *ℤ norm2_of step.w) → IsBetween step
is_between step inwards more =
    let along : ℤ = dot_of step.p step.w in
    let length2 : ℤ = norm2_of step.w in
    let sign : pos 0 ≤ℤ length2 = norm2-nonneg step.w.x step.w.y in
    let some : 0 < unsigned_abs length2 = some_length along length2 1 sign inwards more in
    let length : length2 ≡ pos (unsigned_abs length2) = size_is length2 sign in
    record {
      some = some;
      length = length;
      square = square_within step.p.x step.p.y step.w.x step.w.y (unsigned_abs along) (unsigned_abs length2) some length (back_is along inwards);
    }

twice : (k r : ℕ) → pos (k * k) *ℤ pos (r * r) ≡ pos k *ℤ (pos (r * r) *ℤ pos k)
twice k r = omega (arith, ints)

far_within : (k r : ℕ) (l t q : ℤ) → 0 < k → l ≡ pos k → q ≡ pos k *ℤ t → (pos (k * k) *ℤ pos (r * r)) ≤ℤ q → (pos (r * r) *ℤ l) ≤ℤ t
far_within k r l t q some length square apart =
    times-le_cancel k (pos (r * r) *ℤ l) t some
    (subst₂ ◌≤ℤ◌ (twice k r ∙ ap (λ (z : ℤ). pos k *ℤ (pos (r * r) *ℤ z)) (sym length)) square apart)

within_far : (k r : ℕ) (l t q : ℤ) → l ≡ pos k → q ≡ pos k *ℤ t → (pos (r * r) *ℤ l) ≤ℤ t → (pos (k * k) *ℤ pos (r * r)) ≤ℤ q
within_far k r l t q length square far =
    subst₂ ◌≤ℤ◌ (ap (λ (z : ℤ). pos k *ℤ (pos (r * r) *ℤ z)) length ∙ sym (twice k r)) (sym square) (times-le k (pos (r * r) *ℤ l) t far)

pub by_ends : (step : RelativeMove) (r : ℕ) → IsSeparated step r → IsSeparatedByEnds step r
unfolding IsSeparated
by_ends step r h = record {
  start = subst₂ ◌≤ℤ◌ (once (pos (r * r))) (square_at_start step) (h 0 1 (omega arith) (omega arith));
  end = subst₂ ◌≤ℤ◌ (once (pos (r * r))) (square_at_end step) (h 1 1 (omega arith) (omega arith));
  between = λ inwards more.
      let more_one : neg_ℤ (dot_of step.p step.w) <ℤ (pos 1 *ℤ norm2_of step.w) = subst (λ (z : ℤ). neg_ℤ (dot_of step.p step.w) <ℤ z) (sym (one_tick (norm2_of step.w))) more in
      let b = is_between step inwards more_one in
      let in_step = in_time (dot_of step.p step.w) (norm2_of step.w) 1 (norm2-nonneg step.w.x step.w.y) inwards more_one in
      far_within (unsigned_abs (norm2_of step.w)) r (norm2_of step.w) (turn_of step.p step.w *ℤ turn_of step.p step.w) _ b.some b.length b.square
      (h (unsigned_abs (dot_of step.p step.w)) (unsigned_abs (norm2_of step.w)) (omega arith) b.some);
}

pub from_ends : (step : RelativeMove) (r : ℕ) → IsSeparatedByEnds step r → IsSeparated step r
from_ends step r h =
    separated_one step r (separated_if step r 1 (nearest_of step 1) (nearest_least step 1)
    (subst P (sym (nearest_of-is step 1)) (by_choice (dot_of step.p step.w) (norm2_of step.w) 1 P
    (λ _. subst₂ ◌≤ℤ◌ (sym (once (pos (r * r)))) (sym (square_at_start step)) h.start)
    (λ _ _. subst₂ ◌≤ℤ◌ (sym (once (pos (r * r)))) (sym (square_at_end step)) h.end)
    (λ inwards more. let b = is_between step inwards more in
    within_far (unsigned_abs (norm2_of step.w)) r (norm2_of step.w) (turn_of step.p step.w *ℤ turn_of step.p step.w) _ b.length b.square
    (h.between inwards (subst (λ (z : ℤ). neg_ℤ (dot_of step.p step.w) <ℤ z) (one_tick (norm2_of step.w)) more))))))
  where
    P : Moment → Type 0
    P m = IsApart step r m.a m.b
