use Rattle.std.proofs.Common.{◌≡◌, ◌≤◌, ◌<◌, ◌*◌, ℕ, ℤ, pos, negsuc, ◌*ℤ◌, unsigned_abs, sym, subst, arith}
use Rattle.std.proofs.lemmas.Int.{ints}
use Rattle.fixed_geometry.specs.Plane.{norm2_of, turn_of}
use Rattle.closest_approach.specs.Separation.{displacement_at, IsApart}
use Rattle.closest_approach.specs.declared.nearest.Moment.{Moment}
use Rattle.closest_approach.proofs.LeastMoment.{IsLeastFor, nearest_least}
use Rattle.closest_approach.proofs.Decision.{IsSquare, whole_square, turn_square, apart_if, nearer_if, separated_if}
use Rattle.closest_approach.proofs.nearest.least_square.Goals as goal

square_of_turn : (t : ℤ) (u : ℕ) → u ≡ unsigned_abs t → pos (u * u) ≡ t *ℤ t
square_of_turn (pos n) u e = rw e (omega (arith, ints))
square_of_turn (negsuc n) u e = rw e (omega (arith, ints))

pub square_at_tick-requires : goal.square_at_tick-requires
square_at_tick-requires c =
    let h = nearest_least c.args.step.now c.args.ticks in
    let within : c.nearest-a.result.a ≤ c.nearest-a.result.b * c.args.ticks = subst (λ (m : Moment). m.a ≤ m.b * c.args.ticks) (sym c.nearest-a.ensures.value) h.within in
    let last : c.nearest-a.result.a ≤ 1 * c.args.ticks = subst (λ (b : ℕ). c.nearest-a.result.a ≤ b * c.args.ticks) c.if-b-eq1.true within in
    omega arith

pub returns-then-b-eq1-clause-apart : goal.returns-then-b-eq1-clause-apart
returns-then-b-eq1-clause-apart c =
    let s = c.args.step.now in
    let m = c.nearest-a.result in
    let h : IsLeastFor s c.args.ticks m = subst (IsLeastFor s c.args.ticks) (sym c.nearest-a.ensures.value) (nearest_least s c.args.ticks) in
    λ r le. separated_if s r c.args.ticks m h (subst (λ (b : ℕ). IsApart s r m.a b) (sym c.if-b-eq1.true)
    (apart_if (norm2_of (displacement_at s m.a 1)) c.square_at_tick.result 1 1 r (omega arith) (whole_square (norm2_of (displacement_at s m.a 1)) c.square_at_tick.result c.square_at_tick.ensures) le))

pub returns-clause-some : goal.returns-clause-some
returns-clause-some c =
    let h = nearest_least c.args.step.now c.args.ticks in
    let some : 0 < c.nearest-a.result.b = subst (λ (m : Moment). 0 < m.b) (sym c.nearest-a.ensures.value) h.some in
    omega arith

turned : (c : goal.After-from) → IsSquare (norm2_of (displacement_at c.args.step.now c.nearest-a.result.a c.nearest-a.result.b)) c.nearest-a.result.b (c.aside-aside.result * c.aside-aside.result) c.nearest-a.result.b
turned c =
    let s = c.args.step.now in
    let m = c.nearest-a.result in
    let h : IsLeastFor s c.args.ticks m = subst (IsLeastFor s c.args.ticks) (sym c.nearest-a.ensures.value) (nearest_least s c.args.ticks) in
    turn_square (norm2_of (displacement_at s m.a m.b)) (turn_of s.p s.w) m.b c.aside-aside.result (h.turned c.if-b-eq1.false)
    (square_of_turn (turn_of s.p s.w) c.aside-aside.result c.aside-aside.ensures.value)

pub returns-clause-apart : goal.returns-clause-apart
returns-clause-apart c =
    let s = c.args.step.now in
    let m = c.nearest-a.result in
    let h : IsLeastFor s c.args.ticks m = subst (IsLeastFor s c.args.ticks) (sym c.nearest-a.ensures.value) (nearest_least s c.args.ticks) in
    rw c.from.ensures (λ r le. separated_if s r c.args.ticks m h
    (apart_if (norm2_of (displacement_at s m.a m.b)) (c.aside-aside.result * c.aside-aside.result) m.b m.b r h.some (turned c) le))

pub returns-clause-nearer : goal.returns-clause-nearer
returns-clause-nearer c =
    let s = c.args.step.now in
    let m = c.nearest-a.result in
    let h : IsLeastFor s c.args.ticks m = subst (IsLeastFor s c.args.ticks) (sym c.nearest-a.ensures.value) (nearest_least s c.args.ticks) in
    rw (c.from.ensures, ← c.nearest-a.ensures.value) (λ r lt. nearer_if (norm2_of (displacement_at s m.a m.b)) (c.aside-aside.result * c.aside-aside.result) m.b m.b r h.some (turned c) lt)
