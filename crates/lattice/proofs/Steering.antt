-- Orders from one step to the next, and how a vessel goes on that has taken them.
use Rattle.std.proofs.Common.{◌≡◌, ℕ, ◌+◌, ◌*◌, ◌/◌, ◌%◌, ◌<◌, pos, neg_ℤ, ◌-ℤ◌, List, add-zero, arith, sym, ◌∙◌}
use Rattle.std.proofs.Math.Nat.{div-eq_of_lt-le, mod-lt}
use Rattle.std.proofs.lemmas.Int.{ints}
use Rattle.std.proofs.lemmas.Nat.{div-add-mod'}
use Rattle.fixed_geometry.specs.Bearing.{swing_of}
use Rattle.fixed_geometry.specs.Circle.{shorter_arc}
use Rattle.lattice.specs.Grids.{Grid}
use Rattle.lattice.specs.Inner.Passages.{AreOrders}
use Rattle.lattice.specs.OwnMotion.{hastened, held, turned}
use Rattle.lattice.specs.declared.passage.Orders.{Orders}
use Rattle.lattice.specs.declared.under_way.UnderWay.{UnderWay}
use Rattle.lattice.proofs.AtOnce.{held_small, rem_same}

-- A step that begins no leg lies in the leg of the step before.
same_leg : (step ticks : ℕ) → 0 < ticks → (step + 1 ≡ (step / ticks + 1) * ticks → ⊥) → (step + 1) / ticks ≡ step / ticks
same_leg step ticks some begins =
    let whole : step / ticks * ticks + step % ticks ≡ step = div-add-mod' step ticks in
    let rest : step % ticks < ticks = mod-lt step some in
    let next : (step / ticks + 1) * ticks ≡ step / ticks * ticks + ticks = omega arith in
    let before : step + 1 < (step / ticks + 1) * ticks = grind (arith, begins) in
    div-eq_of_lt-le {k = step / ticks} ticks {m = step + 1} (omega arith) (omega arith)

pub same_orders : (grid : Grid) (plan : List ℕ) (start : UnderWay) (step : ℕ) (orders : Orders) → (step + 1 ≡ orders.until → ⊥)
    → AreOrders grid plan start step orders → AreOrders grid plan start (step + 1) orders
same_orders grid plan start step orders goes_on now =
    let leg : (step + 1) / grid.leg_ticks ≡ step / grid.leg_ticks = same_leg step grid.leg_ticks now.some (λ e. goes_on (e ∙ sym now.until)) in
    record {
      course = rw leg now.course;
      speed = rw leg now.speed;
      some = now.some;
      below = now.below;
      small = now.small;
      until = rw leg now.until;
    }

no_swing : (d : ℕ) → swing_of d d ≡ pos 0
unfolding swing_of shorter_arc
no_swing d = grind (arith, ints)

pub turned-same : (rate d : ℕ) → d < 3600 → turned rate d d ≡ d
unfolding turned
turned-same rate d h =
    let none : held (neg_ℤ (pos rate)) (pos rate) (pos 0) ≡ pos 0 = held_small rate (pos 0) (omega (arith, ints)) in
    rw (no_swing d, none, add-zero) (rem_same d h)

pub hastened-same : (rate v : ℕ) → hastened rate v v ≡ v
unfolding hastened
hastened-same rate v =
    let none : pos v -ℤ pos v ≡ pos 0 = omega (arith, ints) in
    let held_none : held (neg_ℤ (pos rate)) (pos rate) (pos 0) ≡ pos 0 = held_small rate (pos 0) (omega (arith, ints)) in
    rw (none, held_none) (omega (arith, ints))
