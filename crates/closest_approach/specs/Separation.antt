-- The distance of two vessels at every rational instant of a step.
use Rattle.std.specs.Prelude.{ℕ, ◌*◌, ◌<◌, ◌≤◌, if◌then◌else◌, pos, neg_ℤ, ◌+ℤ◌, ◌*ℤ◌, ◌≤ℤ◌, ◌<ℤ◌, int_le, unsigned_abs}
use Rattle.fixed_geometry.specs.Plane.{dot_of, norm2_of, turn_of}
use Rattle.fixed_geometry.specs.declared.point.Point.{Point}
use Rattle.motion.specs.Steps.{RelativeMove}
use Rattle.closest_approach.specs.declared.nearest.Moment.{Moment}

-- the displacement from the one vessel to the other, b times, at the instant a / b: b p + a w
abbrev pub displacement_at : RelativeMove → ℕ → ℕ → Point
displacement_at step a b = record { x = pos b *ℤ step.p.x +ℤ pos a *ℤ step.w.x; y = pos b *ℤ step.p.y +ℤ pos a *ℤ step.w.y }

-- The distance at the instant a / b is at least r.
abbrev pub IsApart : RelativeMove → ℕ → ℕ → ℕ → Type 0
IsApart step r a b = (pos (b * b) *ℤ pos (r * r)) ≤ℤ norm2_of (displacement_at step a b)

-- It is less than r.
abbrev pub IsNearer : RelativeMove → ℕ → ℕ → ℕ → Type 0
IsNearer step r a b = norm2_of (displacement_at step a b) <ℤ (pos (b * b) *ℤ pos (r * r))

-- The distance is at least r at every instant of the step.
unfoldable pub IsSeparated : RelativeMove → ℕ → Type 0
IsSeparated step r = (a b : ℕ) → a ≤ b → 0 < b → IsApart step r a b

-- Separation by the two ends of the step and one comparison of squares: if the vessels are nearest between the ends,
-- the square of the turn is at least r^2 times that of the change.
pub record IsSeparatedByEnds (step : RelativeMove) (r : ℕ) : Type 0 where
  pub start : pos (r * r) ≤ℤ norm2_of step.p
  pub end : pos (r * r) ≤ℤ norm2_of (record { x = step.p.x +ℤ step.w.x; y = step.p.y +ℤ step.w.y })
  pub between : dot_of step.p step.w <ℤ pos 0 → neg_ℤ (dot_of step.p step.w) <ℤ norm2_of step.w
      → (pos (r * r) *ℤ norm2_of step.w) ≤ℤ (turn_of step.p step.w *ℤ turn_of step.p step.w)

-- At some instant a / b up to this many ticks after the beginning the distance is less than r.
pub record EntersWithin (step : RelativeMove) (r ticks : ℕ) : Type 0 where
  pub a : ℕ
  pub b : ℕ
  pub some : 0 < b
  pub within : a ≤ b * ticks
  pub nearer : IsNearer step r a b

-- At no instant of the step is the distance less than at this moment.
abbrev pub IsNearest : RelativeMove → Moment → Type 0
IsNearest step moment = (a b : ℕ) → a ≤ b → 0 < b →
    (pos (b * b) *ℤ norm2_of (displacement_at step moment.a moment.b)) ≤ℤ (pos (moment.b * moment.b) *ℤ norm2_of (displacement_at step a b))

-- the moment of least distance up to this many ticks after the beginning: the beginning, if the vessels draw apart from
-- it on; the end, if they close up to it; otherwise - p.w / |w|^2
unfoldable pub nearest_of : RelativeMove → ℕ → Moment
nearest_of step ticks =
    if int_le (pos 0) (dot_of step.p step.w) then record { a = 0; b = 1 }
    else (if int_le (pos ticks *ℤ norm2_of step.w) (neg_ℤ (dot_of step.p step.w)) then record { a = ticks; b = 1 }
    else record { a = unsigned_abs (dot_of step.p step.w); b = unsigned_abs (norm2_of step.w) })
