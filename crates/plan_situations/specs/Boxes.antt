-- Boxes with sides along the axes, which hold all of a path.
use Rattle.std.specs.Prelude.{ℕ, ◌⊎◌, List, take, drop, All, ℤ, pos, ◌+ℤ◌, ◌≤ℤ◌}
use Rattle.fixed_geometry.specs.declared.point.Point.{Point}
use Rattle.motion.specs.declared.leg.TickState.{TickState}
use Rattle.plan_situations.specs.declared.boxes.Bounds.{Bounds}
use Rattle.plan_situations.specs.declared.situation.Target.{Target}

-- A point lies in a box, its edges included.
pub record IsIn (bounds : Bounds) (point : Point) : Type 0 where
  pub west : bounds.west ≤ℤ point.x
  pub east : point.x ≤ℤ bounds.east
  pub south : bounds.south ≤ℤ point.y
  pub north : point.y ≤ℤ bounds.north

-- It holds a vessel at each tick of a path.
abbrev pub HoldsPath : Bounds → List TickState → Type 0
HoldsPath bounds path = All (λ state. IsIn bounds state.point) path

-- a target's states as predicted, at this many ticks from one on that is counted from now
abbrev pub ahead_from : Target → ℕ → ℕ → List TickState
ahead_from target first ticks = take ticks (drop first target.ahead)

-- A coordinate lies at least so far beyond another.
abbrev pub IsBeyond : ℤ → ℤ → ℕ → Type 0
IsBeyond to from distance = (from +ℤ pos distance) ≤ℤ to

-- Along one of the axes two boxes lie at least so far apart.
abbrev pub LieApart : Bounds → Bounds → ℕ → Type 0
LieApart a b distance =
    (IsBeyond b.west a.east distance ⊎ IsBeyond a.west b.east distance) ⊎ (IsBeyond b.south a.north distance ⊎ IsBeyond a.south b.north distance)
