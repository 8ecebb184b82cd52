-- The sides of edges as the code computes them, and how large they are.
use Rattle.std.specs.Prelude.{◌≤◌, ◌<◌, ◌^◌, ℤ, pos, neg_ℤ, ◌-ℤ◌, ◌*ℤ◌, unsigned_abs}
use Rattle.fixed_geometry.specs.Plane.{dot_of, turn_of}
use Rattle.fixed_geometry.specs.Sizes.{IsWithin}
use Rattle.fixed_geometry.specs.declared.point.Point.{Point}
use Rattle.motion.specs.Steps.{RelativeMove}
use Rattle.hull_domains.specs.declared.sides.Fraction.{Fraction}
use Rattle.hull_domains.specs.declared.sides.Side.{Side}
use Rattle.hull_domains.specs.declared.shape.Edge.{Edge}

-- An edge of vertices that are near is short.
pub record IsShort (edge : Edge) : Type 0 where
  pub from : IsWithin 2000 edge.from
  pub along : IsWithin 4000 edge.along

-- at right angles to an edge: a point lies outside it by its dot product with this, counted from the edge on
abbrev pub normal_of : Point → Point → Point
normal_of along ahead = record { x = turn_of along ahead; y = neg_ℤ (dot_of along ahead) }

-- how far the target is inside the edge
abbrev pub apart_of : Edge → ℤ
apart_of edge = turn_of edge.from edge.along *ℤ pos 10000000000

unfoldable pub side_by : RelativeMove → Point → Edge → Side
side_by step ahead edge = record {
  start = dot_of step.p (normal_of edge.along ahead) -ℤ apart_of edge;
  change = dot_of step.w (normal_of edge.along ahead);
}

pub record IsLow (side : Side) : Type 0 where
  pub start : unsigned_abs side.start ≤ 140000000000000000000
  pub change : unsigned_abs side.change < 2 ^ 59

pub record IsBound (bound : Fraction) : Type 0 where
  pub over : unsigned_abs bound.over ≤ 140000000000000000000
  pub some : 0 < bound.under
  pub under : bound.under < 2 ^ 59
