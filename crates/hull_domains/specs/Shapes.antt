-- Shapes of six vertices about a vessel. A vertex lies some metres forward of her and some to starboard.
use Rattle.std.specs.Prelude.{ℕ, zero, suc, ◌≡◌, ◌==◌, ◌+◌, ◌%◌, ◌≤◌, ◌<◌, nat_le, Bool, true, ◌&&◌, if◌then◌else◌, List, length, All, slice_index_or, Option, Some, None, ℤ, pos, int_lt, ◌-ℤ◌, ◌<ℤ◌, unsigned_abs}
use Rattle.std.specs.List.{list_all}
use Rattle.fixed_geometry.specs.Plane.{turn_of}
use Rattle.hull_domains.specs.declared.shape.Edge.{Edge}

abbrev pub vertex_of : List (ℤ × ℤ) → ℕ → ℤ × ℤ
vertex_of vertices k = slice_index_or vertices k (pos 0, pos 0)

-- the edge from a vertex to the next one; after the last comes the first
unfoldable pub edge_of : List (ℤ × ℤ) → ℕ → Edge
edge_of vertices k = record {
  from = record { x = (vertex_of vertices k).0; y = (vertex_of vertices k).1 };
  along = record {
    x = (vertex_of vertices ((k + 1) % 6)).0 -ℤ (vertex_of vertices k).0;
    y = (vertex_of vertices ((k + 1) % 6)).1 -ℤ (vertex_of vertices k).1;
  };
}

abbrev pub IsNearVertex : ℤ × ℤ → Type 0
IsNearVertex vertex = (unsigned_abs vertex.0 ≤ 2000) × (unsigned_abs vertex.1 ≤ 2000)

-- At the end of an edge the next one turns to starboard.
abbrev pub Turns : Edge → Edge → Type 0
Turns edge next = pos 0 <ℤ turn_of edge.along next.along

-- The vessel is strictly inside an edge.
abbrev pub HasInside : Edge → Type 0
HasInside edge = turn_of edge.along edge.from <ℤ pos 0

-- Six vertices stand clockwise about the vessel, none more than 2000 m from her in a component.
pub record IsShape (vertices : List (ℤ × ℤ)) : Type 0 where
  pub count : length vertices ≡ 6
  pub near : All IsNearVertex vertices
  pub around : (k : ℕ) → k < 6 → Turns (edge_of vertices k) (edge_of vertices ((k + 1) % 6)) × HasInside (edge_of vertices k)

-- the same as a test, for what is computed of vertices

abbrev pub is_near_vertex : ℤ × ℤ → Bool
is_near_vertex vertex = nat_le (unsigned_abs vertex.0) 2000 && nat_le (unsigned_abs vertex.1) 2000

abbrev pub turns : Edge → Edge → Bool
turns edge next = int_lt (pos 0) (turn_of edge.along next.along)

abbrev pub has_inside : Edge → Bool
has_inside edge = int_lt (turn_of edge.along edge.from) (pos 0)

-- of this many edges
unfoldable pub are_around : List (ℤ × ℤ) → ℕ → Bool
are_around vertices zero = true
are_around vertices (suc k) =
    (turns (edge_of vertices k) (edge_of vertices ((k + 1) % 6)) && has_inside (edge_of vertices k)) && are_around vertices k

unfoldable pub is_shape : List (ℤ × ℤ) → Bool
is_shape vertices = (length vertices == 6) && (list_all is_near_vertex vertices && are_around vertices 6)

-- the shape of some vertices, if they are one
abbrev pub shape_of : List (ℤ × ℤ) → Option (List (ℤ × ℤ))
shape_of vertices = if is_shape vertices then Some vertices else None
