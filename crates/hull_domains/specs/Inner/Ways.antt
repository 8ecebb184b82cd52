-- How far the vertices of a shape are, by a way that is no shorter than the distance.
use Rattle.std.specs.Prelude.{ℕ, zero, suc, ◌+◌, max, List, ℤ, unsigned_abs}
use Rattle.hull_domains.specs.Shapes.{vertex_of}

-- the way to a vertex: forward or aft, and then abeam
abbrev pub way_to : ℤ × ℤ → ℕ
way_to vertex = unsigned_abs vertex.0 + unsigned_abs vertex.1

-- the longest way to one of the first vertices, in metres
unfoldable pub longest_way : List (ℤ × ℤ) → ℕ → ℕ
longest_way vertices zero = 0
longest_way vertices (suc k) = max (longest_way vertices k) (way_to (vertex_of vertices k))
