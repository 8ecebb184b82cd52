-- The shape of own ship's part: six vertices, each a list of two integers. Its fault is that of the first vertex that
-- is not a list of integers, then of a number of vertices other than six, then of the first vertex that is not two
-- integers within their range, then of vertices that form no shape.
use Rattle.std.specs.Prelude.{ℕ, List, [], ◌∷◌, length, map, position, not, is_none, unwrap_or, Bool, if◌then◌else◌, Option, Some, None, ℤ, pos}
use Rattle.toml.specs.Data.{Data, Items, as_array}
use Rattle.hull_domains.specs.Shapes.{is_near_vertex, shape_of}
use Rattle.scenario_keys.specs.FirstOf.{first_of}
use Rattle.scenario_keys.specs.KeyValues.{integers_in}
use Rattle.scenario_keys.specs.ListFaults.{at_item, elements, is_integer_list, length_fault}
use Rattle.scenario_keys.specs.declared.cause.Cause.{Cause}
use Rattle.scenario_keys.specs.declared.cause.Cause.TheVariants as cause

-- two integers, metres forward of the vessel and to starboard of her, if they are near enough

abbrev pub near_vertex : ℤ × ℤ → Option (ℤ × ℤ)
near_vertex vertex = if is_near_vertex vertex then Some vertex else None

abbrev pub vertex_by : List ℤ → Option (ℤ × ℤ)
vertex_by (forward ∷ starboard ∷ []) = near_vertex (forward, starboard)
vertex_by _ = None

abbrev pub vertex_in : Data → Option (ℤ × ℤ)
vertex_in found = vertex_by (integers_in found)

-- the shape of a list, if it forms one; an element that is not a vertex becomes the vessel's own place, which no shape
-- has as a vertex

abbrev pub vertex_of : Data → ℤ × ℤ
vertex_of found = unwrap_or (vertex_in found) (pos 0, pos 0)

abbrev pub shape_in : List Data → Option (List (ℤ × ℤ))
shape_in list = shape_of (map vertex_of list)

-- its fault

abbrev pub is_no_integer_list : Data → Bool
is_no_integer_list found = not (is_integer_list found)

abbrev pub is_no_vertex : Data → Bool
is_no_vertex found = is_none (vertex_in found)

abbrev pub no_shape_fault : Option (List (ℤ × ℤ)) → Option (ℕ × Cause)
no_shape_fault None = Some (0, cause.Range)
no_shape_fault (Some shape) = None

unfoldable pub vertices_fault : List Data → Option (ℕ × Cause)
vertices_fault list =
    first_of (
    at_item cause.Type_ (position is_no_integer_list list) ∷
    length_fault 6 6 (length list) ∷
    at_item cause.Range (position is_no_vertex list) ∷
    no_shape_fault (shape_in list) ∷ [])

abbrev pub shape_array_fault : Option Items → Option (ℕ × Cause)
shape_array_fault None = Some (0, cause.Type_)
shape_array_fault (Some items) = vertices_fault (elements items)

abbrev pub shape_fault : Option Data → Option (ℕ × Cause)
shape_fault None = None
shape_fault (Some found) = shape_array_fault (as_array found)
