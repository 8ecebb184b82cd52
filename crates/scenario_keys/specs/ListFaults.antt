-- The fault of a list: the first element of the wrong type, then a wrong length, then, for integers, the first one out
-- of range.
use Rattle.std.specs.Prelude.{ℕ, ◌&&◌, not, nat_le, ℤ, int_le, List, [], ◌∷◌, length, position, is_none, Bool, false, if◌then◌else◌, Option, Some, None}
use Rattle.std.specs.List.{list_all}
use Rattle.std.specs.Option.{is_some, option_map_or}
use Rattle.toml.specs.Data.{Data, Items, no_items, item, as_array, as_integer, as_table}
use Rattle.scenario_keys.specs.FirstOf.{first_of}
use Rattle.scenario_keys.specs.declared.rows.ListRange.{ListRange}
use Rattle.scenario_keys.specs.declared.cause.Cause.{Cause}
use Rattle.scenario_keys.specs.declared.cause.Cause.TheVariants as cause

abbrev pub elements : Items → List Data
elements no_items = []
elements (item found rest) = found ∷ elements rest

abbrev pub is_no_integer : Data → Bool
is_no_integer found = is_none (as_integer found)

abbrev pub is_in_range : ListRange → ℤ → Bool
is_in_range range z = int_le range.low z && int_le z range.high

abbrev pub is_out_of_range : ListRange → Data → Bool
is_out_of_range range found = option_map_or (λ z. not (is_in_range range z)) (as_integer found) false

-- A fault of a list is an item, counted from 0, and its cause. A fault of the whole list has the item 0.

abbrev pub at_item : Cause → Option ℕ → Option (ℕ × Cause)
at_item cause None = None
at_item cause (Some index) = Some (index, cause)

abbrev pub length_fault : ℕ → ℕ → ℕ → Option (ℕ × Cause)
length_fault fewest most n = if nat_le fewest n && nat_le n most then None else Some (0, cause.Range)

unfoldable pub elements_fault : ListRange → List Data → Option (ℕ × Cause)
elements_fault range list =
    first_of (
    at_item cause.Type_ (position is_no_integer list) ∷
    length_fault range.fewest range.most (length list) ∷
    at_item cause.Range (position (is_out_of_range range) list) ∷ [])

abbrev pub array_fault : ListRange → Option Items → Option (ℕ × Cause)
array_fault range None = Some (0, cause.Type_)
array_fault range (Some items) = elements_fault range (elements items)

abbrev pub list_fault : ListRange → Option Data → Option (ℕ × Cause)
list_fault range None = if range.is_optional then None else Some (0, cause.Missing)
list_fault range (Some found) = array_fault range (as_array found)

-- an optional list of tables

abbrev pub is_no_table : Data → Bool
is_no_table found = is_none (as_table found)

unfoldable pub tables_fault_in : ℕ → List Data → Option (ℕ × Cause)
tables_fault_in most list = first_of (at_item cause.Type_ (position is_no_table list) ∷ length_fault 0 most (length list) ∷ [])

abbrev pub table_array_fault : ℕ → Option Items → Option (ℕ × Cause)
table_array_fault most None = Some (0, cause.Type_)
table_array_fault most (Some items) = tables_fault_in most (elements items)

abbrev pub tables_fault : ℕ → Option Data → Option (ℕ × Cause)
tables_fault most None = None
tables_fault most (Some found) = table_array_fault most (as_array found)

-- lists within a list

abbrev pub is_integer : Data → Bool
is_integer found = is_some (as_integer found)

abbrev pub are_integers : Option Items → Bool
are_integers None = false
are_integers (Some items) = list_all is_integer (elements items)

abbrev pub is_integer_list : Data → Bool
is_integer_list found = are_integers (as_array found)
