-- The values at the keys of a document.
use Rattle.std.specs.Prelude.{ℕ, ◌==◌, ℤ, pos, negsuc, List, [], map, length, if◌then◌else◌, Option, Some, None, Result, Ok, Err}
use Rattle.toml.specs.Data.{Data, Items, Members, as_array, as_integer, as_table, get_member}
use Rattle.scenario_keys.specs.ListFaults.{elements}
use Rattle.scenario_keys.specs.declared.cause.Cause.{Cause}
use Rattle.scenario_keys.specs.declared.cause.Cause.TheVariants as cause

-- the table of a name, and the document itself if the name is empty

abbrev pub as_table_found : Option Members → Result Members Cause
as_table_found None = Err cause.Type_
as_table_found (Some table) = Ok table

abbrev pub found_table : Option Data → Result Members Cause
found_table None = Err cause.Missing
found_table (Some found) = as_table_found (as_table found)

abbrev pub table_at : List ℕ → Members → Result Members Cause
table_at name document = if length name == 0 then Ok document else found_table (get_member name document)

-- the value at a key, and its integer

abbrev pub found_in : List ℕ → Result Members Cause → Option Data
found_in name (Err cause) = None
found_in name (Ok table) = get_member name table

abbrev pub integer_found : Option Data → Option ℤ
integer_found None = None
integer_found (Some found) = as_integer found

unfoldable pub integer_at : List ℕ → List ℕ → Members → Option ℤ
integer_at table name document = integer_found (found_in name (table_at table document))

-- the integer at a key; 0 if there is none, which cannot occur in a document without a fault

abbrev pub integer_of : Option ℤ → ℤ
integer_of None = pos 0
integer_of (Some z) = z

abbrev pub natural_of : Option ℤ → ℕ
natural_of None = 0
natural_of (Some (pos n)) = n
natural_of (Some (negsuc n)) = 0

abbrev pub whole_at : List ℕ → List ℕ → Members → ℤ
whole_at table name document = integer_of (integer_at table name document)

abbrev pub natural_at : List ℕ → List ℕ → Members → ℕ
natural_at table name document = natural_of (integer_at table name document)

-- the integer at an optional key, or its default

abbrev pub integer_or : ℤ → Option Data → Option ℤ
integer_or otherwise None = Some otherwise
integer_or otherwise (Some found) = as_integer found

unfoldable pub optional_at : List ℕ → List ℕ → ℕ → Members → ℕ
optional_at table name otherwise document = natural_of (integer_or (pos otherwise) (found_in name (table_at table document)))

-- the elements of the list at a key, or none without the key

abbrev pub array_in : Option Data → Option Items
array_in None = None
array_in (Some found) = as_array found

abbrev pub list_in : Option Items → List Data
list_in None = []
list_in (Some items) = elements items

unfoldable pub list_at : List ℕ → List ℕ → Members → List Data
list_at table name document = list_in (array_in (found_in name (table_at table document)))

-- their integers
abbrev pub integers_at : List ℕ → List ℕ → Members → List ℤ
integers_at table name document = map (λ found. integer_of (as_integer found)) (list_at table name document)

abbrev pub naturals_at : List ℕ → List ℕ → Members → List ℕ
naturals_at table name document = map (λ found. natural_of (as_integer found)) (list_at table name document)

-- the value at a name in one of the tables of a list

abbrev pub in_members : List ℕ → Option Members → Option Data
in_members name None = None
in_members name (Some members) = get_member name members

abbrev pub member_at : List ℕ → Data → Option Data
member_at name found = in_members name (as_table found)

-- the integers of a list within another one
abbrev pub integers_in : Data → List ℤ
integers_in found = map (λ inner. integer_of (as_integer inner)) (list_in (as_array found))
