-- The construction of the document of version 2, one member after the other.
use Rattle.std.specs.Prelude.{ℕ, codes, List, [], ◌∷◌, is_some, if◌then◌else◌, Option, Some, None}
use Rattle.std.specs.Cmp.Lexicographic.{slice_cmp}
use Rattle.std.specs.Ordering.{match_ordering, nat_cmp}
use Rattle.toml.specs.Data.{Data, Members, no_members, member, get_member}
use Rattle.toml.specs.Data as toml
use Rattle.scenario_keys.specs.ScenarioKeys.{rows, Row}
use Rattle.scenario.specs.Migration.{is_key_of, new_value, table_names}

-- members in the order of their names, and one more, which replaces one of the same name

abbrev pub with_member : List ℕ → Data → Members → Members
with_member name found no_members = member name found no_members
with_member name found (member other here rest) =
    match_ordering
    (slice_cmp nat_cmp name other)
    (member name found (member other here rest))
    (member other found rest)
    (member other here (with_member name found rest))

abbrev pub with_found : List ℕ → Option Data → Members → Members
with_found name None members = members
with_found name (Some found) members = with_member name found members

-- the keys of a table with their values in version 2, added to the members

abbrev pub with_key : Members → List ℕ → Row → Members → Members
with_key document table row members =
    if is_key_of table row then with_found row.name (new_value document row) members else members

abbrev pub with_keys : Members → List ℕ → List Row → Members → Members
with_keys document table [] members = members
with_keys document table (row ∷ rest) members = with_keys document table rest (with_key document table row members)

unfoldable pub keys_of : Members → List ℕ → Members
keys_of document table = with_keys document table rows no_members

abbrev pub with_table : Members → List ℕ → Members → Members
with_table document name members =
    if is_some (get_member name document) then with_member name (toml.table (keys_of document name)) members else members

abbrev pub with_tables : Members → List (List ℕ) → Members → Members
with_tables document [] members = members
with_tables document (name ∷ rest) members = with_tables document rest (with_table document name members)

-- The document of version 2: the keys of the table of keys that the document of version 1 has, and nothing else.
unfoldable pub migrated : Members → Members
migrated document = with_tables document table_names (keys_of document (codes ""))
