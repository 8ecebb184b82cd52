-- The migration of a scenario of version 1 to version 2.
use Rattle.std.specs.Prelude.{◌≡◌, ◌⊎◌, ◌≤◌, ◌<◌, ◌==◌, ◌&&◌, ◌++◌, ℕ, pos, codes, bytes_eq, List, [], ◌∷◌, map, Bool, true, false, is_some, if◌then◌else◌, Option, Some, None}
use Rattle.std.specs.List.{find, list_any}
use Rattle.toml.specs.Data.{Data, integer, array, Items, Members, no_members, member, as_array, get_member, is_before}
use Rattle.toml.specs.Data as toml
use Rattle.toml.specs.Text.{IsDocumentText}
use Rattle.toml.specs.View.{items_of}
use Rattle.rule_set.specs.NamedTrees.{rules_by, NamedTree}
use Rattle.rule_set.specs.declared.numbers.RuleNumbers.{RuleNumbers}
use Rattle.rule_set.specs.declared.numbers.Safe.TheVariants as safe
use Rattle.rule_set.specs.declared.ranking.Ranking.{Ranking}
use Rattle.rule_set.specs.declared.ranking.Ranking.TheVariants.{Counted}
use Rattle.scenario_values.specs.LightRules.{greatest_weight, total_weight}
use Rattle.scenario_keys.specs.KeyValues.{found_in, member_at, table_at}
use Rattle.scenario_keys.specs.ListFaults.{elements}
use Rattle.scenario_keys.specs.ScenarioKeys.{rows, Row}
use Rattle.scenario_keys.specs.declared.rows.Kind.{Kind}
use Rattle.scenario_keys.specs.declared.rows.Kind.TheVariants as kind
use Rattle.scenario_keys.specs.declared.rows.When.{When}
use Rattle.scenario_keys.specs.declared.rows.When.TheVariants as when
use Rattle.scenario_keys.specs.declared.key.Key.{Key}
use Rattle.scenario_keys.specs.declared.cause.Cause.{Cause}
use Rattle.scenario_keys.specs.declared.cause.Cause.TheVariants as cause
use Rattle.scenario.specs.DocumentFaults.{IsFaultless, IsFirstFault}
use Rattle.scenario.specs.KeyFaults.{is_version_two}
use Rattle.scenario.specs.Purposes.{are_counted}
use Rattle.scenario.specs.ScenarioReading.{IsNoToml, IsRefused, Means, Reads}
use Rattle.scenario.specs.declared.purpose.Purpose.{Purpose}
use Rattle.scenario_values.specs.declared.values.Scenario.{Scenario}

-- the name and the text of a table of `formula`, or the changes and the ship of a table of `predict`

abbrev pub member_if : List ℕ → Option Data → Members → Members
member_if name None rest = rest
member_if name (Some found) rest = member name found rest

abbrev pub two_of : List ℕ → List ℕ → Data → Data
two_of first second here = toml.table (member_if first (member_at first here) (member_if second (member_at second here) no_members))

abbrev pub known_members : List ℕ → Data → Data
known_members list here =
    if bytes_eq list (codes "formula")
    then two_of (codes "name") (codes "text") here
    else two_of (codes "changes") (codes "mmsi") here

-- the part of a key's value that migration keeps: all of it, but only the known members of a list of tables

abbrev pub kept_array : List ℕ → Data → Option Items → Data
kept_array name found None = found
kept_array name found (Some tables) = array (items_of (map (known_members name) (elements tables)))

abbrev pub kept_by : Kind → List ℕ → Data → Data
kept_by (kind.Tables most) name found = kept_array name found (as_array found)
kept_by _ name found = found

abbrev pub kept : Row → Option Data → Option Data
kept row None = None
kept row (Some found) = Some (kept_by row.kind row.name found)

-- the value at a key of a table
abbrev pub found_at : List ℕ → List ℕ → Members → Option Data
found_at table name document = found_in name (table_at table document)

-- whether the document has own ship
unfoldable pub has_own : Members → Bool
has_own document = is_some (get_member (codes "own") document)

-- Everything in the document counts: her keys, and ranks if it asks for them.
abbrev pub for_migration : Members → Purpose
for_migration document = record { need_own = has_own document; ranks = Counted }

-- The value of a key in version 2: each of the safe distances has the value of `rules.safe`, `version` is 2, and any
-- other key keeps its value. Keys that count only for own ship are left out if the document has none.

abbrev pub new_value_when : When → Row → Members → Option Data
new_value_when when.InVersionTwo row document = found_at (codes "rules") (codes "safe") document
new_value_when when.ForOwnShip row document =
    if has_own document then kept row (found_at row.table row.name document) else None
new_value_when _ row document = if row.number == 1 then Some (integer (pos 2)) else kept row (found_at row.table row.name document)

unfoldable pub new_value : Members → Row → Option Data
new_value document row = new_value_when row.when row document

-- the rows of one key, not of several keys or of the content of a list

abbrev pub is_key : Kind → Bool
is_key (kind.Number range) = true
is_key (kind.Numbers range) = true
is_key (kind.Tables most) = true
is_key kind.Shape = true
is_key _ = false

abbrev pub is_key_of : List ℕ → Row → Bool
is_key_of table row = is_key row.kind && bytes_eq row.table table

-- The value at a name of a table in version 2: the new value of the key with this name, or nothing without such a key.

abbrev pub is_key_at : List ℕ → List ℕ → Row → Bool
is_key_at table name row = is_key_of table row && bytes_eq name row.name

abbrev pub value_of_key : Members → Option Row → Option Data
value_of_key document None = None
value_of_key document (Some row) = new_value document row

abbrev pub value_at : Members → List ℕ → List ℕ → Option Data
value_at document table name = value_of_key document (find (is_key_at table name) rows)

-- the names of the members ascend
abbrev pub are_in_order : Members → Bool
are_in_order no_members = true
are_in_order (member name found rest) = is_before name rest && are_in_order rest

-- the members are the keys of the table, and nothing else
abbrev pub AreKeysOf : Members → List ℕ → Members → Type 0
AreKeysOf document table keys = (are_in_order keys ≡ true) × ((name : List ℕ) → get_member name keys ≡ value_at document table name)

-- the tables that contain keys
abbrev pub table_names : List (List ℕ)
table_names =
    codes "window" ∷ codes "reference" ∷ codes "log" ∷ codes "detect" ∷ codes "act" ∷ codes "rules" ∷ codes "own" ∷ []

-- the document has a table of keys of this name
abbrev pub has_table : Members → List ℕ → Bool
has_table document name = list_any (bytes_eq name) table_names && is_some (get_member name document)

-- The document of version 2: each table of keys that the document of version 1 has, with its keys, the keys outside
-- tables, and nothing else.
pub record IsMigratedDocument (document after : Members) : Type 0 where
  pub in_order : are_in_order after ≡ true
  pub tables :
      (name : List ℕ) → has_table document name ≡ true
      → (keys : Members) × (get_member name after ≡ Some (toml.table keys)) × AreKeysOf document name keys
  pub keys : (name : List ℕ) → has_table document name ≡ false → get_member name after ≡ value_at document [] name

-- The text is that of the document of version 2, and reading it returns this document. The document of version 1 has no
-- fault.
pub record IsMigrated (bytes text : List ℕ) : Type 0 where
  pub document : Members
  pub reads : Reads bytes document
  pub version_one : is_version_two document ≡ false
  pub faultless : IsFaultless (for_migration document) document
  pub after : Members
  pub becomes : IsMigratedDocument document after
  pub printed : IsDocumentText false after text
  pub read_again : Reads text after

-- The bytes have version 2, which is a fault of `version`, whatever else they contain.
pub record IsOfVersionTwo (bytes : List ℕ) (key : Key) (why : Cause) : Type 0 where
  pub document : Members
  pub reads : Reads bytes document
  pub version_two : is_version_two document ≡ true
  pub at : key ≡ record { row = 1; item = 0 }
  pub because : why ≡ cause.Range

-- The first fault of the keys of any other document, if everything in it counts.
pub record HasFirstFault (bytes : List ℕ) (key : Key) (why : Cause) : Type 0 where
  pub document : Members
  pub reads : Reads bytes document
  pub version_one : is_version_two document ≡ false
  pub first : IsFirstFault (for_migration document) document (key, why)

abbrev pub IsNotMigrated : List ℕ → Key → Cause → Type 0
IsNotMigrated bytes key why = IsNoToml bytes key why ⊎ (IsOfVersionTwo bytes key why ⊎ HasFirstFault bytes key why)

-- The second scenario equals the first one, except that its rules have the safe distance of the first for each kind of
-- encounter.
pub record HasSafePerKind (scenario other : Scenario) : Type 0 where
  pub ranks : Ranking
  pub tick : ℕ
  pub numbers : RuleNumbers
  pub metres : ℕ
  pub added : List NamedTree
  pub counted : scenario.ranks ≡ are_counted ranks
  pub one : numbers.safe ≡ safe.One metres
  pub rules : scenario.rules ≡ rules_by ranks tick numbers ++ added
  pub per_kind :
      other.rules ≡ rules_by ranks tick (record {
        safe = safe.PerKind metres metres metres metres;
        overtake = numbers.overtake;
        close = numbers.close;
        t8 = numbers.t8;
        ta = numbers.ta;
        tl = numbers.tl;
        tw = numbers.tw;
        te = numbers.te;
      }) ++ added
  pub rest :
      other ≡ record {
        window = scenario.window;
        reference = scenario.reference;
        log = scenario.log;
        detect = scenario.detect;
        act = scenario.act;
        rules = other.rules;
        ranks = scenario.ranks;
        subjects = scenario.subjects;
        own = scenario.own;
      }

-- The text means that scenario, if its rules are light enough together, and otherwise it is refused for their weight.
pub record MeansTheSame (need_own : Bool) (scenario : Scenario) (text : List ℕ) : Type 0 where
  pub other : Scenario
  pub same : HasSafePerKind scenario other
  pub meaning :
      (total_weight other.rules ≤ greatest_weight) × Means need_own text other
      ⊎ (greatest_weight < total_weight other.rules) × IsRefused need_own text (record { row = 34; item = 0 }) cause.Product
