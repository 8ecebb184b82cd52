-- Facts of the table of keys about a key that counts.
use Rattle.std.specs.Prelude.{ℕ, ℤ, pos, ◌&&◌, nat_le, int_le, codes, List, find, Bool, true, false, if◌then◌else◌, Option, Some, None}
use Rattle.std.specs.Str.{bytes_eq}
use Rattle.scenario_keys.specs.ScenarioKeys.{Row}
use Rattle.scenario.specs.Inner.NoFaults.{rows_by}
use Rattle.scenario.specs.KeyFaults.{counts}
use Rattle.scenario.specs.declared.basis.Basis.{Basis}
use Rattle.scenario_keys.specs.declared.rows.Range.{Range}
use Rattle.scenario_keys.specs.declared.rows.Range.TheVariants as range
use Rattle.scenario_keys.specs.declared.rows.ListRange.{ListRange}
use Rattle.scenario_keys.specs.declared.rows.Kind.{Kind}
use Rattle.scenario_keys.specs.declared.rows.Kind.TheVariants as kind

abbrev pub is_named : List ℕ → List ℕ → Row → Bool
is_named table name row = bytes_eq row.table table && bytes_eq row.name name

abbrev pub kind_of : Basis → Option Row → Option Kind
kind_of basis None = None
kind_of basis (Some row) = if counts basis row.when then Some row.kind else None

-- the value that a key must have
unfoldable pub kind_at : Basis → List ℕ → List ℕ → Option Kind
kind_at basis table name = kind_of basis (find (is_named table name) (rows_by basis.need_own))

-- the range of its integers

abbrev pub range_in : Option Kind → Option Range
range_in None = None
range_in (Some (kind.Number range)) = Some range
range_in (Some _) = None

abbrev pub range_at : Basis → List ℕ → List ℕ → Option Range
range_at basis table name = range_in (kind_at basis table name)

-- the least integer of a range, whatever the tick, which is at least one second
abbrev pub least_in : Option Range → ℤ
least_in None = pos 0
least_in (Some (range.FromTo least most)) = least
least_in (Some (range.FromTheTickTo most)) = pos 1
least_in (Some (range.TicksFromOneTo most)) = pos 1
least_in (Some (range.TicksTo most)) = pos 0
least_in (Some (range.Optional least most otherwise)) = least

-- the greatest
abbrev pub most_in : Option Range → ℤ
most_in None = pos 0
most_in (Some (range.FromTo least most)) = most
most_in (Some (range.FromTheTickTo most)) = most
most_in (Some (range.TicksFromOneTo most)) = most
most_in (Some (range.TicksTo most)) = most
most_in (Some (range.Optional least most otherwise)) = most

-- The key is required, and its range is within these two numbers, whatever the tick.
abbrev pub lies_in : ℤ → ℤ → Option Range → Bool
lies_in low high None = false
lies_in low high (Some (range.FromTo least most)) = int_le low least && int_le most high
lies_in low high (Some (range.FromTheTickTo most)) = int_le low (pos 1) && int_le most high
lies_in low high (Some (range.TicksFromOneTo most)) = int_le low (pos 1) && int_le most high
lies_in low high (Some (range.TicksTo most)) = int_le low (pos 0) && int_le most high
lies_in low high (Some (range.Optional least most otherwise)) = false

-- The key is optional with this default, which is in its range, and the range is within the first two numbers.
abbrev pub may_lie_in : ℤ → ℤ → ℤ → Option Range → Bool
may_lie_in low high otherwise (Some (range.Optional least most other)) =
    (int_le low least && int_le most high) && (int_le least otherwise && int_le otherwise most)
may_lie_in low high otherwise _ = false

-- The key's range begins with the tick.
abbrev pub begins_with_the_tick : Option Range → Bool
begins_with_the_tick (Some (range.FromTheTickTo most)) = true
begins_with_the_tick (Some (range.TicksFromOneTo most)) = true
begins_with_the_tick _ = false

-- The key has multiples of the tick.
abbrev pub are_ticks : Option Range → Bool
are_ticks (Some (range.TicksFromOneTo most)) = true
are_ticks (Some (range.TicksTo most)) = true
are_ticks _ = false

-- the lists of a key

abbrev pub list_range_in : Option Kind → Option ListRange
list_range_in None = None
list_range_in (Some (kind.Numbers range)) = Some range
list_range_in (Some _) = None

abbrev pub list_range_at : Basis → List ℕ → List ℕ → Option ListRange
list_range_at basis table name = list_range_in (kind_at basis table name)

-- the least length; an absent list has length 0
abbrev pub fewest_of : ListRange → ℕ
fewest_of range = if range.is_optional then 0 else range.fewest

-- the least and the greatest length of its lists, and the least and the greatest integer in them

abbrev pub fewest_in : Option ListRange → ℕ
fewest_in None = 0
fewest_in (Some range) = fewest_of range

abbrev pub longest_in : Option ListRange → ℕ
longest_in None = 0
longest_in (Some range) = range.most

abbrev pub low_in : Option ListRange → ℤ
low_in None = pos 0
low_in (Some range) = range.low

abbrev pub high_in : Option ListRange → ℤ
high_in None = pos 0
high_in (Some range) = range.high

-- The integers of its lists are within these numbers.
abbrev pub lists_lie_in : ℤ → ℤ → Option ListRange → Bool
lists_lie_in low high None = false
lists_lie_in low high (Some range) = int_le low range.low && int_le range.high high

-- Whether the key is own ship's, by its table.
abbrev pub is_own : List ℕ → Bool
is_own table = bytes_eq table (codes "own")
