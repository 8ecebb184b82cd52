-- The one order of rows.
use Rattle.std.specs.Prelude.{ℕ, List, map}
use Rattle.std.specs.List.Sorted.{IsStrictlySortedBy}
use Rattle.std.specs.declared.cmp.Ordering.{Ordering}
use Rattle.std.specs.declared.cmp.Ordering.TheVariants.{Less, Greater}
use Rattle.std.specs.Ordering.{ordering_then, nat_cmp}
use Rattle.meetings.specs.declared.pair.Pair.{Pair}
use Rattle.audit_rows.specs.declared.sort_key.SortKey.{SortKey}
use Rattle.audit_rows.specs.declared.row.Row.{Row}
use Rattle.audit_rows.specs.declared.row.Row.TheVariants as row
use Rattle.audit_rows.specs.declared.topic.Topic.{Topic}
use Rattle.audit_rows.specs.declared.topic.Topic.TheVariants as topic

-- by the subject, then by the other
abbrev pub pair_cmp : Pair → Pair → Ordering
pair_cmp a b = ordering_then (nat_cmp a.subject b.subject) (nat_cmp a.other b.other)

-- Meetings stand before verdicts; then it goes by the pair, then by the rule.
abbrev pub topic_cmp : Topic → Topic → Ordering
topic_cmp (topic.Meeting a) (topic.Meeting b) = pair_cmp a b
topic_cmp (topic.Meeting a) (topic.Verdict b rule) = Less
topic_cmp (topic.Verdict a rule) (topic.Meeting b) = Greater
topic_cmp (topic.Verdict a rule) (topic.Verdict b other) = ordering_then (pair_cmp a b) (nat_cmp rule other)

-- by the last step, then by the topic
abbrev pub place_cmp : SortKey → SortKey → Ordering
place_cmp a b = ordering_then (nat_cmp a.last b.last) (topic_cmp a.topic b.topic)

abbrev pub topic_of : Row → Topic
topic_of (row.Meeting pair kind first last least) = topic.Meeting pair
topic_of (row.Verdict pair rule undecided first last) = topic.Verdict pair rule

abbrev pub first_step_of : Row → ℕ
first_step_of (row.Meeting pair kind first last least) = first
first_step_of (row.Verdict pair rule undecided first last) = first

abbrev pub last_step_of : Row → ℕ
last_step_of (row.Meeting pair kind first last least) = last
last_step_of (row.Verdict pair rule undecided first last) = last

abbrev pub sort_key_of : Row → SortKey
sort_key_of row = record { last = last_step_of row; topic = topic_of row }

-- The places of the rows ascend strictly.
abbrev pub InOrder : List Row → Type 0
InOrder rows = IsStrictlySortedBy place_cmp (map sort_key_of rows)
