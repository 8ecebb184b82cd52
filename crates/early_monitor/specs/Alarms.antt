-- Alarms: each breach of a rule at the first step that decides it.
use Rattle.std.specs.Prelude.{ℕ, ◌≡◌, ◌+◌, ◌<◌, ◌↔◌, List, length}
use Rattle.std.specs.List.{Contains}
use Rattle.std.specs.List.Sorted.{IsStrictlySortedBy}
use Rattle.std.specs.declared.cmp.Ordering.{Ordering}
use Rattle.std.specs.Ordering.{ordering_then, nat_cmp}
use Rattle.mtl_formulas.specs.declared.verdict.Verdict.TheVariants.{No}
use Rattle.mtl_formulas.specs.FormulaTree.{FormulaTree}
use Rattle.mtl_formulas.specs.Traces.{value_in}
use Rattle.rule_set.specs.NamedTrees.{NamedTree, rule_at}
use Rattle.audit_rows.specs.Order.{pair_cmp}
use Rattle.traces.specs.Audited.{AuditNumbers, Sighting}
use Rattle.traces.specs.Known.{IsKnown, Known}
use Rattle.early_monitor.specs.declared.alarm.Alarm.{Alarm}
use Rattle.mtl_early.specs.Decided.{IsDecided}

-- ---- the one order of alarms

-- by the deciding step, then by the pair, the rule and the position
abbrev pub alarm_cmp : Alarm → Alarm → Ordering
alarm_cmp a b =
    ordering_then (nat_cmp a.decided b.decided) (ordering_then (pair_cmp a.pair b.pair) (ordering_then (nat_cmp a.rule b.rule) (nat_cmp a.position b.position)))

-- They ascend strictly, so none occurs twice.
abbrev pub InOrder : List Alarm → Type 0
InOrder alarms = IsStrictlySortedBy alarm_cmp alarms

-- ---- the alarms of a window's ticks

-- the formula of the rule at an index
abbrev pub tree_of_rule : List NamedTree → ℕ → FormulaTree
tree_of_rule rules rule = (rule_at rules rule).tree

module _ (numbers : AuditNumbers) (ticks : List Sighting) where
  -- A rule is broken at a position of a trace, and exactly the trace's first steps up to the deciding one decide this.
  pub record IsAlarm (alarm : Alarm) : Type 0 where
    pub within : alarm.rule < length numbers.rules
    pub known : Known
    pub of : IsKnown numbers ticks known
    pub pair : alarm.pair ≡ known.pair
    pub at : ℕ
    pub position : alarm.position ≡ known.start + at
    pub broken : value_in known.trace (tree_of_rule numbers.rules alarm.rule) at ≡ No
    pub count : ℕ
    pub deciding : alarm.decided + 1 ≡ known.start + count
    pub decided : IsDecided (tree_of_rule numbers.rules alarm.rule) known.trace at count

  -- The list has each of them and nothing else, in order.
  pub record AreAlarms (alarms : List Alarm) : Type 0 where
    pub each : (alarm : Alarm) → Contains alarms alarm ↔ IsAlarm alarm
    pub ordered : InOrder alarms

  -- the same for the alarms that the step to the last of these ticks decides
  pub record AreAlarmsNow (alarms : List Alarm) : Type 0 where
    pub each : (alarm : Alarm) → Contains alarms alarm ↔ (IsAlarm alarm × (alarm.decided + 2 ≡ length ticks))
    pub ordered : InOrder alarms
