-- The alarms of one step of a trace.
use Rattle.std.specs.Prelude.{ℕ, ◌≡◌, ◌≢◌, ◌+◌, ◌<◌, ◌↔◌, ◌⊎◌, List, length, Option, Some, None}
use Rattle.std.specs.List.{Contains}
use Rattle.mtl_formulas.specs.declared.verdict.Verdict.{Verdict}
use Rattle.mtl_formulas.specs.declared.verdict.Verdict.TheVariants.{No}
use Rattle.mtl_formulas.specs.FormulaTree.{FormulaTree}
use Rattle.mtl_formulas.specs.Traces.{Trace, value_in}
use Rattle.traces.specs.Audited.{AuditNumbers}
use Rattle.traces.specs.Known.{Known}
use Rattle.early_monitor.specs.declared.alarm.Alarm.{Alarm}
use Rattle.early_monitor.specs.declared.alarm_set.Place.{Place}
use Rattle.early_monitor.specs.Alarms.{tree_of_rule}
use Rattle.mtl_early.specs.Decided.{IsDecidedNow}

-- The new list has the elements of the old one, and those of the predicate.
abbrev pub Adds : (Alarm → Type 0) → List Alarm → List Alarm → Type 0
Adds Is old new = (alarm : Alarm) → Contains new alarm ↔ (Contains old alarm ⊎ Is alarm)

-- the alarm of a position of the trace, which the latest step has decided
abbrev pub alarm_at : Place → ℕ → Alarm
alarm_at place position = record { decided = place.step; pair = place.pair; rule = place.rule; position = place.start + position }

-- the alarm of an answer's position, if its value is No
abbrev pub Tells : Option (ℕ × Verdict) → Place → Alarm → Type 0
Tells None place alarm = ⊥
Tells (Some answer) place alarm = (answer.1 ≡ No) × (alarm ≡ alarm_at place answer.0)

-- There is an answer, and its value is not No.
abbrev pub IsNotBroken : Option (ℕ × Verdict) → Type 0
IsNotBroken None = ⊥
IsNotBroken (Some answer) = answer.1 ≢ No

-- The formula is No at a position of these rows, and the last of them decides this.
pub record IsBreach (place : Place) (t : FormulaTree) (rows : Trace) (alarm : Alarm) : Type 0 where
  pub at : ℕ
  pub is : alarm ≡ alarm_at place at
  pub broken : value_in rows t at ≡ No
  pub decided : IsDecidedNow t rows at

-- the same at an earlier position
abbrev pub IsBreachBefore : ℕ → Place → FormulaTree → Trace → Alarm → Type 0
IsBreachBefore from place t rows alarm = (breach : IsBreach place t rows alarm) × (breach.at < from)

-- ---- the rules of a trace

-- One of the first rules is broken so in a trace.
pub record IsBreachBelow (numbers : AuditNumbers) (step rules : ℕ) (known : Known) (alarm : Alarm) : Type 0 where
  pub rule : ℕ
  pub below : rule < rules
  pub breach : IsBreach (record { pair = known.pair; start = known.start; rule = rule; step = step }) (tree_of_rule numbers.rules rule) known.trace alarm

-- any of the rules
abbrev pub IsBreachOf : AuditNumbers → ℕ → Known → Alarm → Type 0
IsBreachOf numbers step known alarm = IsBreachBelow numbers step (length numbers.rules) known alarm
