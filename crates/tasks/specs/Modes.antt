-- What each mode examines, and in which log: one row per mode. Other definitions about a mode follow from its row.
use Rattle.std.specs.Prelude.{Bool, true, false, if◌then◌else◌}
use Rattle.tasks.specs.declared.mode.Mode.{Mode}
use Rattle.tasks.specs.declared.mode.Mode.TheVariants as mode

-- the findings at the ticks of a window: stretches of steps, or alarms of one step each
pub data Findings : Type 0 where
  stretches : Findings
  alarms : Findings

-- the object of examination: each line of a log separately, the vessels at each tick of the window, own ship at now, or
-- nothing
pub data Focus : Type 0 where
  each_line : Focus
  each_tick : Findings → Focus
  own_ship : Focus
  nothing : Focus

-- the log: the given one, or one that the program makes
pub data LogSource : Type 0 where
  given : LogSource
  made : LogSource

-- whether rows appear before the log's end, and whether the mode checks rows with the reasons why there is no plan
-- instead of searching
pub record Needs : Type 0 where
  pub focus : Focus
  pub log : LogSource
  pub early : Bool
  pub checks : Bool

-- A drill audits the log that it makes, and reports only at its end. A recheck examines the same data as a plan. A
-- watch examines the ticks like an audit.
abbrev pub needs_of : Mode → Needs
needs_of mode.Points = record { focus = each_line; log = given; early = true; checks = false }
needs_of mode.Audit = record { focus = each_tick stretches; log = given; early = true; checks = false }
needs_of mode.Plan = record { focus = own_ship; log = given; early = false; checks = false }
needs_of mode.Drill = record { focus = each_tick stretches; log = made; early = false; checks = false }
needs_of mode.Recheck = record { focus = own_ship; log = given; early = false; checks = true }
needs_of mode.Watch = record { focus = each_tick alarms; log = given; early = true; checks = false }

abbrev pub focus_of : Mode → Focus
focus_of mode = (needs_of mode).focus

-- the object of examination before the log's end: plans for own ship come only at its end
abbrev pub early_by : Focus → Bool → Focus
early_by own_ship early = nothing
early_by focus early = if early then focus else nothing

abbrev pub early_focus : Mode → Focus
early_focus mode = early_by (needs_of mode).focus (needs_of mode).early

abbrev pub is_own : Focus → Bool
is_own own_ship = true
is_own _ = false

abbrev pub is_given : LogSource → Bool
is_given given = true
is_given made = false

-- Own ship is needed if she is examined.
abbrev pub needs_own : Mode → Bool
needs_own mode = is_own (focus_of mode)

-- Rows with the reasons why there is no plan are needed if they are checked.
abbrev pub needs_rows : Mode → Bool
needs_rows mode = (needs_of mode).checks

-- The log is read if it is given.
abbrev pub reads_log : Mode → Bool
reads_log mode = is_given (needs_of mode).log

-- ---- for one focus only, or for one treatment of own ship

abbrev pub OfTicks : Focus → Type 0 → Type 0
OfTicks (each_tick findings) P = P
OfTicks _ P = ⊥

abbrev pub OfOwnShip : Focus → Type 0 → Type 0
OfOwnShip own_ship P = P
OfOwnShip _ P = ⊥

-- the object of a search, and what is checked instead of it

abbrev pub WhereSought : Bool → Type 0 → Type 0
WhereSought true P = ⊥
WhereSought false P = P

abbrev pub WhereChecked : Bool → Type 0 → Type 0
WhereChecked true P = P
WhereChecked false P = ⊥
