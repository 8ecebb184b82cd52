-- The tests that compute the atoms.
use Rattle.std.specs.Prelude.{ℕ, ◌*◌, Bool, true, false, ◌&&◌, ◌||◌, ◌==◌, not, nat_le, Option, Some, None, is_some, pos, neg_ℤ, ◌*ℤ◌, int_le, int_lt}
use Rattle.fixed_geometry.specs.Bearing.{bearing_of, lies_to_port}
use Rattle.fixed_geometry.specs.Plane.{dot_of, norm2_of, turn_of}
use Rattle.motion.specs.Steps.{RelativeMove}
use Rattle.sectors.specs.declared.class.Class.{Class}
use Rattle.sectors.specs.declared.class.Class.TheVariants as class
use Rattle.mtl_formulas.specs.declared.verdict.Verdict.{Verdict}
use Rattle.mtl_formulas.specs.declared.verdict.Verdict.TheVariants.{No, Open, Yes}
use Rattle.encounters.specs.declared.engagement_state.EngagementState.{EngagementState}
use Rattle.encounters.specs.declared.engagement_state.EngagementState.TheVariants.{Apart, Engaged}
use Rattle.encounters.specs.declared.pair_step.PairStep.{PairStep}
use Rattle.meetings.specs.Ahead.{crosses_ahead, end_point}
use Rattle.meetings.specs.declared.atom_row.Meeting.{Meeting}

abbrev pub told : Bool → Verdict
told true = Yes
told false = No

-- separation by the two ends and one comparison of squares
unfoldable pub is_separated : RelativeMove → ℕ → Bool
is_separated step r = int_le (pos (r * r)) (norm2_of step.p) && (int_le (pos (r * r)) (norm2_of (end_point step))
    && (int_le (pos 0) (dot_of step.p step.w) || (int_le (norm2_of step.w) (neg_ℤ (dot_of step.p step.w))
    || int_le (pos (r * r) *ℤ norm2_of step.w) (turn_of step.p step.w *ℤ turn_of step.p step.w))))

abbrev pub is_opening : RelativeMove → Bool
is_opening step = int_le (pos 0) (dot_of step.p step.w)

abbrev pub is_close : ℕ → RelativeMove → Bool
is_close r step = int_lt (norm2_of step.p) (pos (r * r))

-- Open if the direction or the bearing is absent
abbrev pub on_port_by : Option ℕ → Option ℕ → Verdict
on_port_by None bearing = Open
on_port_by (Some direction) None = Open
on_port_by (Some direction) (Some bearing) = told (lies_to_port direction bearing)

abbrev pub on_port : Option ℕ → RelativeMove → Verdict
on_port direction step = on_port_by direction (bearing_of step.p)

-- Open if the direction is absent
abbrev pub ahead : Option ℕ → RelativeMove → Verdict
ahead None step = Open
ahead (Some direction) step = told (crosses_ahead direction step)

-- Open if the step is not seen
abbrev pub seen_as : (RelativeMove → Verdict) → Option RelativeMove → Verdict
seen_as f None = Open
seen_as f (Some step) = f step

abbrev pub class_index : Class → ℕ
class_index class.Overtaking = 0
class_index class.Overtaken = 1
class_index class.HeadOn = 2
class_index class.CrossingGives = 3
class_index class.CrossingStands = 4
class_index class.Passing = 5
class_index class.Unclassified = 6

abbrev pub is_kind : Class → Option Meeting → Bool
is_kind kind None = false
is_kind kind (Some meeting) = class_index meeting.kind == class_index kind

abbrev pub is_age : ℕ → ℕ → Option Meeting → Bool
is_age tick seconds None = false
is_age tick seconds (Some meeting) = nat_le seconds (meeting.age * tick)

abbrev pub is_first : Option Meeting → Bool
is_first None = false
is_first (Some meeting) = meeting.age == 0

-- engaged, and neither overtakes the other
abbrev pub rank_counts : Option Meeting → Bool
rank_counts meeting = is_some meeting && (not (is_kind class.Overtaking meeting) && not (is_kind class.Overtaken meeting))

-- the state of a row from the engagement's state and the step
abbrev pub meeting_of : EngagementState → Option Meeting
meeting_of Apart = None
meeting_of (Engaged kind age a b) = Some (record { kind = kind; age = age })

abbrev pub step_of : Option PairStep → Option RelativeMove
step_of None = None
step_of (Some pair) = Some pair.step

abbrev pub direction_of : Option PairStep → Option ℕ
direction_of None = None
direction_of (Some pair) = pair.a.direction

abbrev pub other_direction_of : Option PairStep → Option ℕ
other_direction_of None = None
other_direction_of (Some pair) = pair.b.direction
