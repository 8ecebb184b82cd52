-- The alterations of a vessel since an engagement began (Rules 8 (b), 16 and 17 of the COLREGs 1972).
use Rattle.std.specs.Prelude.{ℕ, Bool, true, false, Option, Some, None, ℤ, pos, neg_ℤ, ◌-ℤ◌, int_le, int_lt, nat_le, nat_lt, unsigned_abs}
use Rattle.std.specs.Option.{option_map}
use Rattle.fixed_geometry.specs.Bearing.{swing_of}
use Rattle.motion.specs.declared.leg.TickState.{TickState}
use Rattle.mtl_formulas.specs.VerdictOrder.{greatest}
use Rattle.mtl_formulas.specs.declared.verdict.Verdict.{Verdict}
use Rattle.mtl_formulas.specs.declared.verdict.Verdict.TheVariants.{No, Open, Yes}
use Rattle.encounters.specs.declared.act.Act.{Act}
use Rattle.encounters.specs.declared.changes.Changes.{Changes}
use Rattle.encounters.specs.declared.engagement_state.EngagementState.{EngagementState}
use Rattle.encounters.specs.declared.engagement_state.EngagementState.TheVariants.{Apart, Engaged}

-- the turn between two directions, positive to starboard, if both are known
abbrev pub turn_between : Option ℕ → Option ℕ → Option ℤ
turn_between (Some d) (Some e) = Some (swing_of d e)
turn_between _ _ = None

-- the size of the change between two speeds, if both are known
abbrev pub change_between : Option ℕ → Option ℕ → Option ℕ
change_between (Some v) (Some u) = Some (unsigned_abs (pos u -ℤ pos v))
change_between _ _ = None

-- A test is Open if what it needs is absent.
abbrev pub verdict_of : Option Bool → Verdict
verdict_of None = Open
verdict_of (Some true) = Yes
verdict_of (Some false) = No

-- the turn is more, or the speed has changed by more, than that of a vessel that keeps course and speed
abbrev pub alters : Act → TickState → TickState → Verdict
alters act was now = greatest
    (verdict_of (option_map (λ d. nat_lt act.steady_turn (unsigned_abs d)) (turn_between was.direction now.direction)))
    (verdict_of (option_map (λ v. nat_lt act.steady_speed v) (change_between was.speed now.speed)))

-- the turn, or the change of speed, is at least what is readily apparent
abbrev pub apparent : Act → TickState → TickState → Verdict
apparent act was now = greatest
    (verdict_of (option_map (λ d. nat_le act.apparent_turn (unsigned_abs d)) (turn_between was.direction now.direction)))
    (verdict_of (option_map (λ v. nat_le act.apparent_speed v) (change_between was.speed now.speed)))

-- a readily apparent turn to starboard
abbrev pub to_starboard : Act → TickState → TickState → Verdict
to_starboard act was now = verdict_of (option_map (λ d. int_le (pos act.apparent_turn) d) (turn_between was.direction now.direction))

-- a turn to port of more than that of a vessel that keeps her course
abbrev pub to_port : Act → TickState → TickState → Verdict
to_port act was now = verdict_of (option_map (λ d. int_lt (pos act.steady_turn) (neg_ℤ d)) (turn_between was.direction now.direction))

-- The alterations of A since the engagement began, and whether B's is readily apparent; none if they are not engaged.
abbrev pub changes_of : Act → EngagementState → TickState → TickState → Changes
changes_of act Apart now_a now_b = record { alters = No; apparent = No; to_starboard = No; to_port = No; other_apparent = No }
changes_of act (Engaged kind age a b) now_a now_b = record {
  alters = alters act a now_a;
  apparent = apparent act a now_a;
  to_starboard = to_starboard act a now_a;
  to_port = to_port act a now_a;
  other_apparent = apparent act b now_b;
}
