-- The legs between the accepted reports of a vessel.
use Rattle.std.specs.Prelude.{ℕ, ◌*◌, ◌+◌, nat_le, List, [], ◌∷◌, Option, Some, None, if◌then◌else◌}
use Rattle.std.specs.List.{cons_option}
use Rattle.std.specs.Option.{option_map, option_or}
use Rattle.ais_messages.specs.declared.message.PositionReport.{PositionReport}
use Rattle.motion.specs.declared.leg.Leg.{Leg}
use Rattle.tracks.specs.declared.accepted.Accepted.{Accepted}

-- Her direction is her heading, which reports have in whole degrees, or otherwise her course.
abbrev pub reported_direction : PositionReport → Option ℕ
reported_direction report = option_or (option_map (λ degrees. degrees * 10) report.heading) report.cog

-- the leg from one report to the next
abbrev pub leg_between : Accepted → Accepted → Leg
leg_between from to = record {
  t1 = from.time;
  p1 = from.point;
  t2 = to.time;
  p2 = to.point;
  direction = reported_direction from.report;
  speed = from.report.sog;
}

-- Two consecutive reports are joined if they are at most the gap apart.
abbrev pub joined : ℕ → Accepted → Accepted → Option Leg
joined gap from to = if nat_le to.time (from.time + gap) then Some (leg_between from to) else None

unfoldable pub legs_from : ℕ → Accepted → List Accepted → List Leg
legs_from gap from [] = []
legs_from gap from (to ∷ others) = cons_option (joined gap from to) (legs_from gap to others)

-- the legs between consecutive reports of a list
abbrev pub legs_between : ℕ → List Accepted → List Leg
legs_between gap [] = []
legs_between gap (first ∷ others) = legs_from gap first others
