-- The values of the atoms by the state of a row.
use Rattle.std.specs.Prelude.{ℕ, ◌≡◌, ⊤, Bool, ◌&&◌, Option, Some, None, is_some}
use Rattle.motion.specs.Steps.{RelativeMove}
use Rattle.sectors.specs.declared.class.Class.TheVariants as class
use Rattle.mtl_formulas.specs.declared.atom.Atom.{Atom}
use Rattle.mtl_formulas.specs.declared.atom.Atom.TheVariants.{Always, Never, Seen, Risk, Engaged, Begin, Overtaking, Overtaken, HeadOn, CrossingGives, CrossingStands, Passing, Unclassified, Age, Opening, Clear, Close, OtherOnPort, Ahead, Alters, Apparent, ToStarboard, ToPort, OtherApparent, RankGives, RankStands, BothPower}
use Rattle.mtl_formulas.specs.declared.verdict.Verdict.{Verdict}
use Rattle.mtl_formulas.specs.declared.verdict.Verdict.TheVariants.{No, Yes}
use Rattle.meetings.specs.Atoms.{metres_in_tenths}
use Rattle.meetings.specs.Inner.Tests.{ahead, is_age, is_close, is_first, is_kind, is_opening, is_separated, on_port, rank_counts, seen_as, told}
use Rattle.encounters.specs.declared.changes.Changes.{Changes}
use Rattle.meetings.specs.declared.atom_row.Meeting.{Meeting}
use Rattle.meetings.specs.declared.by_rank.ByRank.{ByRank}

-- the state of a row: the step, if it is seen, the vessels' directions there, and the state of the engagement
pub record Kept : Type 0 where
  pub step : Option RelativeMove
  pub direction : Option ℕ
  pub other_direction : Option ℕ
  pub risk : Bool
  pub meeting : Option Meeting
  pub tick : ℕ
  pub changes : Changes
  pub by_rank : ByRank

-- Nothing has altered if the vessels are not engaged.
abbrev pub HaveNotAltered : Option Meeting → Changes → Type 0
HaveNotAltered None changes = changes ≡ (record { alters = No; apparent = No; to_starboard = No; to_port = No; other_apparent = No })
HaveNotAltered (Some meeting) changes = ⊤

abbrev pub answer_of : Kept → Atom → Verdict
answer_of row Always = Yes
answer_of row Never = No
answer_of row Seen = told (is_some row.step)
answer_of row Risk = told row.risk
answer_of row Engaged = told (is_some row.meeting)
answer_of row Begin = told (is_first row.meeting)
answer_of row Overtaking = told (is_kind class.Overtaking row.meeting)
answer_of row Overtaken = told (is_kind class.Overtaken row.meeting)
answer_of row HeadOn = told (is_kind class.HeadOn row.meeting)
answer_of row CrossingGives = told (is_kind class.CrossingGives row.meeting)
answer_of row CrossingStands = told (is_kind class.CrossingStands row.meeting)
answer_of row Passing = told (is_kind class.Passing row.meeting)
answer_of row Unclassified = told (is_kind class.Unclassified row.meeting)
answer_of row (Age seconds) = told (is_age row.tick seconds row.meeting)
answer_of row Opening = seen_as (λ step. told (is_opening step)) row.step
answer_of row (Clear m) = seen_as (λ step. told (is_separated step (metres_in_tenths m))) row.step
answer_of row (Close m) = seen_as (λ step. told (is_close (metres_in_tenths m) step)) row.step
answer_of row OtherOnPort = seen_as (on_port row.direction) row.step
answer_of row Ahead = seen_as (ahead row.other_direction) row.step
answer_of row Alters = row.changes.alters
answer_of row Apparent = row.changes.apparent
answer_of row ToStarboard = row.changes.to_starboard
answer_of row ToPort = row.changes.to_port
answer_of row OtherApparent = row.changes.other_apparent
answer_of row RankGives = told (rank_counts row.meeting && row.by_rank.gives)
answer_of row RankStands = told (rank_counts row.meeting && row.by_rank.stands)
answer_of row BothPower = told (is_some row.meeting && row.by_rank.both_power)
