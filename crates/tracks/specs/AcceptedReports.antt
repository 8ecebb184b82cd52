-- The accepted position reports of a vessel.
use Rattle.std.specs.Prelude.{ℕ, ◌≡◌, ◌+◌, ◌-◌, ◌*◌, ◌==◌, ◌&&◌, ◌↔◌, Bool, true, false, nat_le, nat_lt, nat_eq, List, [], ◌∷◌, length, take, slice_get, Option, Some, None, Result, Ok, Err, IsOk, ℤ, unsigned_abs}
use Rattle.std.specs.List.{find, last_or}
use Rattle.std.specs.Option.{option_eq}
use Rattle.std.specs.Ordering.{int_eq}
use Rattle.fixed_geometry.specs.Place.{Place}
use Rattle.fixed_geometry.specs.Plane.{norm2_of}
use Rattle.fixed_geometry.specs.Projection.{projection_of}
use Rattle.fixed_geometry.specs.declared.point.Point.{Point}
use Rattle.fixed_geometry.specs.Displacement.{displacement}
use Rattle.ais_messages.specs.declared.message.PositionReport.{PositionReport}
use Rattle.tracks.specs.declared.accepted.Accepted.{Accepted}
use Rattle.tracks.specs.declared.entry.ReportCause.{ReportCause}
use Rattle.tracks.specs.declared.entry.ReportCause.TheVariants.{NoPos, Far, Back, Repeat, Jump}

-- The numbers for judging reports: the place at the plane's origin, the greatest time between two joined reports in
-- seconds, and the greatest speed of a vessel in tenths of a knot.
pub record JudgingNumbers : Type 0 where
  pub reference : Place
  pub gap : ℕ
  pub max_speed : ℕ

-- a position report, and its time in seconds since 1970
pub record Reported : Type 0 where
  pub report : PositionReport
  pub time : ℕ

-- ---- the point of a report

-- a report at its point of the plane; a report without a place, or with a place outside the region, has none
abbrev pub at_point : Reported → Option Point → Result Accepted ReportCause
at_point now None = Err Far
at_point now (Some point) = Ok (record { time = now.time; point = point; report = now.report })

abbrev pub at_place : Place → Reported → Option (ℤ × ℤ) → Result Accepted ReportCause
at_place reference now None = Err NoPos
at_place reference now (Some place) = at_point now (projection_of reference.latitude reference.longitude place.0 place.1)

unfoldable pub placed : Place → Reported → Result Accepted ReportCause
placed reference now = at_place reference now now.report.place

-- ---- the causes that depend on the latest accepted report

-- The time is not after the latest one's.
abbrev pub is_back : Accepted → Accepted → Bool
is_back latest now = nat_le now.time latest.time

-- The reports are equal in every field.
abbrev pub same_report : PositionReport → PositionReport → Bool
same_report a b =
    a.mmsi == b.mmsi && (option_eq (λ p q. int_eq p.0 q.0 && int_eq p.1 q.1) a.place b.place
    && (option_eq nat_eq a.sog b.sog && (option_eq nat_eq a.cog b.cog && (option_eq nat_eq a.heading b.heading
    && (a.kind == b.kind && (a.status == b.status && a.second == b.second))))))

abbrev pub is_repeat : Accepted → Accepted → Bool
is_repeat latest now = nat_le now.time (latest.time + 30) && same_report now.report latest.report

-- the square of the distance
abbrev pub distance2 : Accepted → Accepted → ℕ
distance2 latest now = unsigned_abs (norm2_of (displacement latest.point now.point))

abbrev pub square : ℕ → ℕ
square n = n * n

-- The vessel would have moved faster than the greatest speed: a tenth of a knot is 4630 / 9 tenths of a millimetre per
-- second.
abbrev pub is_jump : JudgingNumbers → Accepted → Accepted → Bool
is_jump numbers latest now =
    nat_le now.time (latest.time + numbers.gap)
    && nat_lt (square (4630 * numbers.max_speed * (now.time - latest.time))) (81 * distance2 latest now)

abbrev pub applies : JudgingNumbers → Accepted → Accepted → ReportCause → Bool
applies numbers latest now NoPos = false
applies numbers latest now Far = false
applies numbers latest now Back = is_back latest now
applies numbers latest now Repeat = is_repeat latest now
applies numbers latest now Jump = is_jump numbers latest now

-- ---- the result of a report

-- It is accepted, or dropped for the first cause that applies.
abbrev pub unless : Accepted → Option ReportCause → Result Accepted ReportCause
unless now None = Ok now
unless now (Some cause) = Err cause

-- A vessel's first report is never back, a repeat or a jump.
abbrev pub judged_after : JudgingNumbers → Option Accepted → Accepted → Result Accepted ReportCause
judged_after numbers None now = Ok now
judged_after numbers (Some latest) now = unless now (find (applies numbers latest now) (Back ∷ Repeat ∷ Jump ∷ []))

abbrev pub judged_at : JudgingNumbers → Option Accepted → Result Accepted ReportCause → Result Accepted ReportCause
judged_at numbers latest (Err cause) = Err cause
judged_at numbers latest (Ok now) = judged_after numbers latest now

-- the result of a report, after the latest accepted one of its vessel
unfoldable pub judged : JudgingNumbers → Option Accepted → Reported → Result Accepted ReportCause
judged numbers latest now = judged_at numbers latest (placed numbers.reference now)

-- No cause applies.
abbrev pub IsFree : JudgingNumbers → Option Accepted → Reported → Type 0
IsFree numbers latest now = IsOk (judged numbers latest now)

-- ---- the accepted list

-- the reports that are accepted_at_marks, at their points
abbrev pub with_placed : Result Accepted ReportCause → List Accepted → List Accepted
with_placed (Ok accepted) others = accepted ∷ others
with_placed (Err _) others = others

abbrev pub accepted_at_marks : Place → List Bool → List Reported → List Accepted
accepted_at_marks reference [] reports = []
accepted_at_marks reference (mark ∷ marks) [] = []
accepted_at_marks reference (true ∷ marks) (now ∷ reports) = with_placed (placed reference now) (accepted_at_marks reference marks reports)
accepted_at_marks reference (false ∷ marks) (now ∷ reports) = accepted_at_marks reference marks reports

-- The accepted list of a vessel's reports: it has a report exactly if no cause applies to it, given the last report
-- before it in the list.
pub record AreAccepted (numbers : JudgingNumbers) (reports : List Reported) (accepted : List Accepted) : Type 0 where
  pub marks : List Bool
  pub one_each : length marks ≡ length reports
  pub stands : (k : ℕ) (now : Reported) → slice_get reports k ≡ Some now
      → (slice_get marks k ≡ Some true)
      ↔ IsFree numbers (last_or None (accepted_at_marks numbers.reference (take k marks) (take k reports))) now
  pub list : accepted ≡ accepted_at_marks numbers.reference marks reports

-- the same list as a function of the reports, after a latest accepted one
abbrev pub accepted_with : (Option Accepted → List Accepted) → Option Accepted → Result Accepted ReportCause → List Accepted
accepted_with others latest (Ok now) = now ∷ others (Some now)
accepted_with others latest (Err _) = others latest

unfoldable pub accepted_after : JudgingNumbers → List Reported → Option Accepted → List Accepted
accepted_after numbers [] latest = []
accepted_after numbers (now ∷ reports) latest = accepted_with (accepted_after numbers reports) latest (judged numbers latest now)

abbrev pub accepted_list : JudgingNumbers → List Reported → List Accepted
accepted_list numbers reports = accepted_after numbers reports None
