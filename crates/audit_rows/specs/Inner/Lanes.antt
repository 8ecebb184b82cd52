-- What a lane keeps of a track: the stretch that its marks end in, and the counts of those before it.
use Rattle.std.specs.Prelude.{ℕ, ◌≡◌, ◌+◌, ◌-◌, ◌<◌, ◌≤◌, ◌^◌, min, if◌then◌else◌, Bool, true, false, List, [], length, Option, Some, None, MatchOption}
use Rattle.audit_rows.specs.declared.counts.MarkCounts.{MarkCounts}
use Rattle.audit_rows.specs.declared.lane.Lane.{Lane}
use Rattle.audit_rows.specs.declared.mark.Mark.{Mark}
use Rattle.audit_rows.specs.declared.mark.Mark.TheVariants.{Nothing, Broken, Undecided, Engaged}
use Rattle.audit_rows.specs.declared.row.Row.{Row}
use Rattle.audit_rows.specs.declared.row.Row.TheVariants as row
use Rattle.audit_rows.specs.declared.stretch.Opened.{Opened}
use Rattle.audit_rows.specs.declared.stretch.Stretch.{Stretch}
use Rattle.audit_rows.specs.declared.topic.Topic.{Topic}
use Rattle.audit_rows.specs.declared.topic.Topic.TheVariants as topic
use Rattle.audit_rows.specs.Inner.Sorts.{sort_of}
use Rattle.audit_rows.specs.MarkCounts.{is_any, is_broken, is_nothing, is_undecided, broken_stretches, passing}
use Rattle.audit_rows.specs.Stretches.{HasKindAndLeast, mark_at}
use Rattle.audit_rows.specs.Tracks.{Track, next_step}

-- the marks from an index to the end as one mark
abbrev pub IsWhole : List Mark → ℕ → Mark → Type 0
IsWhole marks from Nothing = Unit {0}
IsWhole marks from Broken = Unit {0}
IsWhole marks from Undecided = Unit {0}
IsWhole marks from (Engaged kind least) = HasKindAndLeast marks from (length marks - 1) kind least

-- The marks end in a stretch of one sort, whichever it is.
pub record EndsIn (marks : List Mark) (from : ℕ) (whole : Mark) : Type 0 where
  pub within : from < length marks
  pub each : (k : ℕ) → from ≤ k → k < length marks → sort_of (mark_at marks k) ≡ sort_of whole
  pub before : 0 < from → sort_of (mark_at marks (from - 1)) ≡ sort_of whole → ⊥
  pub is_whole : IsWhole marks from whole

pub record IsLatest (track : Track) (stretch : Stretch) : Type 0 where
  pub from : ℕ
  pub first : stretch.first ≡ track.first + from
  pub last : stretch.last + 1 ≡ next_step track
  pub ends : EndsIn track.marks from stretch.mark

-- the open stretch, as it is if the next mark, for this step, ends it
abbrev pub ended : Opened → ℕ → Stretch
ended opened step = record { first = opened.first; last = step - 1; mark = opened.mark }

-- how many marks of the stretch pass a test, if the next mark is for this step
abbrev pub open_passing : (Mark → Bool) → Option Opened → ℕ → ℕ
open_passing test None step = 0
open_passing test (Some opened) step = if test opened.mark then step - opened.first else 0

-- whether the stretch is a broken one, as a number
abbrev pub open_run : Option Opened → ℕ
open_run None = 0
open_run (Some opened) = if is_broken opened.mark then 1 else 0

-- The counts of the marks before the latest stretch, with those of that stretch, are those of all marks.
pub record AreCountsBefore (counts : MarkCounts) (latest : Option Opened) (step : ℕ) (marks : List Mark) : Type 0 where
  pub all : counts.all + open_passing is_any latest step ≡ passing is_any marks
  pub nothing : counts.nothing + open_passing is_nothing latest step ≡ passing is_nothing marks
  pub broken : counts.broken + open_passing is_broken latest step ≡ passing is_broken marks
  pub undecided : counts.undecided + open_passing is_undecided latest step ≡ passing is_undecided marks
  pub runs : counts.runs + open_run latest ≡ broken_stretches marks

pub record Stands (lane : Lane) (track : Track) : Type 0 where
  pub topic : lane.topic ≡ track.topic
  pub latest : MatchOption lane.latest (track.marks ≡ []) (λ opened. IsLatest track (ended opened (next_step track)))
  pub counts : AreCountsBefore lane.counts lane.latest (next_step track) track.marks

-- ---- how counts grow

abbrev pub no_counts : MarkCounts
no_counts = record { all = 0; nothing = 0; broken = 0; undecided = 0; runs = 0 }

-- a number as a count holds it: it saturates at its type's end
abbrev pub told : ℕ → ℕ
told n = min n (2 ^ 32 - 1)

-- with a stretch of this many marks more, all of this mark's sort
abbrev pub with_more : MarkCounts → Mark → ℕ → MarkCounts
with_more counts Nothing many = record counts { all = told (counts.all + many); nothing = told (counts.nothing + many) }
with_more counts Broken many = record counts { all = told (counts.all + many); broken = told (counts.broken + many); runs = told (counts.runs + 1) }
with_more counts Undecided many = record counts { all = told (counts.all + many); undecided = told (counts.undecided + many) }
with_more counts (Engaged kind least) many = record counts { all = told (counts.all + many) }

-- with those of a stretch that the next mark, for this step, ends
abbrev pub with_stretch : MarkCounts → Opened → ℕ → MarkCounts
with_stretch counts opened step = with_more counts opened.mark (step - opened.first)

-- ---- rows

abbrev pub row_of_mark : Topic → Mark → ℕ → ℕ → Option Row
row_of_mark (topic.Meeting pair) Nothing first last = None
row_of_mark (topic.Meeting pair) Broken first last = None
row_of_mark (topic.Meeting pair) Undecided first last = None
row_of_mark (topic.Meeting pair) (Engaged kind least) first last = Some (row.Meeting pair kind first last least)
row_of_mark (topic.Verdict pair rule) Nothing first last = None
row_of_mark (topic.Verdict pair rule) Broken first last = Some (row.Verdict pair rule false first last)
row_of_mark (topic.Verdict pair rule) Undecided first last = Some (row.Verdict pair rule true first last)
row_of_mark (topic.Verdict pair rule) (Engaged kind least) first last = None

-- the row of a stretch of a topic, if rows report it
abbrev pub row_of : Topic → Stretch → Option Row
row_of about stretch = row_of_mark about stretch.mark stretch.first stretch.last
