-- How many marks of each sort there are, and how many stretches of broken ones.
use Rattle.std.specs.Prelude.{ℕ, ◌≡◌, ◌+◌, ◌&&◌, not, Bool, true, false, List, length, Option, None, IsSomeAnd, MatchOption}
use Rattle.std.specs.List.{filter, range_with_len}
use Rattle.audit_rows.specs.declared.counts.MarkCounts.{MarkCounts}
use Rattle.audit_rows.specs.declared.mark.Mark.{Mark}
use Rattle.audit_rows.specs.declared.mark.Mark.TheVariants.{Nothing, Broken, Undecided, Engaged}
use Rattle.audit_rows.specs.declared.topic.Topic.{Topic}
use Rattle.audit_rows.specs.Stretches.{mark_at}
use Rattle.audit_rows.specs.Tracks.{Track}

abbrev pub is_any : Mark → Bool
is_any mark = true

abbrev pub is_nothing : Mark → Bool
is_nothing Nothing = true
is_nothing Broken = false
is_nothing Undecided = false
is_nothing (Engaged kind least) = false

abbrev pub is_broken : Mark → Bool
is_broken Nothing = false
is_broken Broken = true
is_broken Undecided = false
is_broken (Engaged kind least) = false

abbrev pub is_undecided : Mark → Bool
is_undecided Nothing = false
is_undecided Broken = false
is_undecided Undecided = true
is_undecided (Engaged kind least) = false

-- how many marks pass a test
abbrev pub passing : (Mark → Bool) → List Mark → ℕ
passing test marks = length (filter test marks)

-- The mark at an index is broken, and the next one, if there is one, is not.
abbrev pub ends_broken : List Mark → ℕ → Bool
ends_broken marks k = is_broken (mark_at marks k) && not (is_broken (mark_at marks (k + 1)))

-- how many maximal stretches of broken marks there are, by their ends
abbrev pub broken_stretches : List Mark → ℕ
broken_stretches marks = length (filter (ends_broken marks) (range_with_len 0 (length marks)))

pub record AreCounts (counts : MarkCounts) (marks : List Mark) : Type 0 where
  pub all : counts.all ≡ passing is_any marks
  pub nothing : counts.nothing ≡ passing is_nothing marks
  pub broken : counts.broken ≡ passing is_broken marks
  pub undecided : counts.undecided ≡ passing is_undecided marks
  pub runs : counts.runs ≡ broken_stretches marks

-- The topic and the counts of a track, if there is one.
abbrev pub IsCountOf : Option (Topic × MarkCounts) → Option Track → Type 0
IsCountOf counted track = MatchOption track (counted ≡ None) (λ track.
    IsSomeAnd counted (λ counted. (counted.0 ≡ track.topic) × AreCounts counted.1 track.marks))
