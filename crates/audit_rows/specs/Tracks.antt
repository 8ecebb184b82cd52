-- Tracks of marks, and how they grow.
use Rattle.std.specs.Prelude.{ℕ, zero, suc, ◌≡◌, ◌+◌, ◌-◌, ◌<◌, ◌≤◌, List, [], ◌∷◌, ◌++◌, length}
use Rattle.std.specs.List.{AllByRecursion, slice_get}
use Rattle.std.specs.Option.{IfSome}
use Rattle.audit_rows.specs.declared.mark.Mark.{Mark}
use Rattle.audit_rows.specs.declared.topic.Topic.{Topic}
use Rattle.audit_rows.specs.Stretches.{MarksEngagement, mark_at}

-- the marks of one topic, one for each step from the first on
pub record Track : Type 0 where
  pub topic : Topic
  pub first : ℕ
  pub marks : List Mark

-- the step that the next mark is for
abbrev pub next_step : Track → ℕ
next_step track = track.first + length track.marks

-- ---- as tracks begin and marks come

-- a track with no marks yet
abbrev pub begun : Topic → ℕ → Track
begun topic first = record { topic = topic; first = first; marks = [] }

-- No track is of the topic.
abbrev pub IsNew : Topic → List Track → Type 0
IsNew topic tracks = AllByRecursion (λ track. track.topic ≡ topic → ⊥) tracks

abbrev pub longer : Track → Mark → Track
longer track mark = record track { marks = track.marks ++ mark ∷ [] }

-- the tracks with one more mark of the track at an index
abbrev pub marked : List Track → ℕ → Mark → List Track
marked [] index mark = []
marked (track ∷ tracks) zero mark = longer track mark ∷ tracks
marked (track ∷ tracks) (suc index) mark = track ∷ marked tracks index mark

-- The mark is that at the end of the track, and marks no engagement.
pub record Repeats (track : Track) (mark : Mark) : Type 0 where
  pub some : 0 < length track.marks
  pub same : mark_at track.marks (length track.marks - 1) ≡ mark
  pub quiet : ¬ MarksEngagement mark

-- The next mark of the track at an index, if there is one, is for the step.
abbrev pub IsNextAt : List Track → ℕ → ℕ → Type 0
IsNextAt tracks index step = IfSome (slice_get tracks index) (λ track. step ≡ next_step track)

-- The next mark of each track would be for this step.
abbrev pub EndAt : ℕ → List Track → Type 0
EndAt end tracks = AllByRecursion (λ track. end ≡ next_step track) tracks

-- ---- what no further mark changes

-- Each track has a mark after each of its steps below the bound, so that a stretch that ends there is known to end.
abbrev pub AreSettled : ℕ → List Track → Type 0
AreSettled bound tracks = AllByRecursion (λ track. bound ≤ track.first + (length track.marks - 1)) tracks

-- The later tracks are the tracks with more marks after theirs, and then new ones that begin at the bound at the earliest.
abbrev pub Continue : ℕ → List Track → List Track → Type 0
Continue bound [] later = AllByRecursion (λ track. bound ≤ track.first) later
Continue bound (track ∷ tracks) [] = ⊥
Continue bound (track ∷ tracks) (now ∷ later) = ((more : List Mark) × (now ≡ record track { marks = track.marks ++ more })) × Continue bound tracks later
