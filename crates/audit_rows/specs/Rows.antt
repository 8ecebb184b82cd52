-- The rows of tracks: each maximal stretch once and nothing else, in order.
use Rattle.std.specs.Prelude.{ℕ, ◌≡◌, ◌+◌, ◌<◌, ◌⊎◌, ◌↔◌, Bool, true, false, List, [], ◌∷◌}
use Rattle.std.specs.List.{Contains}
use Rattle.audit_rows.specs.declared.mark.Mark.{Mark}
use Rattle.audit_rows.specs.declared.mark.Mark.TheVariants.{Broken, Undecided}
use Rattle.audit_rows.specs.declared.row.Row.{Row}
use Rattle.audit_rows.specs.declared.row.Row.TheVariants.{Meeting, Verdict}
use Rattle.audit_rows.specs.Order.{InOrder, first_step_of, last_step_of, topic_of}
use Rattle.audit_rows.specs.Stretches.{HasKindAndLeast, MarksEngagement, IsStretch}
use Rattle.audit_rows.specs.Tracks.{Track}

abbrev pub verdict_mark : Bool → Mark
verdict_mark true = Undecided
verdict_mark false = Broken

-- A meeting reports engaged positions, a verdict broken ones or undecided ones.
abbrev pub TellsOf : Row → Mark → Type 0
TellsOf (Meeting pair kind first last least) mark = MarksEngagement mark
TellsOf (Verdict pair rule undecided first last) mark = mark ≡ verdict_mark undecided

-- A meeting has the kind of its first position, and the least distance of all.
abbrev pub Measures : Row → List Mark → ℕ → ℕ → Type 0
Measures (Meeting pair kind first last least) marks from to = HasKindAndLeast marks from to kind least
Measures (Verdict pair rule undecided first last) marks from to = Unit {0}

-- The row reports the maximal stretch between two indexes of a track of its topic.
pub record TellsStretch (track : Track) (row : Row) (from to : ℕ) : Type 0 where
  pub topic : topic_of row ≡ track.topic
  pub first : first_step_of row ≡ track.first + from
  pub last : last_step_of row ≡ track.first + to
  pub stretch : IsStretch (TellsOf row) track.marks from to
  pub measures : Measures row track.marks from to

abbrev pub IsRowOf : Track → Row → Type 0
IsRowOf track row = (from : ℕ) × (to : ℕ) × TellsStretch track row from to

-- A row is this of one of the tracks.
abbrev pub IsOfOne : (Track → Row → Type 0) → List Track → Row → Type 0
IsOfOne Is [] row = ⊥
IsOfOne Is (track ∷ tracks) row = Is track row ⊎ IsOfOne Is tracks row

-- The rows hold each that is this of one of the tracks and nothing else, in order, and so each once.
pub record AreAll (Is : Track → Row → Type 0) (tracks : List Track) (rows : List Row) : Type 0 where
  pub each : (row : Row) → Contains rows row ↔ IsOfOne Is tracks row
  pub ordered : InOrder rows

abbrev pub IsRow : List Track → Row → Type 0
IsRow tracks row = IsOfOne IsRowOf tracks row

abbrev pub AreRows : List Track → List Row → Type 0
AreRows tracks rows = AreAll IsRowOf tracks rows

-- the same of the rows that end below a bound
pub record AreRowsBelow (bound : ℕ) (tracks : List Track) (rows : List Row) : Type 0 where
  pub each : (row : Row) → Contains rows row ↔ (IsRow tracks row × (last_step_of row < bound))
  pub ordered : InOrder rows
