-- Maximal stretches of marks.
use Rattle.std.specs.Prelude.{ℕ, ◌≡◌, ◌+◌, ◌-◌, ◌<◌, ◌≤◌, List, Option, Some, None, length}
use Rattle.std.specs.List.{slice_index_or}
use Rattle.std.specs.Option.{IfSome}
use Rattle.sectors.specs.declared.class.Class.{Class}
use Rattle.audit_rows.specs.declared.mark.Mark.{Mark}
use Rattle.audit_rows.specs.declared.mark.Mark.TheVariants.{Nothing, Broken, Undecided, Engaged}

abbrev pub mark_at : List Mark → ℕ → Mark
mark_at marks k = slice_index_or marks k Nothing

-- The marks at two indexes and between them have a property, and the neighbours of these, if there are any, do not.
pub record IsStretch (Property : Mark → Type 0) (marks : List Mark) (from to : ℕ) : Type 0 where
  pub ordered : from ≤ to
  pub within : to < length marks
  pub each : (k : ℕ) → from ≤ k → k ≤ to → Property (mark_at marks k)
  pub before : 0 < from → Property (mark_at marks (from - 1)) → ⊥
  pub after : to + 1 < length marks → Property (mark_at marks (to + 1)) → ⊥

-- ---- engaged positions

abbrev pub MarksEngagement : Mark → Type 0
MarksEngagement Nothing = ⊥
MarksEngagement Broken = ⊥
MarksEngagement Undecided = ⊥
MarksEngagement (Engaged kind least) = Unit {0}

abbrev pub marked_kind : Mark → Option Class
marked_kind Nothing = None
marked_kind Broken = None
marked_kind Undecided = None
marked_kind (Engaged kind least) = Some kind

abbrev pub distance_of : Mark → Option ℕ
distance_of Nothing = None
distance_of Broken = None
distance_of Undecided = None
distance_of (Engaged kind least) = Some least

-- Of the marks at two indexes and between them, the first has the kind, and the distance is the least that one of them has.
pub record HasKindAndLeast (marks : List Mark) (from to : ℕ) (kind : Class) (least : ℕ) : Type 0 where
  pub of_first : marked_kind (mark_at marks from) ≡ Some kind
  pub at_least : (k : ℕ) → from ≤ k → k ≤ to → IfSome (distance_of (mark_at marks k)) (λ distance. least ≤ distance)
  pub reached : (k : ℕ) × (from ≤ k) × (k ≤ to) × (distance_of (mark_at marks k) ≡ Some least)
