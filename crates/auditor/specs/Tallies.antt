-- The tracks of traces, and the totals of a rule's tracks. Totals saturate at the maximum of their type.
use Rattle.std.specs.Prelude.{ℕ, zero, suc, ◌≡◌, ◌+◌, ◌<◌, ◌==◌, Bool, false, if◌then◌else◌, List, [], ◌∷◌, length, slice_get, IsSomeAnd}
use Rattle.std.specs.List.{AllByRecursion, sum_by}
use Rattle.meetings.specs.declared.pair.Pair.{Pair}
use Rattle.audit_rows.specs.MarkCounts.{broken_stretches, is_any, is_broken, is_nothing, is_undecided, passing}
use Rattle.audit_rows.specs.Tracks.{Track, begun}
use Rattle.audit_rows.specs.declared.mark.Mark.{Mark}
use Rattle.audit_rows.specs.declared.topic.Topic.{Topic}
use Rattle.audit_rows.specs.declared.topic.Topic.TheVariants.{Meeting, Verdict}
use Rattle.auditor.specs.RuleCounts.{told}
use Rattle.auditor.specs.declared.total.Total.{Total}

abbrev pub is_of_rule : ℕ → Topic → Bool
is_of_rule rule (Meeting pair) = false
is_of_rule rule (Verdict pair other) = other == rule

-- a measure of the track's marks, if the track belongs to the rule
abbrev pub of_rule : ℕ → (List Mark → ℕ) → Track → ℕ
of_rule rule measure track = if is_of_rule rule track.topic then measure track.marks else 0

abbrev pub counted : ℕ → (List Mark → ℕ) → List Track → ℕ
counted rule measure tracks = sum_by (of_rule rule measure) tracks

pub record Tallies (rule : ℕ) (tracks : List Track) (total : Total) : Type 0 where
  pub positions : total.positions ≡ told (counted rule (passing is_any) tracks)
  pub yes : total.yes ≡ told (counted rule (passing is_nothing) tracks)
  pub no : total.no ≡ told (counted rule (passing is_broken) tracks)
  pub undecided : total.undecided ≡ told (counted rule (passing is_undecided) tracks)
  pub runs : total.runs ≡ told (counted rule broken_stretches tracks)

-- one total for each rule
abbrev pub AreTallies : List Total → ℕ → List Track → Type 0
AreTallies totals rules tracks =
    (length totals ≡ rules) × ((rule : ℕ) → rule < rules → IsSomeAnd (slice_get totals rule) (Tallies rule tracks))

-- ---- when traces begin and marks are added

abbrev pub pair_of : Topic → Pair
pair_of (Meeting pair) = pair
pair_of (Verdict pair rule) = pair

-- No track belongs to the pair.
abbrev pub IsUnknown : Pair → List Track → Type 0
IsUnknown pair tracks = AllByRecursion (λ track. pair_of track.topic ≡ pair → ⊥) tracks

-- the tracks of this many rules, from the rule at this index, without marks
abbrev pub begun_rules : Pair → ℕ → ℕ → ℕ → List Track
begun_rules pair start rule zero = []
begun_rules pair start rule (suc count) = begun (Verdict pair rule) start ∷ begun_rules pair start (rule + 1) count

abbrev pub begun_tracks : Pair → ℕ → ℕ → List Track
begun_tracks pair start rules = begun (Meeting pair) start ∷ begun_rules pair start 0 rules
