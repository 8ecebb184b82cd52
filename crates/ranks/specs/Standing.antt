-- The model of the stored changes of ranks.
use Rattle.std.specs.Prelude.{ℕ, ◌≡◌, ◌≢◌, ◌+◌, ◌==◌, nat_le, nat_lt, List, [], Contains, filter, Option, Some, None, unwrap_or}
use Rattle.std.specs.List.{last_or}
use Rattle.std.specs.Map.{lookup}
use Rattle.ranks.specs.VesselRanks.{Note, rank_by_type}
use Rattle.ranks.specs.declared.change.Change.{Change}
use Rattle.ranks.specs.declared.rank.Rank.{Rank}
use Rattle.ranks.specs.declared.rank.Rank.TheVariants.{Power}

-- A vessel without a known change is `Power`.
abbrev pub rank_since : Option Change → Rank
rank_since None = Power
rank_since (Some change) = change.rank

-- the rank after the last change whose time is at most this
abbrev pub rank_after : List Change → ℕ → Rank
rank_after changes time = rank_since (last_or None (filter (λ change. nat_le change.time time) changes))

-- the rank before a time, after the last change that is earlier
abbrev pub rank_until : List Change → ℕ → Rank
rank_until changes time = rank_since (last_or None (filter (λ change. nat_lt change.time time) changes))

-- the stored changes of a vessel among vessels by MMSI; none if she is not among them
abbrev pub changes_of : List (ℕ × List Change) → ℕ → List Change
changes_of vessels mmsi = unwrap_or (lookup (λ held. held == mmsi) vessels) []

-- The vessels' changes match everything noted: they give each vessel's rank by ship type at each time.
abbrev pub StandsFor : List (ℕ × List Change) → List Note → Type 0
StandsFor vessels noted = (mmsi time : ℕ) → rank_after (changes_of vessels mmsi) time ≡ rank_by_type noted mmsi time

-- Each of these changes a rank that is a function of time: at its time the rank is its own, and a second earlier it was
-- another one.
abbrev pub AreChangesOf : (ℕ → Rank) → List Change → Type 0
AreChangesOf rank changes = (change : Change) → Contains changes change
    → (rank change.time ≡ change.rank) × ((before : ℕ) → before + 1 ≡ change.time → rank before ≢ change.rank)
