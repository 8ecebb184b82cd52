-- The rank of a vessel at a time, by her accepted reports and by the ship types that were noted.
use Rattle.std.specs.Prelude.{ℕ, ◌==◌, ◌&&◌, nat_le, List, [], ◌∷◌, filter, Option, Some, None, unwrap_or, if◌then◌else◌}
use Rattle.std.specs.List.{last_or}
use Rattle.std.specs.Map.{lookup}
use Rattle.tracks.specs.declared.accepted.Accepted.{Accepted}
use Rattle.ranks.specs.declared.rank.Rank.{Rank}
use Rattle.ranks.specs.declared.rank.Rank.TheVariants.{Power, Sailing, Fishing, Restricted, NotUnderCommand}

-- the ship type that a line reports for a vessel, and the line's time, in seconds since 1970
pub record Note : Type 0 where
  pub mmsi : ℕ
  pub time : ℕ
  pub kind : ℕ

-- ---- the meaning of a status and of a ship type (ITU-R M.1371-5, annex 8, message 1 and table 53)

abbrev pub ranks_by_status : List (ℕ × Rank)
ranks_by_status = (2, NotUnderCommand) ∷ (3, Restricted) ∷ (7, Fishing) ∷ (8, Sailing) ∷ []

abbrev pub ranks_by_kind : List (ℕ × Rank)
ranks_by_kind = (30, Fishing) ∷ (36, Sailing) ∷ []

-- Every other type is `Power`.
abbrev pub rank_in : List (ℕ × Rank) → ℕ → Rank
rank_in table value = unwrap_or (lookup (λ v. v == value) table) Power

-- Status 15 gives none: it leaves the rank to the ship type.
abbrev pub rank_by_status : ℕ → Option Rank
rank_by_status status = if status == 15 then None else Some (rank_in ranks_by_status status)

-- ---- the data that counts at a time

-- the last note about a vessel, in the order of lines, whose time is at most this
abbrev pub note_at : List Note → ℕ → ℕ → Option Note
note_at noted mmsi time = last_or None (filter (λ note. note.mmsi == mmsi && nat_le note.time time) noted)

abbrev pub rank_by_note : Option Note → Rank
rank_by_note None = Power
rank_by_note (Some note) = rank_in ranks_by_kind note.kind

-- her rank by ship type
unfoldable pub rank_by_type : List Note → ℕ → ℕ → Rank
rank_by_type noted mmsi time = rank_by_note (note_at noted mmsi time)

-- the last of a vessel's accepted reports whose time is at most this
abbrev pub report_at : List Accepted → ℕ → Option Accepted
report_at points time = last_or None (filter (λ point. nat_le point.time time) points)

abbrev pub rank_by_report : Option Accepted → Rank → Rank
rank_by_report None by_type = Power
rank_by_report (Some point) by_type = unwrap_or (rank_by_status point.report.status) by_type

-- her rank
unfoldable pub rank_at : List Note → ℕ → List Accepted → ℕ → Rank
rank_at noted mmsi points time = rank_by_report (report_at points time) (rank_by_type noted mmsi time)
