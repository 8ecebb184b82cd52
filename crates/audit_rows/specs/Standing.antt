-- What a queue of rows stands for: tracks, a bound, and the rows that it has given.
use Rattle.std.specs.Prelude.{ℕ, ◌≡◌, ◌<◌, ◌≤◌, List, [], ◌∷◌, ◌++◌}
use Rattle.std.specs.List.{AllByRecursion, AllZip, Contains}
use Rattle.std.specs.Map.{values_of}
use Rattle.audit_rows.specs.declared.row.Row.{Row}
use Rattle.audit_rows.specs.declared.row_queue.RowQueue.{RowQueue}
use Rattle.audit_rows.specs.declared.sort_key.SortKey.{SortKey}
use Rattle.audit_rows.specs.Inner.Closed.{AreClosedRows}
use Rattle.audit_rows.specs.Inner.Lanes.{Stands}
use Rattle.audit_rows.specs.Order.{last_step_of, sort_key_of}
use Rattle.audit_rows.specs.Tracks.{Track, AreSettled, IsNew}

-- No two tracks are of one topic.
abbrev pub HaveOwnTopics : List Track → Type 0
HaveOwnTopics [] = Unit {0}
HaveOwnTopics (track ∷ tracks) = IsNew track.topic tracks × HaveOwnTopics tracks

abbrev pub ArePlaced : List (SortKey × Row) → Type 0
ArePlaced entries = AllByRecursion (λ entry. entry.0 ≡ sort_key_of entry.1) entries

-- The pending entries are the closed rows that were not given. Those that were given are the ones that end below the bound.
pub record Holds (entries : List (SortKey × Row)) (tracks : List Track) (bound : ℕ) (given : List Row) : Type 0 where
  pub own_topics : HaveOwnTopics tracks
  pub settled : AreSettled bound tracks
  pub rows : AreClosedRows tracks (given ++ values_of entries)
  pub placed : ArePlaced entries
  pub early : (row : Row) → Contains given row → last_step_of row < bound
  pub late : (row : Row) → Contains (values_of entries) row → bound ≤ last_step_of row

-- The queue stands for the tracks, of whose rows those were given that end below the bound.
pub record QueueStandsFor (queue : RowQueue) (tracks : List Track) (bound : ℕ) (given : List Row) : Type 0 where
  pub lanes : AllZip Stands queue.lanes.items tracks
  pub holds : Holds queue.pending.entries tracks bound given
