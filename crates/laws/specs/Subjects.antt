-- Shares by subjects: one log, audited once for each of some groups of vessels.
use Rattle.std.specs.Prelude.{ℕ, ◌↔◌, List, [], IsSome}
use Rattle.std.specs.List.{Contains}
use Rattle.audit_rows.specs.Order.{InOrder}
use Rattle.audit_rows.specs.declared.row.Row.{Row}
use Rattle.traces.specs.Audited.{AuditNumbers, seen_state_at}
use Rattle.scenario_values.specs.declared.values.Scenario.{Scenario}
use Rattle.sessions.specs.AuditReport.{sightings_of}
use Rattle.laws.specs.Reported.{AreReported, pair_of}

-- ---- a share

-- the same numbers with these subjects; with none all pairs are audited
abbrev pub for_subjects : List ℕ → AuditNumbers → AuditNumbers
for_subjects subjects numbers = record numbers { subjects = subjects }

-- the same scenario with these subjects
abbrev pub with_subjects : List ℕ → Scenario → Scenario
with_subjects subjects scenario = record scenario { subjects = subjects }

-- the same scenario with no subjects
abbrev pub of_all : Scenario → Scenario
of_all scenario = with_subjects [] scenario

-- a group of vessels, and the rows that are reported with the group as subjects
pub record Share : Type 0 where
  pub group : List ℕ
  pub rows : List Row

-- Each is a share of the scenario's audit of the log.
abbrev pub AreShares : Scenario → List ℕ → List Share → Type 0
AreShares scenario log shares = (share : Share) → Contains shares share → AreReported (with_subjects share.group scenario) log share.rows

-- Each vessel that is seen at some tick is in the group of some share.
abbrev pub CoverAllSeen : Scenario → List ℕ → List Share → Type 0
CoverAllSeen scenario log shares = (mmsi k : ℕ) → IsSome (seen_state_at (sightings_of scenario log) mmsi k)
    → (share : Share) × (Contains shares share × Contains share.group mmsi)

-- ---- what the join keeps

-- The row is one of the share's, and its subject, the first vessel of the pair, is in the group.
pub record IsKept (row : Row) (share : Share) : Type 0 where
  pub told : Contains share.rows row
  pub subject : Contains share.group (pair_of row).subject

-- The rows are those that are kept of some share, in the one order of rows, and so each once.
pub record AreJoined (shares : List Share) (rows : List Row) : Type 0 where
  pub each : (row : Row) → Contains rows row ↔ ((share : Share) × (Contains shares share × IsKept row share))
  pub ordered : InOrder rows
