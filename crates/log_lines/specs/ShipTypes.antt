-- The ship types that messages report, as noted for ranks (COLREGs 1972, Rule 18).
use Rattle.std.specs.Prelude.{ℕ, ◌≡◌, Bool, true, false, List, Option, Some, None, option_and_then}
use Rattle.std.specs.List.{filter_map}
use Rattle.std.specs.Option.{option_map}
use Rattle.ranks.specs.Standing.{StandsFor as RanksStandFor}
use Rattle.ranks.specs.VesselRanks.{Note}
use Rattle.ranks.specs.declared.change.Change.{Change}
use Rattle.tracks.specs.VesselsHeld.{Sent}
use Rattle.tracks.specs.declared.keeping.Keeping.{Keeping}
use Rattle.tracks.specs.declared.keeping.Keeping.TheVariants.{Latest}
use Rattle.log_lines.specs.StaticReports.{static_told}
use Rattle.log_lines.specs.declared.told_static.ToldStatic.{ToldStatic}
use Rattle.scenario_values.specs.declared.values.Scenario.{Scenario}

-- the ship type in a static report, if it has ship data
abbrev pub note_told : ToldStatic → Option Note
note_told told = option_map (λ kind. record { mmsi = told.mmsi; time = told.time; kind = kind }) told.kind

-- the same for a message, if it has a static report
abbrev pub note_in : Sent → Option Note
note_in one = option_and_then note_told (static_told one)

-- the ship types that messages report, in the order of the lines that complete them
unfoldable pub noted : List Sent → List Note
noted messages = filter_map note_in messages

-- Ranks count if the scenario says so and the book keeps tracks.
abbrev pub counts_ranks : Keeping → Scenario → Bool
counts_ranks Latest scenario = false
counts_ranks _ scenario = scenario.ranks

-- If ranks count, the stored state matches the ship types that these messages report. Otherwise nothing is stored.
abbrev pub AreNoted : Bool → Option (List (ℕ × List Change)) → List Sent → Type 0
AreNoted ranked None messages = ranked ≡ false
AreNoted ranked (Some kept) messages = (ranked ≡ true) × RanksStandFor kept (noted messages)
