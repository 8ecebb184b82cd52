-- The static data of vessels in the lines of a log: the vessel, the time, and the type of ship. The messages are 5, 19
-- and 24 of ITU-R M.1371.
use Rattle.std.specs.Prelude.{ℕ, List, Option, None, Result, Ok, Err}
use Rattle.std.specs.List.{filter_map}
use Rattle.std.specs.Option.{option_map}
use Rattle.ais_messages.specs.declared.message.ShipData.{ShipData}
use Rattle.ais_messages.specs.declared.message.StaticReport.{StaticReport}
use Rattle.tracks.specs.VesselsHeld.{Sent, static_in}
use Rattle.log_lines.specs.SentLines.{sent, sent_of}
use Rattle.log_lines.specs.declared.outcome.LineOutcome.{LineOutcome}
use Rattle.log_lines.specs.declared.told_static.ToldStatic.{ToldStatic}
use Rattle.scenario_values.specs.declared.values.Scenario.{Scenario}

-- the type of ship and cargo, if the report has it
abbrev pub type_told : Option ShipData → Option ℕ
type_told ship = option_map (λ told. told.kind) ship

abbrev pub report_told : ℕ → StaticReport → ToldStatic
report_told time report = record { mmsi = report.mmsi; time = time; kind = type_told report.ship }

-- the sender's static data in a message, if it has a static report
abbrev pub static_told : Sent → Option ToldStatic
static_told one = option_map (report_told one.time) (static_in one.message)

abbrev pub told_sent : Result Sent LineOutcome → Option ToldStatic
told_sent (Ok one) = static_told one
told_sent (Err came) = None

-- the static data in a line, after the lines before it
unfoldable pub told_of : Scenario → List (List ℕ) → List ℕ → Option ToldStatic
told_of scenario before line = told_sent (sent_of scenario before line)

-- the static reports of lines, in their order
unfoldable pub static_reports : Scenario → List (List ℕ) → List ToldStatic
static_reports scenario lines = filter_map static_told (sent scenario lines)
