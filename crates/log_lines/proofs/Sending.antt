-- How many messages lines send.
use Rattle.std.proofs.Common.{◌≤◌, ℕ, List, [], length, arith}
use Rattle.scenario_values.specs.declared.values.Scenario.{Scenario}
use Rattle.tracks.proofs.ForCallers.{filter_map_fewer}
use Rattle.log_lines.specs.EachLine.{each_line, ok_value}
use Rattle.log_lines.specs.SentLines.{sent, sent_of}
use Rattle.log_lines.proofs.OneOutcome.{each_after-length}

-- At most one message a line.
pub few_sent : (scenario : Scenario) (lines : List (List ℕ)) → length (sent scenario lines) ≤ length lines
unfolding sent
few_sent scenario lines =
    omega (arith, filter_map_fewer ok_value (each_line (sent_of scenario) lines), each_after-length (sent_of scenario) [] lines)
