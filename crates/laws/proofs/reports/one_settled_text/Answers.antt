use Rattle.log_lines.specs.GrowingLog.{ended_lines}
use Rattle.laws.proofs.SettledTexts.{one_decided}
use Rattle.laws.proofs.reports.one_settled_text.Goals as goal

pub returns : goal.returns
returns c = λ m scenario front. one_decided c.one_list_of_decided_rows.ensures c.one_list_of_decided_alarms.ensures m scenario (ended_lines front)
