use Rattle.early_monitor.proofs.OneList.{one_list_of_alarms}
use Rattle.early_monitor.proofs.laws.one_list_of_alarms.Goals as goal

pub returns : goal.returns
returns c = one_list_of_alarms
