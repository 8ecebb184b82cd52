use Rattle.laws.proofs.OneList.{one_list}
use Rattle.laws.proofs.reports.one_canonical_list.Goals as goal

pub returns : goal.returns
returns c = one_list c.args.situation.now c.requires.ascending
