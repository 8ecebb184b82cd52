use Rattle.std.proofs.Common.{sym, subst}
use Rattle.meetings.specs.declared.by_rank.ByRank.{ByRank}
use Rattle.traces.specs.PairRanks.{IsByRank}
use Rattle.traces.proofs.ByRanks.{exactly, only}
use Rattle.traces.proofs.laws.said_by_rule_18.Goals as goal

pub returns : goal.returns
returns c = λ a b by_rank. (only a b by_rank, λ e. subst (λ (r : ByRank). IsByRank a b r) (sym e) (exactly a b))
