use Rattle.std.proofs.Common.{◌∙◌, subst, sym}
use Rattle.ranks.specs.Standing.{StandsFor as RanksStandFor}
use Rattle.log_lines.proofs.Noting.{none_noted}
use Rattle.log_lines.proofs.ship_types.no_ship_types.Goals as goal

pub returns-then-counts_ranks : goal.returns-then-counts_ranks
returns-then-counts_ranks c = (sym c.counts_ranks.ensures ∙ c.if-counts_ranks.true, subst (RanksStandFor c.new.result) (sym none_noted) c.new.ensures)
