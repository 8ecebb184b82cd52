use Rattle.std.proofs.Common.{sym, subst, [], List, ℕ}
use Rattle.ranks.specs.Standing.{StandsFor}
use Rattle.ranks.specs.declared.change.Change.{Change}
use Rattle.ranks.proofs.Noted.{nothing_noted}
use Rattle.ranks.proofs.ranks.Ranks.new.Goals as goal

pub returns : goal.returns
returns c = subst (λ (vessels : List (ℕ × List Change)). StandsFor vessels []) (sym c.new.ensures.empty) nothing_noted
