use Rattle.std.proofs.Common.{◌∙◌, ap}
use Rattle.std.specs.Prelude.{Option}
use Rattle.tracks.proofs.Lasts.{slice_get-last}
use Rattle.ranks.specs.Standing.{rank_since}
use Rattle.ranks.specs.declared.change.Change.{Change}
use Rattle.ranks.proofs.changes.last_rank.Goals as goal

pub returns-in-Some : goal.returns-in-Some
returns-in-Some c = ap (λ (o : Option Change). rank_since o) (c.in-Some.ensures.value ∙ slice_get-last c.args.changes.now)
