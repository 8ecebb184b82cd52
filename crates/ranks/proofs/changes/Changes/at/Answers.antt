use Rattle.std.proofs.Common.{◌∙◌, ap}
use Rattle.std.specs.Prelude.{List}
use Rattle.ranks.specs.Standing.{rank_after}
use Rattle.ranks.specs.declared.change.Change.{Change}
use Rattle.ranks.proofs.KeptChanges.{rank_by_front}
use Rattle.ranks.proofs.changes.Changes.at.Goals as goal

pub returns : goal.returns
returns c =
    let parts = rw c.deref.ensures.value at c.changes_by-come.ensures.parts in
    let bound = rw c.deref.ensures.value at c.changes_by-come.ensures.bound in
    let last = rw c.deref-2.ensures.value at c.last_rank.ensures in
    last ∙ rank_by_front c.self.inside.changes.items c.args.time c.changes_by-come.result parts bound
    ∙ ap (λ (changes : List Change). rank_after changes c.args.time) c.self.view_is
