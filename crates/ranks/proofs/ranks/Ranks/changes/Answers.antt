use Rattle.std.proofs.Common.{◌≡◌, ◌∙◌, ap, sym, ℕ, List, Some, None}
use Rattle.ranks.specs.Standing.{StandsFor, changes_of, rank_after}
use Rattle.ranks.specs.VesselRanks.{Note, rank_by_type}
use Rattle.ranks.specs.declared.change.Change.{Change}
use Rattle.ranks.proofs.Noted.{changes_found, found}
use Rattle.ranks.proofs.KeptChanges.{each_changes}
use Rattle.ranks.proofs.ranks.Ranks.changes.Goals as goal

-- They give her rank by ship type.
tell : (c : goal.After-all) (noted : List Note) → StandsFor c.args.self.now noted → (t : ℕ) → rank_after c.all.result.now t ≡ rank_by_type noted c.args.mmsi t
tell c noted stands t =
    let known : found c.self.inside.vessels.entries c.args.mmsi ≡ Some c.in-Some.changes.now = sym c.in-Some.ensures.value in
    ap (λ (changes : List Change). rank_after changes t) (c.all.ensures.all ∙ sym (changes_found c.self.inside.vessels.entries c.args.mmsi c.in-Some.changes.now known))
    ∙ ap (λ (vessels : List (ℕ × List Change)). rank_after (changes_of vessels c.args.mmsi) t) c.self.view_is
    ∙ stands c.args.mmsi t

pub returns-in-Some-clause-alone : goal.returns-in-Some-clause-alone
returns-in-Some-clause-alone c = λ noted stands change among.
    let each = each_changes None c.all.result.now c.all.ensures.are.order c.all.ensures.are.differ change among in
    (sym (tell c noted stands change.time) ∙ each.0, λ before e same. each.1 before e (tell c noted stands before ∙ same))
