use Rattle.std.proofs.Common.{◌≡◌, ◌∙◌, ap, sym, ℕ, List, Some, None}
use Rattle.ranks.specs.Standing.{changes_of, rank_after}
use Rattle.ranks.specs.declared.change.Change.{Change}
use Rattle.ranks.proofs.Noted.{changes_found, found, none_found}
use Rattle.ranks.proofs.ranks.Ranks.by_type.Goals as goal

pub returns-in-None : goal.returns-in-None
returns-in-None c = λ noted stands.
    let unknown : found c.self.inside.vessels.entries c.args.mmsi ≡ None = sym c.in-None.ensures.value in
    sym (ap (λ (changes : List Change). rank_after changes c.args.time) (none_found c.self.inside.vessels.entries c.args.mmsi unknown))
    ∙ ap (λ (vessels : List (ℕ × List Change)). rank_after (changes_of vessels c.args.mmsi) c.args.time) c.self.view_is
    ∙ stands c.args.mmsi c.args.time

pub returns-in-Some : goal.returns-in-Some
returns-in-Some c = λ noted stands.
    let known : found c.self.inside.vessels.entries c.args.mmsi ≡ Some c.in-Some.changes.now = sym c.in-Some.ensures.value in
    c.at.ensures
    ∙ sym (ap (λ (changes : List Change). rank_after changes c.args.time) (changes_found c.self.inside.vessels.entries c.args.mmsi c.in-Some.changes.now known))
    ∙ ap (λ (vessels : List (ℕ × List Change)). rank_after (changes_of vessels c.args.mmsi) c.args.time) c.self.view_is
    ∙ stands c.args.mmsi c.args.time
