use Rattle.std.proofs.Common.{◌∙◌, ◌≡◌, ℕ, List, false, ap, subst}
use Rattle.std.specs.List.{Contains}
use Rattle.tracks.specs.Standing.{BookValue}
use Rattle.tracks.specs.VesselsHeld.{is_held}
use Rattle.tracks.proofs.Stands.{is_unheld}
use Rattle.tracks.proofs.book.Book.find.Goals as goal

pub returns-in-Err-clause-held : goal.returns-in-Err-clause-held
returns-in-Err-clause-held c = λ numbers sent stands.
    let unheld : is_held numbers sent c.args.mmsi ≡ false =
    is_unheld c.args.self.now numbers sent c.args.mmsi stands
    (subst (λ (ms : List ℕ). ¬ Contains ms c.args.mmsi) (c.deref.ensures.value ∙ ap (λ (b : BookValue). b.held) c.self.view_is) c.in-Err.ensures.absent) in
    (λ held. cc, λ no. cc)
