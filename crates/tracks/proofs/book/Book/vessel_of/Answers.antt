use Rattle.std.proofs.Common.{◌≡◌, ◌∙◌, ◌<◌, ℕ, List, length, get_or, Some, ap, sym, subst, arith}
use Rattle.std.specs.Prelude.{slice_get}
use Rattle.std.specs.List.{Contains}
use Rattle.std.proofs.lemmas.Option.{slice_get_within}
use Rattle.std.proofs.lemmas.List.Elements.{All-get_or}
use Rattle.tracks.specs.Inner.Keeping.{IsBook, IsKept}
use Rattle.tracks.specs.Standing.{BookValue}
use Rattle.tracks.proofs.Stands.{found_vessel, no_vessel}
use Rattle.tracks.proofs.book.Book.vessel_of.Goals as goal

-- the identity stands at the index in the book
here : (c : goal.After-index) → slice_get c.args.self.now.held c.in-Ok.at ≡ Some c.args.mmsi
here c = ap (λ (ms : List ℕ). slice_get ms c.in-Ok.at) (sym (c.deref.ensures.value ∙ ap (λ (b : BookValue). b.held) c.self.view_is)) ∙ c.in-Ok.ensures.found

pub returns-in-Ok-clause-value : goal.returns-in-Ok-clause-value
returns-in-Ok-clause-value c = λ numbers sent h.
    found_vessel c.args.self.now numbers sent c.in-Ok.at c.args.mmsi c.index.result.now h (here c)
    (c.index.ensures ∙ ap (λ (b : BookValue). get_or b.vessels c.in-Ok.at c.index.result.now) c.self.view_is)

pub returns-in-Ok-clause-kept : goal.returns-in-Ok-clause-kept
returns-in-Ok-clause-kept c =
    let book : BookValue = c.args.self.now in
    let is : IsBook book = subst IsBook c.self.view_is c.self.invariant in
    let each = is.each in
    let within : c.in-Ok.at < length book.held = slice_get_within book.held c.in-Ok.at c.args.mmsi (here c) in
    let value : c.index.result.now ≡ get_or book.vessels c.in-Ok.at c.index.result.now =
    c.index.ensures ∙ ap (λ (b : BookValue). get_or b.vessels c.in-Ok.at c.index.result.now) c.self.view_is in
    subst (IsKept book.keeping book.numbers.gap) (sym value) (All-get_or (IsKept book.keeping book.numbers.gap) book.vessels c.in-Ok.at c.index.result.now (omega arith) is.kept)

pub returns-in-Err-clause-value : goal.returns-in-Err-clause-value
returns-in-Err-clause-value c = λ numbers sent h.
    no_vessel c.args.self.now numbers sent c.args.mmsi h
    (subst (λ (ms : List ℕ). ¬ Contains ms c.args.mmsi) (c.deref.ensures.value ∙ ap (λ (b : BookValue). b.held) c.self.view_is) c.in-Err.ensures.absent)
