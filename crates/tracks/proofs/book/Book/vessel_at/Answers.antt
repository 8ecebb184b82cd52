use Rattle.std.proofs.Common.{◌≡◌, ◌∙◌, get_or, ap, sym, subst, arith}
use Rattle.std.proofs.lemmas.List.Elements.{All-get_or}
use Rattle.tracks.specs.Inner.Keeping.{IsBook, IsKept}
use Rattle.tracks.specs.Standing.{BookValue, VesselValue}
use Rattle.tracks.proofs.Seen.{legs_among-at}
use Rattle.tracks.proofs.Stands.{vessel_at}
use Rattle.tracks.proofs.book.Book.vessel_at.Goals as goal

-- she stands at the index in the book
at_index : (c : goal.After-index) → c.index.result.now ≡ get_or c.args.self.now.vessels c.args.at c.index.result.now
at_index c = c.index.ensures ∙ ap (λ (b : BookValue). get_or b.vessels c.args.at c.index.result.now) c.self.view_is

pub returns-clause-value : goal.returns-clause-value
returns-clause-value c = λ numbers sent mmsi stands here.
    vessel_at c.args.self.now numbers sent c.args.at mmsi c.index.result.now stands here (at_index c)

pub returns-clause-legs : goal.returns-clause-legs
returns-clause-legs c =
    let book : BookValue = c.args.self.now in
    let is : IsBook book = subst IsBook c.self.view_is c.self.invariant in
    ap (λ (v : VesselValue). v.legs) (at_index c) ∙ legs_among-at book.held book.vessels c.args.at c.index.result.now is.ascends is.each c.requires

pub returns-clause-kept : goal.returns-clause-kept
returns-clause-kept c =
    let book : BookValue = c.args.self.now in
    let is : IsBook book = subst IsBook c.self.view_is c.self.invariant in
    let each = is.each in
    subst (IsKept book.keeping book.numbers.gap) (sym (at_index c)) (All-get_or (IsKept book.keeping book.numbers.gap) book.vessels c.args.at c.index.result.now (omega arith) is.kept)
