use Rattle.std.proofs.Common.{◌∙◌, map, refl, ap, subst, sym}
use Rattle.tracks.specs.Standing.{BookValue, StandsFor, forgetting}
use Rattle.tracks.specs.Inner.Keeping.{vessel_since}
use Rattle.tracks.specs.declared.book.Book.TheInside.{Inside}
use Rattle.tracks.proofs.Gone.{is_book_since, stands_since}
use Rattle.tracks.proofs.book.Book.forget.Goals as goal

pub invariant_of-self : goal.invariant_of-self
invariant_of-self c =
    let old : BookValue = record { keeping = c.self.inside.keeping; numbers = c.self.inside.numbers; held = c.self.inside.held.items; vessels = c.self.inside.vessels.items } in
    is_book_since old _ c.in-Some.earliest c.self.invariant refl (ap (λ (i : Inside). i.numbers) c.self-inside.view_is) (ap (λ (i : Inside). i.held.items) c.self-inside.view_is)
    (c.forget_each.ensures ∙ ap (λ (i : Inside). map (vessel_since i.numbers.gap c.in-Some.earliest) i.vessels.items) c.self-inside.view_is)

pub returns-clause-stands : goal.returns-clause-stands
returns-clause-stands c = λ numbers sent h.
    let old : BookValue = record { keeping = c.self.inside.keeping; numbers = c.self.inside.numbers; held = c.self.inside.held.items; vessels = c.self.inside.vessels.items } in
    let before : StandsFor old numbers sent = subst (λ (b : BookValue). StandsFor b numbers sent) (sym c.self.view_is) h in
    stands_since old _ numbers sent c.args.time c.in-Some.earliest before
    (ap (λ (i : Inside). forgetting i.keeping c.args.time) (sym c.self-inside.view_is) ∙ c.in-Some.ensures) refl (ap (λ (i : Inside). i.numbers) c.self-inside.view_is) (ap (λ (i : Inside). i.held.items) c.self-inside.view_is)
    (c.forget_each.ensures ∙ ap (λ (i : Inside). map (vessel_since i.numbers.gap c.in-Some.earliest) i.vessels.items) c.self-inside.view_is)
