use Rattle.std.proofs.Common.{◌≡◌, ◌∙◌, ◌<◌, ◌≤◌, length, Ok, Err, true, refl, ap, sym, subst}
use Rattle.std.specs.Prelude.{OnOk, Result}
use Rattle.std.specs.List.{Contains, insert}
use Rattle.tracks.specs.Standing.{BookValue, StandsFor, VesselValue}
use Rattle.tracks.specs.VesselsHeld.{Sent, with_number}
use Rattle.tracks.specs.Inner.Keeping.{makes_held, untold, vessel_after}
use Rattle.tracks.proofs.Books.{is_book_after}
use Rattle.tracks.proofs.Stands.{stands_as}
use Rattle.tracks.specs.declared.book.TheConstants.{MOST_VESSELS}
use Rattle.tracks.proofs.book.Book.hold.Goals as goal

pub invariant_of-self : goal.invariant_of-self
invariant_of-self c =
    let old : BookValue = record { keeping = c.self.inside.keeping; numbers = c.self.inside.numbers; held = c.self.inside.held.items; vessels = c.self.inside.vessels.items } in
    is_book_after c.put.result old _ c.args.at c.args.mmsi c.take.new.self c.self.invariant
    (subst (λ (b : BookValue). c.args.at ≤ length b.held) (sym c.self.view_is) c.requires.place)
    (subst (λ (b : BookValue). length b.held < MOST_VESSELS) (sym c.self.view_is) c.requires.room)
    (subst (λ (b : BookValue). with_number c.args.mmsi b.held ≡ insert b.held c.args.at c.args.mmsi) (sym c.self.view_is) c.requires.more)
    c.take.ensures.kept refl refl c.put.ensures.held c.put.ensures.vessels c.put.ensures.held_same c.put.ensures.vessels_same

-- both clauses of one result
both : {T E P Q R : Type 0} (r : Result T E) → (P → Q → R) → OnOk r P → OnOk r Q → OnOk r R
both (Ok x) f p q = f p q
both (Err e) f p q = tt

pub returns-clause-stands : goal.returns-clause-stands
returns-clause-stands c =
    let old : BookValue = record { keeping = c.self.inside.keeping; numbers = c.self.inside.numbers; held = c.self.inside.held.items; vessels = c.self.inside.vessels.items } in
    let one : Sent = record { message = c.args.message.now; time = c.args.time } in
    let taken : c.take.new.self ≡ vessel_after c.self.inside.keeping c.self.inside.numbers untold one =
    c.in_ok-take.ensures.ok ∙ ap (λ (v : VesselValue). vessel_after c.self.inside.keeping c.self.inside.numbers v one) c.new-vessel.ensures in
    both c.put.result
    (λ held vessels numbers sent h.
    stands_as old _ numbers sent one c.args.at c.args.mmsi c.requires.sender
    (subst (λ (b : BookValue). StandsFor b numbers sent) (sym c.self.view_is) h)
    (subst (λ (b : BookValue). ¬ Contains b.held c.args.mmsi) (sym c.self.view_is) c.requires.absent)
    (subst (λ (b : BookValue). makes_held b.numbers one ≡ true) (sym c.self.view_is) c.requires.holding)
    (subst (λ (b : BookValue). with_number c.args.mmsi b.held ≡ insert b.held c.args.at c.args.mmsi) (sym c.self.view_is) c.requires.more)
    refl refl held (vessels ∙ ap (insert c.self.inside.vessels.items c.args.at) taken))
    c.put.ensures.held c.put.ensures.vessels
