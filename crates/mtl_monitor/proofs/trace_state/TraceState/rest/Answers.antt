use Rattle.std.proofs.Common.{◌+◌, refl, inl, inr, arith}
use Rattle.mtl_monitor.specs.Inner.Quiet.{Walked}
use Rattle.mtl_monitor.specs.Inner.Reading.{ReadsAtoms}
use Rattle.mtl_monitor.proofs.Feeding.{Follows-walked, Walked-still}
use Rattle.mtl_monitor.proofs.trace_state.TraceState.rest.Goals as goal

pub returns-clause-follows : goal.returns-clause-follows
returns-clause-follows c = λ _ formulas rows row told h.
    let p = c.args.program.now in
    let s = c.args.self.now in
    let nodes = p.nodes.items in
    let values = s.values.items in
    let alike = c.are_alike.ensures in
    let walked : Walked nodes s.states.items values values s.moving.items s.passed (s.passed + 1) 0 s.states.items values s.moving.items s.still =
    rw c.if-not-self.false
    (Walked-still nodes s.states.items values values s.moving.items s.passed (s.passed + 1) (h.still c.if-not-self.false) (λ k inside. omega arith) p.below
    c.requires.fits.states c.requires.fits.values c.requires.fits.moving) in
    let unread : ReadsAtoms nodes values values 0 = record { changed = λ k unmarked. refl; others = λ k inside. inr refl } in
    Follows-walked p s _ formulas rows values 0 unread p.below row h refl refl
    (λ listed shown. elim shown [
      | inl nothing ↦ absurd (alike.shown c.if-not-are_alike.false nothing)
      | inr last ↦ record { shown = last; alike = alike.alike c.if-not-are_alike.false last.row row last.told told }
    ])
    walked
