use Rattle.std.proofs.Common.{◌≡◌, List, [], ◌∷◌, ◌++◌, ◌+◌, sym, subst, arith}
use Rattle.std.specs.Prelude.{All}
use Rattle.std.proofs.lemmas.List.Elements.{All-push}
use Rattle.traces.specs.Known.{opened}
use Rattle.traces.specs.Window.{IsReadyFor}
use Rattle.traces.proofs.Keeping.{all_ready_after}
use Rattle.traces.proofs.each_trace.begin_one.Goals as goal

pub returns-clause-ready : goal.returns-clause-ready
returns-clause-ready g c =
    let keeper = g.K.TraceKeeper.keeper c.begin.new.self in
    let most = c.args.start + 1 in
    let old : List g.row.K-Kept.Denot = c.args.kept.now.items in
    let new : g.row.K-Kept.Denot = c.in_ok-begun.begun in
    let begun = c.in_ok-begun.ensures in
    let items : c.push.new.self.items ≡ old ++ new ∷ [] = c.in_ok-push.ensures.items in
    subst (λ (ks : List g.row.K-Kept.Denot). All (IsReadyFor keeper most) ks) (sym items)
    (All-push (IsReadyFor keeper most) old new (all_ready_after (g.K.TraceKeeper.keeper c.args.keeper.now) keeper most old begun.goes_on c.requires.ready)
    (record { ready = begun.ready; few = omega (arith, begun.none) }))

pub returns-clause-stands : goal.returns-clause-stands
returns-clause-stands g c = λ numbers step done rest given keeps le new.
    let keeper = g.K.TraceKeeper.keeper c.begin.new.self in
    let old : List g.row.K-Kept.Denot = c.args.kept.now.items in
    let items : c.push.new.self.items ≡ old ++ c.in_ok-begun.begun ∷ [] = c.in_ok-push.ensures.items in
    subst (λ (ks : List g.row.K-Kept.Denot). keeper.Stands numbers step ks done (rest ++ opened c.args.pair c.args.start ∷ []) given) (sym items)
    (c.in_ok-begun.ensures.stands numbers step old done rest given keeps le new)
