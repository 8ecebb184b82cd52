use Rattle.std.proofs.Common.{[], ◌∷◌, ◌++◌}
use Rattle.mtl_monitor.proofs.monitor.Monitor.feed.Goals as goal

pub returns-clause-answer : goal.returns-clause-answer
returns-clause-answer g c = λ t rows h.
    c.answer.ensures.fed (t ∷ []) (rows ++ g.A.Atoms.answer c.args.row.now ∷ []) (c.feed-changed.ensures.follows (t ∷ []) rows h)
