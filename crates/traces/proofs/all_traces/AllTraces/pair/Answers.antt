use Rattle.traces.proofs.Growing.{follows_at}
use Rattle.traces.proofs.all_traces.AllTraces.pair.Goals as goal

pub returns : goal.returns
returns c = λ numbers ticks front known back s at.
    (follows_at numbers ticks c.args.self.now.traces.items front known back c.args.index c.index.result.now c.index.ensures at s.holds.traces).pair
