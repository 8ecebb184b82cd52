use Rattle.traces.proofs.Growing.{follows_at}
use Rattle.traces.proofs.all_traces.AllTraces.state.Goals as goal

pub returns : goal.returns
returns c = λ numbers ticks front known back s at.
    c.state.ensures numbers ticks known (follows_at numbers ticks c.args.self.now.traces.items front known back c.args.index c.index.result.now c.index.ensures at s.holds.traces)
