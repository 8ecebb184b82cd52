use Rattle.traces.specs.Audited.{terms_of, trace_ranks}
use Rattle.traces.proofs.followed_trace.FollowedTrace.state.Goals as goal

pub returns : goal.returns
returns c = λ numbers ticks known h. c.state.ensures (terms_of numbers) (trace_ranks ticks known.pair known.start) known.steps h.follows
