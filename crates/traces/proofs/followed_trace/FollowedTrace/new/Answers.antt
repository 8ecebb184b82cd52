use Rattle.std.proofs.Common.{refl}
use Rattle.meetings.proofs.ForCallers.{follows_none}
use Rattle.traces.specs.Audited.{terms_of, trace_ranks}
use Rattle.traces.proofs.followed_trace.FollowedTrace.new.Goals as goal

pub returns-clause-follows : goal.returns-clause-follows
returns-clause-follows c = λ numbers ticks detect act tick. record {
  pair = refl;
  start = refl;
  follows = follows_none c.new.result (terms_of numbers) (trace_ranks ticks c.args.pair c.args.start) (rw (detect, act, tick) c.new.ensures);
}
